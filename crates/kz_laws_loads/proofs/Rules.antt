-- What the rules of a load say of a znode.
use Rattle.std.proofs.Common.{◌≡◌, ℕ, ◌<◌, ◌≤◌, ℤ, pos, ◌≤ℤ◌, Bool, true, false, not, ◌&&◌, ◌||◌, cond, List, [], ◌∷◌, length, Option, Some, None, is_some, is_none, refl, arith, Ordering, Less, Equal, Greater}
use Rattle.std.specs.Prelude.{int_le, nat_lt, nat_le}
use Rattle.std.specs.List.{list_all}
use Rattle.std.specs.Ordering.{match_ordering}
use Rattle.std.proofs.lemmas.Bool.Decides.{nat_tests}
use Rattle.std.proofs.lemmas.Int.{ints}
use Rattle.std.proofs.lemmas.List.Elements.{All-nil, All-cons}
use Rattle.kz_types.specs.declared.limits.TheConstants.{MAX_BODY_BYTES, MAX_VERSION, MAX_ZNODES}
use Rattle.kz_types.specs.declared.tree.Row.{Row}
use Rattle.kz_types.specs.Paths.{kind_of}
use Rattle.kz_types.specs.Order.{bytes_cmp}
use Rattle.kz_types.specs.Ordered.{AllBelow}
use Rattle.kz_spec_data.specs.Tree.{path_of_row, row_at, parent_of, has_parent, is_ephemeral, may_own, count_beside, limit_beside}
use Rattle.kz_spec_data.specs.Loads.{LoadRefusal, broken, limit, is_before, are_zxids, is_lasting, is_reserved, is_loadable, row_refusal}
use Rattle.kz_spec_machine.specs.Sound.{IsStamped, IsUnreserved, Lasts, IsOwned, IsSmall}
use Rattle.kz_laws_loads.proofs.Sessions.{and_parts, at_most}
use Rattle.kz_laws_loads.proofs.Reserved.{unreserved}

-- ---- tests

negated : (b : Bool) → not b ≡ true → b ≡ false
negated true h = absurd (cc)
negated false h = refl

keeps : (b : Bool) (rest : Option LoadRefusal) → cond (not b) (Some broken) rest ≡ None → (b ≡ true) × (rest ≡ None)
keeps true rest h = (refl, h)
keeps false rest h = absurd (cc)

passes : (b : Bool) (refusal : LoadRefusal) (rest : Option LoadRefusal) → cond b (Some refusal) rest ≡ None → (b ≡ false) × (rest ≡ None)
passes true refusal rest h = absurd (cc)
passes false refusal rest h = (refl, h)

not_more : (a b : ℕ) → nat_lt b a ≡ false → a ≤ b
not_more a b is = grind (arith, nat_tests)

fewer : (a b : ℕ) → nat_le b a ≡ false → a < b
fewer a b is = grind (arith, nat_tests)

chain : (a b c : ℤ) → a ≤ℤ b → b ≤ℤ c → a ≤ℤ c
chain a b c x y = omega (arith, ints)

-- ---- paths rise

less_of : (o : Ordering) → match_ordering o true false false ≡ true → o ≡ Less
less_of Less h = refl
less_of Equal h = absurd (cc)
less_of Greater h = absurd (cc)

all_below : (path : List ℕ) (rows : List Row) → list_all (is_before path) rows ≡ true → AllBelow bytes_cmp path_of_row rows path
all_below path [] h = All-nil (λ (x : Row). bytes_cmp (path_of_row x) path ≡ Less)
all_below path (r ∷ rs) h =
    let parts = and_parts (is_before path r) (list_all (is_before path) rs) h in
    All-cons (λ (x : Row). bytes_cmp (path_of_row x) path ≡ Less) r rs (less_of (bytes_cmp r.path path) parts.0) (all_below path rs parts.1)

-- ---- owners

lasts : (owner : Option ℤ) (lasting : Bool) → (is_none owner || not lasting) ≡ true → is_some owner ≡ true → lasting ≡ false
lasts None lasting may held = absurd (cc)
lasts (Some s) lasting may held = negated lasting may

-- ---- one znode

-- what is true of a znode after those before it
pub record IsNext (zxid : ℤ) (sessions : List ℤ) (before : List Row) (r : Row) : Type 0 where
  pub after : AllBelow bytes_cmp path_of_row before r.path
  pub parent : has_parent r.path before ≡ true
  pub stays : is_ephemeral (row_at (parent_of r.path) before) ≡ false
  pub stamped : IsStamped zxid r
  pub owned : IsOwned sessions r
  pub last : Lasts r
  pub free : IsUnreserved r
  pub small : IsSmall r
  pub few : count_beside r.path before < MAX_ZNODES

-- what the rules but the limits say
record KeepsRules (zxid : ℤ) (sessions : List ℤ) (before : List Row) (r : Row) : Type 0 where
  after : list_all (is_before r.path) before ≡ true
  parent : has_parent r.path before ≡ true
  stays : not (is_ephemeral (row_at (parent_of r.path) before)) ≡ true
  least : int_le (pos 0) r.version ≡ true
  most : int_le r.version MAX_VERSION ≡ true
  zxids : are_zxids zxid r ≡ true
  owned : may_own r.owner sessions ≡ true
  last : (is_none r.owner || not (is_lasting r)) ≡ true
  free : not (is_reserved (kind_of r.path)) ≡ true

nine : (a b c d e f g h i : Bool) → (a && b && c && d && e && f && g && h && i) ≡ true
    → (a ≡ true) × (b ≡ true) × (c ≡ true) × (d ≡ true) × (e ≡ true) × (f ≡ true) × (g ≡ true) × (h ≡ true) × (i ≡ true)
nine a b c d e f g h i all =
    let p1 = and_parts (a && b && c && d && e && f && g && h) i all in
    let p2 = and_parts (a && b && c && d && e && f && g) h p1.0 in
    let p3 = and_parts (a && b && c && d && e && f) g p2.0 in
    let p4 = and_parts (a && b && c && d && e) f p3.0 in
    let p5 = and_parts (a && b && c && d) e p4.0 in
    let p6 = and_parts (a && b && c) d p5.0 in
    let p7 = and_parts (a && b) c p6.0 in
    let p8 = and_parts a b p7.0 in
    (p8.0, p8.1, p7.1, p6.1, p5.1, p4.1, p3.1, p2.1, p1.1)

rules : (zxid : ℤ) (sessions : List ℤ) (before : List Row) (r : Row) → is_loadable zxid sessions before r ≡ true → KeepsRules zxid sessions before r
unfolding is_loadable
rules zxid sessions before r h =
    let all = nine (list_all (is_before r.path) before) (has_parent r.path before) (not (is_ephemeral (row_at (parent_of r.path) before)))
    (int_le (pos 0) r.version) (int_le r.version MAX_VERSION) (are_zxids zxid r) (may_own r.owner sessions) (is_none r.owner || not (is_lasting r)) (not (is_reserved (kind_of r.path))) h in
    record {
      after = all.0;
      parent = all.1;
      stays = all.2;
      least = all.3;
      most = all.4;
      zxids = all.5;
      owned = all.6;
      last = all.7;
      free = all.8;
    }

stamped : (zxid : ℤ) (r : Row) → int_le (pos 0) r.version ≡ true → are_zxids zxid r ≡ true → IsStamped zxid r
stamped zxid r version h =
    let p1 = and_parts (int_le (pos 1) r.czxid && int_le r.czxid r.mzxid && int_le r.czxid r.pzxid && int_le r.mzxid zxid) (int_le r.pzxid zxid) h in
    let p2 = and_parts (int_le (pos 1) r.czxid && int_le r.czxid r.mzxid && int_le r.czxid r.pzxid) (int_le r.mzxid zxid) p1.0 in
    let p3 = and_parts (int_le (pos 1) r.czxid && int_le r.czxid r.mzxid) (int_le r.czxid r.pzxid) p2.0 in
    let p4 = and_parts (int_le (pos 1) r.czxid) (int_le r.czxid r.mzxid) p3.0 in
    let since = at_most r.czxid r.mzxid p4.1 in
    let modified = at_most r.mzxid zxid p2.1 in
    record {
      least = at_most (pos 1) r.czxid p4.0;
      modified_since = since;
      children_since = at_most r.czxid r.pzxid p3.1;
      created = chain r.czxid r.mzxid zxid since modified;
      modified = modified;
      children = at_most r.pzxid zxid p1.1;
      version = at_most (pos 0) r.version version;
    }

pub next : (zxid : ℤ) (sessions : List ℤ) (before : List Row) (r : Row) → row_refusal zxid sessions before r ≡ None → IsNext zxid sessions before r
next zxid sessions before r h =
    let loadable = keeps (is_loadable zxid sessions before r) _ h in
    let body = passes (nat_lt MAX_BODY_BYTES (length r.body)) (limit 2) _ loadable.1 in
    let room = passes (nat_le MAX_ZNODES (count_beside r.path before)) (limit (limit_beside r.path)) None body.1 in
    let k = rules zxid sessions before r loadable.0 in
    record {
      after = all_below r.path before k.after;
      parent = k.parent;
      stays = negated (is_ephemeral (row_at (parent_of r.path) before)) k.stays;
      stamped = stamped zxid r k.least k.zxids;
      owned = k.owned;
      last = lasts r.owner (is_lasting r) k.last;
      free = unreserved r.path (negated (is_reserved (kind_of r.path)) k.free);
      small = record { body = not_more (length r.body) MAX_BODY_BYTES body.0; version = at_most r.version MAX_VERSION k.most };
      few = fewer (count_beside r.path before) MAX_ZNODES room.0;
    }
