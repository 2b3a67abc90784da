-- One znode more, after those before it, and so a whole list of znodes.
use Rattle.std.proofs.Common.{◌≡◌, ℕ, ◌+◌, ◌<◌, ◌≤◌, ℤ, Bool, true, false, if◌then◌else◌, not, ◌||◌, cond, List, [], ◌∷◌, ◌++◌, Option, Some, None, is_some, is_none, is_eq, All, refl, sym, ap, ◌∙◌, subst, append_assoc, arith}
use Rattle.std.specs.Option.{option_or}
use Rattle.std.proofs.lemmas.List.{append-nil}
use Rattle.std.specs.List.{count_by}
use Rattle.std.proofs.lemmas.List.Elements.{All-nil, All-head, All-tail, All-push}
use Rattle.kz_types.specs.declared.limits.TheConstants.{MAX_ZNODES}
use Rattle.kz_types.specs.declared.tree.Row.{Row}
use Rattle.kz_types.specs.Paths.{is_migrated}
use Rattle.kz_types.specs.Order.{bytes_cmp}
use Rattle.kz_types.specs.Ordered.{Rises}
use Rattle.kz_types.proofs.Order.{bytes_order}
use Rattle.kz_types.proofs.Append.{find-append, Rises-push}
use Rattle.kz_types.proofs.Lookup.{key_of_found}
use Rattle.kz_spec_data.specs.Tree.{path_of_row, row_at, parent_of, is_root, has_parent, is_ephemeral, count_beside}
use Rattle.kz_spec_data.specs.Loads.{LoadRefusal, row_refusal, are_loadable}
use Rattle.kz_spec_machine.specs.Sound.{IsStamped, IsNotRoot, IsUnreserved, Lasts, IsOwned, IsSmall, HaveParents, ParentsStay}
use Rattle.kz_laws_machine.proofs.KeptLimits.{many, many_is, side}
use Rattle.kz_laws_loads.proofs.Sessions.{and_parts}
use Rattle.kz_laws_loads.proofs.Rules.{IsNext, next}

-- ---- look-ups with one znode more

abbrev with_last : List Row → Row → List Row
with_last before r = before ++ r ∷ []

at_with : (path : List ℕ) (before : List Row) (r : Row) → row_at path (with_last before r) ≡ option_or (row_at path before) (row_at path (r ∷ []))
at_with path before r = find-append bytes_cmp path_of_row path before (r ∷ [])

still_some : (m n : Option Row) → is_some m ≡ true → is_some (option_or m n) ≡ true
still_some None n there = absurd (cc)
still_some (Some x) n there = refl

or_more : (a b c : Bool) → (b ≡ true → c ≡ true) → (a || b) ≡ true → (a || c) ≡ true
or_more true b c more is = refl
or_more false b c more is = more is

-- a parent is still there
parent_kept : (path : List ℕ) (before : List Row) (r : Row) → has_parent path before ≡ true → has_parent path (with_last before r) ≡ true
parent_kept path before r is = or_more (is_root (parent_of path)) (is_some (row_at (parent_of path) before)) (is_some (row_at (parent_of path) (with_last before r)))
    (λ there. ap is_some (at_with (parent_of path) before r) ∙ still_some (row_at (parent_of path) before) (row_at (parent_of path) (r ∷ [])) there) is

-- a znode that is there was there, or is the last one
data Stood (path : List ℕ) (before : List Row) (r : Row) : Type 0 where
  before_it : is_some (row_at path before) ≡ true → Stood path before r
  itself : r.path ≡ path → Stood path before r

-- what is found where there is one znode is this one
is_only : (path : List ℕ) (r : Row) (m : Option Row) → row_at path (r ∷ []) ≡ m → is_some m ≡ true → r.path ≡ path
is_only path r None is there = absurd (cc)
is_only path r (Some x) is there = by_test (is_eq (bytes_cmp path r.path)) refl
  where
    by_test : (b : Bool) → is_eq (bytes_cmp path r.path) ≡ b → r.path ≡ path
    by_test true test = key_of_found bytes_order path_of_row path (r ∷ []) r (rw test refl)
    by_test false test = absurd (let none : row_at path (r ∷ []) ≡ None = rw test refl in cc)

stood : (path : List ℕ) (before : List Row) (r : Row) → is_some (row_at path (with_last before r)) ≡ true → Stood path before r
stood path before r there = by_old (row_at path before) refl
  where
    by_old : (m : Option Row) → row_at path before ≡ m → Stood path before r
    by_old (Some x) is = before_it (ap is_some is)
    by_old None is = itself (is_only path r (row_at path (r ∷ [])) refl (sym (ap is_some (at_with path before r ∙ ap (λ m. option_or m (row_at path (r ∷ []))) is)) ∙ there))

-- a znode isn't found at the root's path
never_root : (path : List ℕ) (r : Row) → is_root path ≡ true → IsNotRoot r → row_at path (r ∷ []) ≡ None
never_root path r root named = by_found (row_at path (r ∷ [])) refl
  where
    by_found : (m : Option Row) → row_at path (r ∷ []) ≡ m → m ≡ None
    by_found None is = refl
    by_found (Some x) is = absurd (let same = ap is_root (is_only path r (Some x) is refl) in cc)

-- what is the root or there, and ends with no session, still doesn't with one znode more
stay_with : (path : List ℕ) (before : List Row) (r : Row) → (is_root path || is_some (row_at path before)) ≡ true → IsNotRoot r → is_ephemeral (row_at path before) ≡ false → is_ephemeral (row_at path (with_last before r)) ≡ false
stay_with path before r there named stays = by_old (row_at path before) refl
  where
    root_of : (a : Bool) → (a || false) ≡ true → a ≡ true
    root_of true is = refl
    root_of false is = absurd (cc)

    by_old : (m : Option Row) → row_at path before ≡ m → is_ephemeral (row_at path (with_last before r)) ≡ false
    by_old (Some x) is = ap is_ephemeral (at_with path before r ∙ ap (λ m. option_or m (row_at path (r ∷ []))) is) ∙ sym (ap is_ephemeral is) ∙ stays
    by_old None is = ap is_ephemeral (at_with path before r ∙ ap (λ m. option_or m (row_at path (r ∷ []))) is
        ∙ never_root path r (root_of (is_root path) (ap (λ m. is_root path || is_some m) (sym is) ∙ there)) named)

-- ---- counts with one znode more

same_order : (a b c : ℕ) → a + (b + c) ≡ (a + b) + c
same_order a b c = omega arith

zero_last : (a : ℕ) → a + 0 ≡ 0 + a
zero_last a = omega arith

many_with : (p : List ℕ → Bool) (before : List Row) (r : Row) → many p (with_last before r) ≡ many p before + cond (p r.path) 1 0
many_with p [] r = zero_last (cond (p r.path) 1 0)
many_with p (x ∷ xs) r = ap (λ n. cond (p x.path) 1 0 + n) (many_with p xs r) ∙ same_order (cond (p x.path) 1 0) (many p xs) (cond (p r.path) 1 0)

side_is : (b m : Bool) → (if b then m else not m) ≡ true → m ≡ b
side_is true m is = is
side_is false true is = absurd (cc)
side_is false false is = refl

one_more : (a b : ℕ) → a ≡ b + 1 → b < MAX_ZNODES → a ≤ MAX_ZNODES
one_more a b is few = omega arith

no_more : (a b : ℕ) → a ≡ b + 0 → b ≤ MAX_ZNODES → a ≤ MAX_ZNODES
no_more a b is few = omega arith

-- the znodes on each side of the border stay within the limit
few_with : (b : Bool) (before : List Row) (r : Row) → count_beside r.path before < MAX_ZNODES → many (side b) before ≤ MAX_ZNODES → many (side b) (with_last before r) ≤ MAX_ZNODES
few_with b before r room few = by_side (side b r.path) refl
  where
    by_side : (own : Bool) → side b r.path ≡ own → many (side b) (with_last before r) ≤ MAX_ZNODES
    by_side true is =
        let count : count_beside r.path before ≡ many (side b) before = ap (λ c. count_by (λ (x : Row). if c then is_migrated x.path else not (is_migrated x.path)) before) (side_is b (is_migrated r.path) is) ∙ many_is (side b) before in
        one_more (many (side b) (with_last before r)) (many (side b) before) (many_with (side b) before r ∙ ap (λ own. many (side b) before + cond own 1 0) is) (subst (λ (n : ℕ). n < MAX_ZNODES) count room)
    by_side false is = no_more (many (side b) (with_last before r)) (many (side b) before) (many_with (side b) before r ∙ ap (λ own. many (side b) before + cond own 1 0) is) few

-- ---- znodes that keep the rules

-- what a load's znodes keep
pub record AreRows (zxid : ℤ) (sessions : List ℤ) (rows : List Row) : Type 0 where
  pub rise : Rises bytes_cmp path_of_row rows
  pub free : All IsUnreserved rows
  pub parents : HaveParents rows
  pub stamped : All (IsStamped zxid) rows
  pub last : All Lasts rows
  pub stay : ParentsStay rows
  pub owned : All (IsOwned sessions) rows
  pub each : All IsSmall rows
  pub few : (b : Bool) → many (side b) rows ≤ MAX_ZNODES

none_few : 0 ≤ MAX_ZNODES
none_few = omega arith

pub no_rows : (zxid : ℤ) (sessions : List ℤ) → AreRows zxid sessions []
no_rows zxid sessions = record {
  rise = tt;
  free = All-nil IsUnreserved;
  parents = λ path there. absurd (cc);
  stamped = All-nil (IsStamped zxid);
  last = All-nil Lasts;
  stay = λ path there. absurd (cc);
  owned = All-nil (IsOwned sessions);
  each = All-nil IsSmall;
  few = λ b. none_few;
}

-- each znode's parent is there
parents_with : (zxid : ℤ) (sessions : List ℤ) (before : List Row) (r : Row) → AreRows zxid sessions before → IsNext zxid sessions before r → HaveParents (with_last before r)
parents_with zxid sessions before r old n path there = parent_kept path before r (elim (stood path before r there) [
  | before_it was ↦ old.parents path was
  | itself is ↦ subst (λ q. has_parent q before ≡ true) is n.parent
])

-- no znode's parent ends with a session
stays_with : (zxid : ℤ) (sessions : List ℤ) (before : List Row) (r : Row) → AreRows zxid sessions before → IsNext zxid sessions before r → IsNotRoot r → ParentsStay (with_last before r)
stays_with zxid sessions before r old n named path there = elim (stood path before r there) [
  | before_it was ↦ stay_with (parent_of path) before r (old.parents path was) named (old.stay path was)
  | itself is ↦ subst (λ q. is_ephemeral (row_at (parent_of q) (with_last before r)) ≡ false) is (stay_with (parent_of r.path) before r n.parent named n.stays)
]

one_further : (zxid : ℤ) (sessions : List ℤ) (before : List Row) (r : Row) → AreRows zxid sessions before → IsNext zxid sessions before r → IsNotRoot r → AreRows zxid sessions (with_last before r)
one_further zxid sessions before r old n named = record {
  rise = Rises-push bytes_order path_of_row before r old.rise n.after;
  free = All-push IsUnreserved before r old.free n.free;
  parents = parents_with zxid sessions before r old n;
  stamped = All-push (IsStamped zxid) before r old.stamped n.stamped;
  last = All-push Lasts before r old.last n.last;
  stay = stays_with zxid sessions before r old n named;
  owned = All-push (IsOwned sessions) before r old.owned n.owned;
  each = All-push IsSmall before r old.each n.small;
  few = λ b. few_with b before r n.few (old.few b);
}

no_refusal : (m : Option LoadRefusal) → is_none m ≡ true → m ≡ None
no_refusal None is = refl
no_refusal (Some x) is = absurd (cc)

further : (zxid : ℤ) (sessions : List ℤ) (rows before : List Row) → AreRows zxid sessions before → are_loadable zxid sessions before rows ≡ true → All IsNotRoot rows → AreRows zxid sessions (before ++ rows)
further zxid sessions [] before old load named = subst (AreRows zxid sessions) (sym (append-nil before)) old
further zxid sessions (r ∷ rs) before old load named =
    let parts = and_parts (is_none (row_refusal zxid sessions before r)) (are_loadable zxid sessions (with_last before r) rs) load in
    let n = next zxid sessions before r (no_refusal (row_refusal zxid sessions before r) parts.0) in
    subst (AreRows zxid sessions) (append_assoc before (r ∷ []) rs)
    (further zxid sessions rs (with_last before r) (one_further zxid sessions before r old n (All-head IsNotRoot r rs named)) parts.1 (All-tail IsNotRoot r rs named))

pub loaded_rows : (zxid : ℤ) (sessions : List ℤ) (rows : List Row) → are_loadable zxid sessions [] rows ≡ true → All IsNotRoot rows → AreRows zxid sessions rows
loaded_rows zxid sessions rows load named = further zxid sessions rows [] (no_rows zxid sessions) load named
