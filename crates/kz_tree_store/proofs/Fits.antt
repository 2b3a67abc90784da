-- What a tree took, and what keeps the rules of a load, fits the fields of its transaction.
use Rattle.std.proofs.Common.{◌≡◌, ◌⊎◌, inl, inr, ℕ, ◌+◌, ◌^◌, ◌<◌, ◌≤◌, ℤ, pos, negsuc, ◌+ℤ◌, ◌≤ℤ◌, ◌<ℤ◌, Bool, true, false, cond, List, [], ◌∷◌, ◌++◌, length, Option, Some, None, Result, Ok, Err, refl, sym, subst, length-append, arith}
use Rattle.std.specs.Prelude.{int_le, not, ◌&&◌, ◌||◌, is_none}
use Rattle.std.specs.List.{list_all}
use Rattle.std.specs.Ordering.{int_cmp, int_eq, MatchOrdering}
use Rattle.std.specs.declared.cmp.Ordering.{Ordering}
use Rattle.std.proofs.lemmas.Cmp.{int_ranked}
use Rattle.std.specs.declared.cmp.Ordering.TheVariants.{Less, Equal, Greater}
use Rattle.std.specs.Int.{w32, w64, to_be_bytes, cast_unsigned}
use Rattle.std.specs.Int.RustNames.{FitsSigned}
use Rattle.std.proofs.lemmas.Bool.Decides.{Decides-int_eq}
use Rattle.std.proofs.lemmas.Int.{ints}
use Rattle.kz_types.specs.Ordered.{Rises, RisesAbove, put, without}
use Rattle.kz_types.specs.declared.limits.TheConstants.{MAX_LONG}
use Rattle.kz_types.specs.declared.tree.Row.{Row}
use Rattle.kz_types.specs.declared.tree.Op.{Op}
use Rattle.kz_types.specs.declared.tree.Op.TheVariants.{Create, Set, Delete, Check}
use Rattle.kz_types.specs.declared.fault.TreeFault.{TreeFault}
use Rattle.kz_spec_data.specs.Forms.{items_written, AllFit}
use Rattle.kz_spec_data.specs.Tree.{Tree, Refusal, code, limit, is_live, may_own, op_refusal, after_op, rows_unless_refused, without_owned, after_ops, with_zxid, with_sessions, multi, begin_session, end_session}
use Rattle.kz_spec_data.specs.declared.files.Txn.TheVariants.{Multi, LoadRows, LoadEnd, Begin, End}
use Rattle.kz_spec_data.specs.Transactions.{byte_field, owner_bytes, session, max_session, MayBeOwner, create, set, at_version, op, op_written, row, txn_written}
use Rattle.kz_spec_data.specs.Loads.{LoadRefusal, rise_from, is_header, is_loadable, is_lasting, is_reserved, row_refusal, are_loadable, is_load}
use Rattle.kz_tree_store.specs.Held.{ArePositive}
use Rattle.kz_tree_store.specs.Changes.{FitsIfFew}
use Rattle.kz_tree_store.specs.Payloads.{IsOwnerHeld, IsOpHeld, IsRowHeld}
use Rattle.kz_tree_store.proofs.Positive.{both, header_positive}

abbrev AreFew : List ℕ → Type 0
AreFew bytes = length bytes < 2 ^ 32

first_part : (a b : List ℕ) → AreFew (a ++ b) → AreFew a
first_part a b h = let e = length-append a b in omega (arith, e, h)

second_part : (a b : List ℕ) → AreFew (a ++ b) → AreFew b
second_part a b h = let e = length-append a b in omega (arith, e, h)

few_bytes : (x : List ℕ) → AreFew (byte_field.written x) → AreFew x
few_bytes x h = second_part (to_be_bytes w32 (length x)) x h

-- ---- owners

is_at_least : (a b : ℤ) → int_le a b ≡ true → a ≤ℤ b
is_at_least a b h = grind (arith, ints)

found_by : (b : Bool) (t s : ℤ) (rest : Bool) → int_eq t s ≡ b → (b || rest) ≡ true → (t ≡ s) ⊎ (rest ≡ true)
found_by true t s rest is h = inl ((Decides-int_eq t s).0 is)
found_by false t s rest is h = inr h

live_positive : (s : ℤ) (ss : List ℤ) → ArePositive ss → is_live s ss ≡ true → pos 1 ≤ℤ s
live_positive s [] all h = absurd (cc)
live_positive s (t ∷ ts) all h =
    let p = both (int_le (pos 1) t) (list_all (int_le (pos 1)) ts) all in
    elim (found_by (int_eq t s) t s (is_live s ts) refl h) [
      | inl same ↦ subst (λ z. pos 1 ≤ℤ z) same (is_at_least (pos 1) t p.0)
      | inr more ↦ live_positive s ts p.1 more
    ]

high : (s : ℤ) → FitsSigned w64 s → pos 1 ≤ℤ s → s ≤ℤ pos max_session
high (pos n) fits low = let h : n < 2 ^ 63 = fits.sfits in omega (arith, ints, h)
high (negsuc n) fits low = absurd (omega (arith, ints, low))

owner_fits : (o : Option ℤ) (ss : List ℤ) → ArePositive ss → IsOwnerHeld o → may_own o ss ≡ true → MayBeOwner o
owner_fits None ss all held h = tt
owner_fits (Some s) ss all held h = let low = live_positive s ss all h in (low, high s held low)

-- ---- operations

-- the owner of a znode that an operation makes may be one
abbrev OwnerFits : Op → Type 0
OwnerFits (Create p body o) = MayBeOwner o
OwnerFits (Set p body version) = Unit {0}
OwnerFits (Delete p version) = Unit {0}
OwnerFits (Check p version) = Unit {0}

is_taken : (b : Bool) → not b ≡ false → b ≡ true
is_taken true h = refl
is_taken false h = absurd (cc)

none_first : (b : Bool) (r : Refusal) (rest : Option Refusal) → cond b (Some r) rest ≡ None → b ≡ false
none_first true r rest h = absurd (cc)
none_first false r rest h = refl

op_owner : (ss : List ℤ) (o : Op) (rows : List Row) → ArePositive ss → IsOpHeld o → op_refusal ss o rows ≡ None → OwnerFits o
op_owner ss (Create p body o) rows all held h = owner_fits o ss all held.1 (is_taken (may_own o ss) (none_first (not (may_own o ss)) _ _ h))
op_owner ss (Set p body version) rows all held h = tt
op_owner ss (Delete p version) rows all held h = tt
op_owner ss (Check p version) rows all held h = tt

unrefused : (index : ℕ) (r : Option Refusal) (rest : Result (List Row) TreeFault) (new : List Row) → rows_unless_refused index r rest ≡ Ok new → (r ≡ None) × (rest ≡ Ok new)
unrefused index None rest new h = (refl, h)
unrefused index (Some (code c)) rest new h = absurd (cc)
unrefused index (Some (limit n)) rest new h = absurd (cc)

op_fits : (o : Op) → IsOpHeld o → OwnerFits o → AreFew (op_written o) → op.fits o
op_fits (Create p body o) held own few =
    let all : AreFew (create.written (p, (body, o))) = omega (arith, few) in
    let rest = second_part (byte_field.written p) (byte_field.written body ++ owner_bytes o) all in
    ((held.0, few_bytes p (first_part (byte_field.written p) (byte_field.written body ++ owner_bytes o) all)), (few_bytes body (first_part (byte_field.written body) (owner_bytes o) rest), own))
op_fits (Set p body version) held own few =
    let number = to_be_bytes w32 (cast_unsigned w32 version) in
    let all : AreFew (set.written (p, (version, body))) = omega (arith, few) in
    let rest = second_part (byte_field.written p) (number ++ byte_field.written body) all in
    ((held.0, few_bytes p (first_part (byte_field.written p) (number ++ byte_field.written body) all)), (held.1, few_bytes body (second_part number (byte_field.written body) rest)))
op_fits (Delete p version) held own few =
    let all : AreFew (at_version.written (p, version)) = omega (arith, few) in
    ((held.0, few_bytes p (first_part (byte_field.written p) (to_be_bytes w32 (cast_unsigned w32 version)) all)), held.1)
op_fits (Check p version) held own few =
    let all : AreFew (at_version.written (p, version)) = omega (arith, few) in
    ((held.0, few_bytes p (first_part (byte_field.written p) (to_be_bytes w32 (cast_unsigned w32 version)) all)), held.1)

op_some : (o : Op) → 0 < length (op_written o)
op_some (Create p body o) = omega arith
op_some (Set p body version) = omega arith
op_some (Delete p version) = omega arith
op_some (Check p version) = omega arith

record Fits {X : Type 0} (fits : X → Type 0) (written : X → List ℕ) (xs : List X) : Type 0 where
  all : AllFit fits xs
  few : length xs ≤ length (items_written written xs)

ops_fit : (ss : List ℤ) (zxid : ℤ) (index : ℕ) (ops : List Op) (rows new : List Row) → ArePositive ss → AllFit IsOpHeld ops → after_ops ss zxid index ops rows ≡ Ok new
    → AreFew (items_written op_written ops) → Fits op.fits op_written ops
ops_fit ss zxid index [] rows new all held h few = record { all = tt; few = omega arith }
ops_fit ss zxid index (o ∷ os) rows new all held h few =
    let u = unrefused index (op_refusal ss o rows) (after_ops ss zxid (index + 1) os (after_op zxid o rows)) new h in
    let p = held in
    let rest = ops_fit ss zxid (index + 1) os (after_op zxid o rows) new all p.1 u.1 (second_part (op_written o) (items_written op_written os) few) in
    let e = length-append (op_written o) (items_written op_written os) in
    let some = op_some o in
    let fewer = rest.few in record {
      all = (op_fits o p.0 (op_owner ss o rows all p.0 u.0) (first_part (op_written o) (items_written op_written os) few), rest.all);
      few = omega (arith, e, some, fewer);
    }

-- ---- a multi that a tree took

record Took (t : Tree) (r : Result (List Row) TreeFault) (new : Tree) : Type 0 where
  rows : List Row
  is : r ≡ Ok rows
  room : int_le MAX_LONG t.zxid ≡ false

room_by : {E : Type 0} (b : Bool) (e : E) (made new : Tree) → cond b (Err e) (Ok made) ≡ Ok new → b ≡ false
room_by true e made new h = absurd (cc)
room_by false e made new h = refl

took : (t : Tree) (r : Result (List Row) TreeFault) (new : Tree) → with_zxid t r ≡ Ok new → Took t r new
took t (Ok rows) new h = record { rows = rows; is = refl; room = room_by (int_le MAX_LONG t.zxid) _ _ new h }
took t (Err e) new h = absurd (cc)

is_below : (a b : ℤ) → int_le a b ≡ false → b <ℤ a
is_below a b h = grind (arith, ints)

-- there is a next zxid
pub multi_room : (t : Tree) (ops : List Op) (new : Tree) → multi t ops ≡ Ok new → t.zxid <ℤ MAX_LONG
unfolding multi
multi_room t ops new h = is_below MAX_LONG t.zxid (took t (after_ops t.sessions (t.zxid +ℤ pos 1) 0 ops t.rows) new h).room

pub multi_fits : (t : Tree) (ops : List Op) (new : Tree) (zxid : ℤ) → FitsSigned w64 zxid → ArePositive t.sessions → AllFit IsOpHeld ops → multi t ops ≡ Ok new → FitsIfFew (Multi zxid ops)
unfolding multi txn_written
multi_fits t ops new zxid fits all held h few =
    let m = took t (after_ops t.sessions (t.zxid +ℤ pos 1) 0 ops t.rows) new h in
    let a = length-append (to_be_bytes w64 (cast_unsigned w64 zxid)) (to_be_bytes w32 (length ops) ++ items_written op_written ops) in
    let b = length-append (to_be_bytes w32 (length ops)) (items_written op_written ops) in
    let bytes : AreFew (items_written op_written ops) = omega (arith, few, a, b) in
    let f = ops_fit t.sessions (t.zxid +ℤ pos 1) 0 ops t.rows m.rows all held m.is bytes in
    let fewer = f.few in
    (fits, (omega (arith, fewer, bytes), f.all))

-- ---- sessions

refused_first : {E : Type 0} (b : Bool) (e : E) (r : Result Tree E) (new : Tree) → cond b (Err e) r ≡ Ok new → r ≡ Ok new
refused_first true e r new h = absurd (cc)
refused_first false e r new h = h

refused_last : {E : Type 0} (b : Bool) (e : E) (r : Result Tree E) (new : Tree) → cond b r (Err e) ≡ Ok new → (b ≡ true) × (r ≡ Ok new)
refused_last true e r new h = (refl, h)
refused_last false e r new h = absurd (cc)

pub begin_room : (t : Tree) (s : ℤ) (new : Tree) → begin_session t s ≡ Ok new → t.zxid <ℤ MAX_LONG
unfolding begin_session
begin_room t s new h =
    let made = refused_first (is_live s t.sessions) _ (with_sessions t (put int_cmp (λ x. x) s t.sessions) t.rows) new h in
    is_below MAX_LONG t.zxid (room_by (int_le MAX_LONG t.zxid) _ _ new made)

pub end_room : (t : Tree) (s : ℤ) (new : Tree) → end_session t s ≡ Ok new → t.zxid <ℤ MAX_LONG
unfolding end_session
end_room t s new h =
    let made = refused_last (is_live s t.sessions) _ (with_sessions t (without int_cmp (λ x. x) s t.sessions) (without_owned (t.zxid +ℤ pos 1) s t.rows)) new h in
    is_below MAX_LONG t.zxid (room_by (int_le MAX_LONG t.zxid) _ _ new made.1)

pub begin_fits : (zxid s : ℤ) → FitsSigned w64 zxid → FitsSigned w64 s → pos 1 ≤ℤ s → FitsIfFew (Begin zxid s)
begin_fits zxid s fits held low few = (fits, (low, high s held low))

pub end_fits : (t : Tree) (zxid s : ℤ) (new : Tree) → FitsSigned w64 zxid → FitsSigned w64 s → ArePositive t.sessions → end_session t s ≡ Ok new → FitsIfFew (End zxid s)
unfolding end_session
end_fits t zxid s new fits held all h few =
    let made = refused_last (is_live s t.sessions) _ (with_sessions t (without int_cmp (λ x. x) s t.sessions) (without_owned (t.zxid +ℤ pos 1) s t.rows)) new h in
    let low = live_positive s t.sessions all made.0 in
    (fits, (low, high s held low))

-- ---- znodes of a load

kept_by : (b : Bool) (rest : Option LoadRefusal) (why : LoadRefusal) → cond (not b) (Some why) rest ≡ None → b ≡ true
kept_by true rest why h = refl
kept_by false rest why h = absurd (cc)

no_refusal : (o : Option LoadRefusal) → is_none o ≡ true → o ≡ None
no_refusal None h = refl
no_refusal (Some why) h = absurd (cc)

row_owns : (zxid : ℤ) (ss : List ℤ) (before : List Row) (r : Row) → is_loadable zxid ss before r ≡ true → may_own r.owner ss ≡ true
unfolding is_loadable
row_owns zxid ss before r h =
    let a = both _ (not (is_reserved _)) h in
    let b = both _ (is_none r.owner || not (is_lasting r)) a.0 in
    (both _ (may_own r.owner ss) b.0).1

row_fits : (r : Row) → IsRowHeld r → MayBeOwner r.owner → AreFew (row.written r) → row.fits r
row_fits r held own few =
    let numbers = to_be_bytes w64 (cast_unsigned w64 r.czxid) ++ (to_be_bytes w64 (cast_unsigned w64 r.mzxid) ++ to_be_bytes w64 (cast_unsigned w64 r.pzxid)) in
    let last = to_be_bytes w32 (cast_unsigned w32 r.version) ++ (owner_bytes r.owner ++ numbers) in
    let rest = second_part (byte_field.written r.path) (byte_field.written r.body ++ last) few in (
      (held.path, few_bytes r.path (first_part (byte_field.written r.path) (byte_field.written r.body ++ last) few)),
      (few_bytes r.body (first_part (byte_field.written r.body) last rest), (held.version, (own, (held.czxid, (held.mzxid, held.pzxid))))),
    )

row_some : (r : Row) → 0 < length (row.written r)
row_some r =
    let tail = byte_field.written r.body ++ (to_be_bytes w32 (cast_unsigned w32 r.version) ++ (owner_bytes r.owner ++ (to_be_bytes w64 (cast_unsigned w64 r.czxid) ++ (to_be_bytes w64 (cast_unsigned w64 r.mzxid) ++ to_be_bytes w64 (cast_unsigned w64 r.pzxid))))) in
    let e = length-append (byte_field.written r.path) tail in
    let f = length-append (to_be_bytes w32 (length r.path)) r.path in
    omega (arith, e, f)

rows_fit : (zxid : ℤ) (ss : List ℤ) (before rows : List Row) → ArePositive ss → AllFit IsRowHeld rows → are_loadable zxid ss before rows ≡ true → AreFew (items_written row.written rows) → Fits row.fits row.written rows
rows_fit zxid ss before [] all held h few = record { all = tt; few = omega arith }
rows_fit zxid ss before (r ∷ rs) all held h few =
    let k = both (is_none (row_refusal zxid ss before r)) (are_loadable zxid ss (before ++ r ∷ []) rs) h in
    let own = row_owns zxid ss before r (kept_by (is_loadable zxid ss before r) _ _ (no_refusal (row_refusal zxid ss before r) k.0)) in
    let p = held in
    let rest = rows_fit zxid ss (before ++ r ∷ []) rs all p.1 k.1 (second_part (row.written r) (items_written row.written rs) few) in
    let e = length-append (row.written r) (items_written row.written rs) in
    let some = row_some r in
    let fewer = rest.few in record {
      all = (row_fits r p.0 (owner_fits r.owner ss all p.0.owner own) (first_part (row.written r) (items_written row.written rs) few), rest.all);
      few = omega (arith, e, some, fewer);
    }

-- the last znodes of a load, after those before them
loadable_rest : (zxid : ℤ) (ss : List ℤ) (base before rows : List Row) → are_loadable zxid ss base (before ++ rows) ≡ true → (all : List Row) × (are_loadable zxid ss all rows ≡ true)
loadable_rest zxid ss base [] rows h = (base, h)
loadable_rest zxid ss base (b ∷ bs) rows h = loadable_rest zxid ss (base ++ b ∷ []) bs rows (both (is_none (row_refusal zxid ss base b)) _ h).1

pub load_rows_fit : (zxid : ℤ) (ss : List ℤ) (before rows : List Row) (first : Bool) → is_load zxid ss (before ++ rows) ≡ true → AllFit IsRowHeld rows → FitsIfFew (LoadRows first rows)
unfolding txn_written
load_rows_fit zxid ss before rows first h held few =
    let l = both (is_header zxid ss) (are_loadable zxid ss [] (before ++ rows)) h in
    let rest = loadable_rest zxid ss [] before rows l.1 in
    let b = length-append (to_be_bytes w32 (length rows)) (items_written row.written rows) in
    let bytes : AreFew (items_written row.written rows) = omega (arith, few, b) in
    let f = rows_fit zxid ss rest.0 rows (header_positive zxid ss l.0) held rest.1 bytes in
    let fewer = f.few in
    (tt, (omega (arith, fewer, bytes), f.all))

-- ---- the end of a load

above_by : (o : Ordering) (a b : ℤ) → MatchOrdering o (a <ℤ b) (a ≡ b) (b <ℤ a) → a <ℤ b → o ≡ Less
above_by Less a b is h = refl
above_by Equal a b is h = absurd (omega (arith, ints, is, h))
above_by Greater a b is h = absurd (omega (arith, ints, is, h))

above_is : (a b : ℤ) → a <ℤ b → int_cmp a b ≡ Less
above_is a b h = above_by (int_cmp a b) a b (int_ranked a b (int_cmp a b) refl) h

rises_above : (s : ℤ) (ss : List ℤ) → rise_from (s +ℤ pos 1) ss ≡ true → RisesAbove int_cmp (λ x. x) s ss
rises_above s [] h = tt
rises_above s (t ∷ ts) h =
    let p = both (int_le (s +ℤ pos 1) t) (rise_from (t +ℤ pos 1) ts) h in
    let low = is_at_least (s +ℤ pos 1) t p.0 in
    (above_is s t (omega (arith, ints, low)), rises_above t ts p.1)

rises : (least : ℤ) (ss : List ℤ) → rise_from least ss ≡ true → Rises int_cmp (λ s. s) ss
rises least [] h = tt
rises least (s ∷ ss) h = rises_above s ss (both (int_le least s) (rise_from (s +ℤ pos 1) ss) h).1

sessions_fit : (ss : List ℤ) → ArePositive ss → AllFit (FitsSigned w64) ss → Fits session.fits session.written ss
sessions_fit [] all held = record { all = tt; few = omega arith }
sessions_fit (s ∷ ss) all held =
    let p = both (int_le (pos 1) s) (list_all (int_le (pos 1)) ss) all in
    let q = held in
    let low = is_at_least (pos 1) s p.0 in
    let rest = sessions_fit ss p.1 q.1 in
    let e = length-append (session.written s) (items_written session.written ss) in
    let fewer = rest.few in record {
      all = ((low, high s q.0 low), rest.all);
      few = omega (arith, e, fewer);
    }

pub load_end_fits : (zxid : ℤ) (ss : List ℤ) → FitsSigned w64 zxid → is_header zxid ss ≡ true → AllFit (FitsSigned w64) ss → FitsIfFew (LoadEnd zxid ss)
unfolding txn_written
load_end_fits zxid ss fits h held few =
    let p = both (int_le (pos 0) zxid && int_le zxid MAX_LONG) (rise_from (pos 1) ss) h in
    let f = sessions_fit ss (header_positive zxid ss h) held in
    let a = length-append (to_be_bytes w64 (cast_unsigned w64 zxid)) (to_be_bytes w32 (length ss) ++ items_written session.written ss) in
    let b = length-append (to_be_bytes w32 (length ss)) (items_written session.written ss) in
    let fewer = f.few in
    (fits, (rises (pos 1) ss p.1, (omega (arith, few, a, b, fewer), f.all)))

-- ---- the same of equal parts

pub multi_fits_as : (z zxid : ℤ) (made ops : List Op) → z ≡ zxid → made ≡ ops → FitsIfFew (Multi zxid ops) → FitsIfFew (Multi z made)
multi_fits_as z zxid made ops e f h = subst (λ y. FitsIfFew (Multi y made)) (sym e) (subst (λ os. FitsIfFew (Multi zxid os)) (sym f) h)

pub begin_fits_as : (z zxid s live : ℤ) → z ≡ zxid → s ≡ live → FitsIfFew (Begin zxid live) → FitsIfFew (Begin z s)
begin_fits_as z zxid s live e f h = subst (λ y. FitsIfFew (Begin y s)) (sym e) (subst (λ t. FitsIfFew (Begin zxid t)) (sym f) h)

pub end_fits_as : (z zxid s live : ℤ) → z ≡ zxid → s ≡ live → FitsIfFew (End zxid live) → FitsIfFew (End z s)
end_fits_as z zxid s live e f h = subst (λ y. FitsIfFew (End y s)) (sym e) (subst (λ t. FitsIfFew (End zxid t)) (sym f) h)

pub rows_fit_as : (first : Bool) (made rows : List Row) → made ≡ rows → FitsIfFew (LoadRows first rows) → FitsIfFew (LoadRows first made)
rows_fit_as first made rows e h = subst (λ rs. FitsIfFew (LoadRows first rs)) (sym e) h

pub load_end_fits_as : (z zxid : ℤ) (made ss : List ℤ) → z ≡ zxid → made ≡ ss → FitsIfFew (LoadEnd zxid ss) → FitsIfFew (LoadEnd z made)
load_end_fits_as z zxid made ss e f h = subst (λ y. FitsIfFew (LoadEnd y made)) (sym e) (subst (λ os. FitsIfFew (LoadEnd zxid os)) (sym f) h)
