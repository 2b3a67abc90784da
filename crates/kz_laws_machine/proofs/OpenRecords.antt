-- The records of the transaction that is open at the end, where none is open between earlier and later records.
use Rattle.std.proofs.Common.{◌≡◌, ℤ, ◌≤ℤ◌, int_le, int_lt, Bool, true, false, not, ◌&&◌, ◌||◌, cond, List, [], ◌∷◌, ◌++◌, filter, Option, Some, None, is_some, refl, sym, ap, ◌∙◌, subst, arith, append_assoc, append-nil}
use Rattle.std.specs.Prelude.{◌<ℤ◌}
use Rattle.std.specs.List.{list_any}
use Rattle.std.proofs.lemmas.Int.{ints}
use Rattle.std.proofs.lemmas.List.Elements.{filter-append}
use Rattle.kz_types.specs.declared.log.Entry.{Entry}
use Rattle.kz_spec_data.specs.Settlement.{is_begin, closes, is_marker, is_inside, open_begin, records_of_open}
use Rattle.kz_spec_data.specs.Log.{entries_by}
use Rattle.kz_laws_machine.proofs.LogBatches.{AllAfter, and_last}
use Rattle.kz_laws_machine.proofs.Migration.{AllUpTo}
use Rattle.kz_laws_machine.proofs.Rising.{RisesAfter, AllBefore, all_after, IsPlaced, placed}
use Rattle.kz_laws_machine.proofs.Begun.{any_closes, begin_in, less_is, not_later, not_itself, closes_append, or_true, begun_is}
use Rattle.kz_laws_machine.proofs.LogSettled.{open_after, next_is, inside_is}
use Rattle.kz_laws_machine.proofs.SnapshotSettled.{open_past, open_past_is, closed_among, stays_open, AreDivided, front_rises, begin_divided}

-- the records of the open transaction, where one was open before the first of them or wasn't
abbrev pub open_records : Bool → List Entry → List Entry
open_records within [] = []
open_records within (e ∷ es) = cond (within && not (is_marker e.item) && not (any_closes es)) (e ∷ open_records (open_after within e) es) (open_records (open_after within e) es)

abbrev is_kept : List Entry → Entry → Bool
is_kept all e = is_inside all e.offset && not (is_marker e.item) && not (list_any (λ (c : Entry). closes c.item && int_lt e.offset c.offset) all)

-- ---- one record

closes_before : (o : ℤ) (p rest : List Entry) → AllBefore o p → list_any (λ (c : Entry). closes c.item && int_lt o c.offset) (p ++ rest) ≡ list_any (λ (c : Entry). closes c.item && int_lt o c.offset) rest
closes_before o [] rest before = refl
closes_before o (x ∷ p) rest before =
    ap (λ (b : Bool). b || list_any (λ (c : Entry). closes c.item && int_lt o c.offset) (p ++ rest)) (and_last (closes x.item) (int_lt o x.offset) (not_later x.offset o before.0)) ∙ closes_before o p rest before.1

and_true : (b : Bool) → (b && true) ≡ b
and_true true = refl
and_true false = refl

closes_later : (o : ℤ) (q : List Entry) → AllAfter o q → list_any (λ (c : Entry). closes c.item && int_lt o c.offset) q ≡ any_closes q
closes_later o [] after = refl
closes_later o (x ∷ q) after =
    ap (λ (b : Bool). (closes x.item && b) || list_any (λ (c : Entry). closes c.item && int_lt o c.offset) q) (less_is o x.offset after.0)
    ∙ ap (λ (b : Bool). b || list_any (λ (c : Entry). closes c.item && int_lt o c.offset) q) (and_true (closes x.item))
    ∙ ap (λ (b : Bool). closes x.item || b) (closes_later o q after.1)

closes_after : (base : ℤ) (p q : List Entry) (e : Entry) → IsPlaced base p e q → list_any (λ (c : Entry). closes c.item && int_lt e.offset c.offset) (p ++ e ∷ q) ≡ any_closes q
closes_after base p q e k =
    closes_before e.offset p (e ∷ q) k.before
    ∙ ap (λ (b : Bool). b || list_any (λ (c : Entry). closes c.item && int_lt e.offset c.offset) q) (and_last (closes e.item) (int_lt e.offset e.offset) (not_itself e.offset))
    ∙ closes_later e.offset q (all_after e.offset q k.after)

kept_one : (base : ℤ) (p q : List Entry) (e : Entry) → IsPlaced base p e q → is_kept (p ++ e ∷ q) e ≡ (is_some (begin_in p) && not (is_marker e.item) && not (any_closes q))
kept_one base p q e k =
    ap (λ (b : Bool). b && not (is_marker e.item) && not (list_any (λ (c : Entry). closes c.item && int_lt e.offset c.offset) (p ++ e ∷ q))) (inside_is base p q e k)
    ∙ ap (λ (b : Bool). is_some (begin_in p) && not (is_marker e.item) && not b) (closes_after base p q e k)

-- ---- all records

kept_from : (base : ℤ) (p q : List Entry) → RisesAfter base (p ++ q) → filter (is_kept (p ++ q)) q ≡ open_records (is_some (begin_in p)) q
kept_from base p [] rises = refl
kept_from base p (e ∷ q) rises =
    let same : (p ++ e ∷ []) ++ q ≡ p ++ e ∷ q = append_assoc p (e ∷ []) q in
    let rest = kept_from base (p ++ e ∷ []) q (subst (RisesAfter base) (sym same) rises) in
    let later = ap (λ (all : List Entry). filter (is_kept all) q) (sym same) ∙ rest ∙ ap (λ (b : Bool). open_records b q) (next_is p e) in
    ap (λ (b : Bool). cond b (e ∷ filter (is_kept (p ++ e ∷ q)) q) (filter (is_kept (p ++ e ∷ q)) q)) (kept_one base p q e (placed base p e q rises))
    ∙ ap (λ (es : List Entry). cond (is_some (begin_in p) && not (is_marker e.item) && not (any_closes q)) (e ∷ es) es) later

pub records_are : (base : ℤ) (es : List Entry) → RisesAfter base es → records_of_open es ≡ open_records false es
records_are base es rises = kept_from base [] es rises

none_kept : (within : Bool) (e : Entry) (p q : List Entry) → open_past (open_after within e) p ≡ false → (within && not (is_marker e.item) && not (any_closes (p ++ q))) ≡ false
none_kept false e p q is = refl
none_kept true e p q is = by (closes e.item) refl
  where
    by : (c : Bool) → closes e.item ≡ c → (not (is_marker e.item) && not (any_closes (p ++ q))) ≡ false
    by true t =
        let marker : is_marker e.item ≡ true = ap (λ (b : Bool). is_begin e.item || b) t ∙ or_true (is_begin e.item) in
        ap (λ (b : Bool). not b && not (any_closes (p ++ q))) marker
    by false t =
        let closed : any_closes p ≡ true = closed_among p (ap (λ (b : Bool). open_past b p) (sym (stays_open e t)) ∙ is) in
        and_last (not (is_marker e.item)) (not (any_closes (p ++ q))) (ap not (closes_append p q ∙ ap (λ (b : Bool). b || any_closes q) closed))

open_divided : (within : Bool) (p q : List Entry) → open_past within p ≡ false → open_records within (p ++ q) ≡ open_records false q
open_divided within [] q is = ap (λ (b : Bool). open_records b q) is
open_divided within (e ∷ p) q is =
    ap (λ (b : Bool). cond b (e ∷ open_records (open_after within e) (p ++ q)) (open_records (open_after within e) (p ++ q))) (none_kept within e p q is) ∙ open_divided (open_after within e) p q is

-- ---- the records up to an offset

at_most_is : (a b : ℤ) → a ≤ℤ b → int_le a b ≡ true
at_most_is a b low = grind (arith, ints)

not_at_most : (a b : ℤ) → a <ℤ b → int_le b a ≡ false
not_at_most a b less = grind (arith, ints)

all_by : (k : ℤ) (es : List Entry) → AllUpTo k es → entries_by k es ≡ es
all_by k [] up_to = refl
all_by k (e ∷ es) up_to = ap (λ (b : Bool). cond b (e ∷ entries_by k es) (entries_by k es)) (at_most_is e.offset k up_to.0) ∙ ap (λ (l : List Entry). e ∷ l) (all_by k es up_to.1)

none_by : (k : ℤ) (es : List Entry) → AllAfter k es → entries_by k es ≡ []
none_by k [] after = refl
none_by k (e ∷ es) after = ap (λ (b : Bool). cond b (e ∷ entries_by k es) (entries_by k es)) (not_at_most k e.offset after.0) ∙ none_by k es after.1

pub front_by : (k : ℤ) (xs ys : List Entry) → AllUpTo k xs → AllAfter k ys → entries_by k (xs ++ ys) ≡ xs
front_by k xs ys up_to after =
    filter-append (λ (e : Entry). int_le e.offset k) xs ys ∙ ap (λ (l : List Entry). l ++ entries_by k ys) (all_by k xs up_to) ∙ ap (λ (l : List Entry). xs ++ l) (none_by k ys after) ∙ append-nil xs

-- ---- divided records

module _ (base at k : ℤ) (p q r : List Entry) (d : AreDivided base at k p q r) where
  whole_by : AllUpTo k (p ++ q) → entries_by k (p ++ (q ++ r)) ≡ p ++ q
  whole_by up_to = ap (entries_by k) (sym (append_assoc p q r)) ∙ front_by k (p ++ q) r up_to d.rest

  pub begun_divided : AllUpTo k (p ++ q) → open_begin (entries_by k (p ++ (q ++ r))) ≡ open_begin (entries_by k (q ++ r))
  begun_divided up_to =
      ap open_begin (whole_by up_to) ∙ begun_is base (p ++ q) d.rise ∙ begin_divided p q d.settled ∙ sym (begun_is at q d.later_rise) ∙ ap open_begin (sym (front_by k q r d.later d.rest))

  pub kept_divided : AllUpTo k (p ++ q) → records_of_open (entries_by k (p ++ (q ++ r))) ≡ records_of_open (entries_by k (q ++ r))
  kept_divided up_to =
      ap records_of_open (whole_by up_to) ∙ records_are base (p ++ q) d.rise ∙ open_divided false p q (sym (open_past_is [] p) ∙ d.settled) ∙ sym (records_are at q d.later_rise) ∙ ap records_of_open (sym (front_by k q r d.later d.rest))
