-- Which records count, found from the first record on.
use Rattle.std.proofs.Common.{◌≡◌, ℤ, pos, ◌+ℤ◌, ◌-ℤ◌, ◌≤ℤ◌, int_le, int_lt, Bool, true, false, not, ◌&&◌, ◌||◌, if◌then◌else◌, cond, List, [], ◌∷◌, ◌++◌, filter, Option, Some, None, is_some, refl, sym, ap, ◌∙◌, subst, arith, append_assoc}
use Rattle.std.specs.Prelude.{◌<ℤ◌}
use Rattle.std.specs.List.{find}
use Rattle.std.proofs.lemmas.Int.{ints}
use Rattle.kz_types.specs.declared.log.Entry.{Entry}
use Rattle.kz_types.specs.declared.record.MetaRecord.{MetaRecord}
use Rattle.kz_spec_data.specs.Settlement.{is_begin, closes, is_marker, is_inside, first_close, is_ended_by, is_counted, counting_records}
use Rattle.kz_spec_data.specs.Log.{Log, end_of, entries, with_batch}
use Rattle.kz_spec_machine.specs.Sound.{LogShape}
use Rattle.kz_laws_machine.proofs.Numbers.{at_least_itself}
use Rattle.kz_laws_machine.proofs.LogBatches.{AllAfter, and_last}
use Rattle.kz_laws_machine.proofs.Migration.{AllUpTo, next_entries, next_counted, up_to_end}
use Rattle.kz_laws_machine.proofs.Rising.{RisesAfter, AllBefore, log_rises, more_rises, next_up_to, all_after, rises_after, IsPlaced, placed}
use Rattle.kz_laws_machine.proofs.Begun.{begin_in, first_begin, less_is, not_later, not_itself, find_after, inside_begun, begun_past, begun_kept, inside_from}

-- whether the first of these that ends a transaction is an End by an offset
abbrev pub is_ended_in : ℤ → List Entry → Bool
is_ended_in at es = is_ended_by at (find (λ (x : Entry). closes x.item) es)

-- whether a transaction is open after a record, if one was before it or wasn't
abbrev pub open_after : Bool → Entry → Bool
open_after within e = is_begin e.item || (within && not (closes e.item))

-- the records that count, where a transaction is open before the first of them or isn't
abbrev pub settled : ℤ → Bool → List Entry → List Entry
settled at within [] = []
settled at within (e ∷ es) = if not (is_marker e.item) && (not within || is_ended_in at es) then e ∷ settled at (open_after within e) es else settled at (open_after within e) es

-- ---- one record

-- what closes a transaction after a record
abbrev closes_after : ℤ → Entry → Bool
closes_after o x = closes x.item && int_lt o x.offset

skip_before : (o : ℤ) (p rest : List Entry) → AllBefore o p → find (closes_after o) (p ++ rest) ≡ find (closes_after o) rest
skip_before o [] rest before = refl
skip_before o (x ∷ p) rest before =
    ap (λ (b : Bool). cond b (Some x) (find (closes_after o) (p ++ rest))) (and_last (closes x.item) (int_lt o x.offset) (not_later x.offset o before.0)) ∙ skip_before o p rest before.1

and_true : (b : Bool) → (b && true) ≡ b
and_true true = refl
and_true false = refl

close_is : (p q : List Entry) (e : Entry) → AllBefore e.offset p → AllAfter e.offset q → first_close (p ++ e ∷ q) e.offset ≡ find (λ (x : Entry). closes x.item) q
close_is p q e before after =
    skip_before e.offset p (e ∷ q) before
    ∙ ap (λ (b : Bool). cond b (Some e) (find (closes_after e.offset) q)) (and_last (closes e.item) (int_lt e.offset e.offset) (not_itself e.offset))
    ∙ find_after e.offset (closes_after e.offset) (λ (x : Entry). closes x.item) q after (λ x later. ap (λ (b : Bool). closes x.item && b) (less_is e.offset x.offset later) ∙ and_true (closes x.item))

at_most_is : (a b : ℤ) → a ≤ℤ b → int_le a b ≡ true
at_most_is a b low = grind (arith, ints)

before_is : (o : ℤ) → o ≡ (o -ℤ pos 1) +ℤ pos 1
before_is o = omega (arith, ints)

before_low : (o : ℤ) → (o -ℤ pos 1) <ℤ o
before_low o = omega (arith, ints)

-- the records from one on stand after the offset before it
from_after : (e : Entry) (q : List Entry) → RisesAfter e.offset q → AllAfter (e.offset -ℤ pos 1) (e ∷ q)
from_after e q rises = rises_after (e.offset -ℤ pos 1) (e.offset -ℤ pos 1) (e ∷ q) (at_least_itself (e.offset -ℤ pos 1)) (before_low e.offset, rises)

pub inside_is : (base : ℤ) (p q : List Entry) (e : Entry) → IsPlaced base p e q → is_inside (p ++ e ∷ q) e.offset ≡ is_some (begin_in p)
inside_is base p q e k = inside_from (e.offset -ℤ pos 1) e.offset p (e ∷ q) (before_is e.offset) (from_after e q k.after) ∙ inside_begun base e.offset p k.front k.before

counted_is : (at base : ℤ) (p q : List Entry) (e : Entry) → IsPlaced base p e q → e.offset ≤ℤ at → is_counted (p ++ e ∷ q) at e ≡ (not (is_marker e.item) && (not (is_some (begin_in p)) || is_ended_in at q))
counted_is at base p q e k low =
    ap (λ (b : Bool). b && not (is_marker e.item) && (not (is_inside (p ++ e ∷ q) e.offset) || is_ended_by at (first_close (p ++ e ∷ q) e.offset))) (at_most_is e.offset at low)
    ∙ ap (λ (b : Bool). not (is_marker e.item) && (not b || is_ended_by at (first_close (p ++ e ∷ q) e.offset))) (inside_is base p q e k)
    ∙ ap (λ (m : Option Entry). not (is_marker e.item) && (not (is_some (begin_in p)) || is_ended_by at m)) (close_is p q e k.before (all_after e.offset q k.after))

-- ---- the next record

alone_by : (b : Bool) (o : ℤ) → is_some (cond (b && true) (Some o) None) ≡ b
alone_by true o = refl
alone_by false o = refl

alone : (e : Entry) → is_some (begin_in (e ∷ [])) ≡ is_begin e.item
alone e = alone_by (is_begin e.item) e.offset

past_is : (b c x : Bool) → c ≡ true → b ≡ (b || (x && not c))
past_is true c x is = refl
past_is false true true is = refl
past_is false true false is = refl
past_is false false x is = absurd (cc)

kept_is : (b c x : Bool) → c ≡ false → (x || b) ≡ (b || (x && not c))
kept_is true c true is = refl
kept_is true c false is = refl
kept_is false true x is = absurd (cc)
kept_is false false true is = refl
kept_is false false false is = refl

some_first : (m n : Option ℤ) → is_some (first_begin m n) ≡ (is_some m || is_some n)
some_first None n = refl
some_first (Some o) n = refl

pub next_is : (p : List Entry) (e : Entry) → is_some (begin_in (p ++ e ∷ [])) ≡ open_after (is_some (begin_in p)) e
next_is p e = by (closes e.item) refl
  where
    by : (c : Bool) → closes e.item ≡ c → is_some (begin_in (p ++ e ∷ [])) ≡ open_after (is_some (begin_in p)) e
    by true is = ap is_some (begun_past p (e ∷ []) (ap (λ (b : Bool). b || false) is)) ∙ alone e ∙ past_is (is_begin e.item) (closes e.item) (is_some (begin_in p)) is
    by false is =
        ap is_some (begun_kept p (e ∷ []) (ap (λ (b : Bool). b || false) is)) ∙ some_first (begin_in p) (begin_in (e ∷ [])) ∙ ap (λ (b : Bool). is_some (begin_in p) || b) (alone e)
        ∙ kept_is (is_begin e.item) (closes e.item) (is_some (begin_in p)) is

-- ---- all records

-- those that count among the later ones
pub counting_settled : (at base : ℤ) (p q : List Entry) → RisesAfter base (p ++ q) → AllUpTo at q → filter (is_counted (p ++ q) at) q ≡ settled at (is_some (begin_in p)) q
counting_settled at base p [] rises up_to = refl
counting_settled at base p (e ∷ q) rises up_to =
    let same : (p ++ e ∷ []) ++ q ≡ p ++ e ∷ q = append_assoc p (e ∷ []) q in
    let rest = counting_settled at base (p ++ e ∷ []) q (subst (RisesAfter base) (sym same) rises) up_to.1 in
    let later = ap (λ (all : List Entry). filter (is_counted all at) q) (sym same) ∙ rest ∙ ap (λ (b : Bool). settled at b q) (next_is p e) in
    ap (λ (b : Bool). cond b (e ∷ filter (is_counted (p ++ e ∷ q) at) q) (filter (is_counted (p ++ e ∷ q) at) q)) (counted_is at base p q e (placed base p e q rises) up_to.0)
    ∙ ap (λ (es : List Entry). cond (not (is_marker e.item) && (not (is_some (begin_in p)) || is_ended_in at q)) (e ∷ es) es) later

pub log_settled : (l : Log) → LogShape l → counting_records (entries l.batches) (end_of l) ≡ settled (end_of l) false (entries l.batches)
log_settled l shape = counting_settled (end_of l) l.base [] (entries l.batches) (log_rises l shape) (up_to_end l shape)

-- those of a batch more
pub next_settled : (l : Log) (epoch now : ℤ) (items : List MetaRecord) → LogShape l
    → next_counted l epoch now items ≡ settled (end_of (with_batch l epoch now items)) (is_some (begin_in (entries l.batches))) (next_entries l epoch items)
next_settled l epoch now items shape = counting_settled (end_of (with_batch l epoch now items)) l.base (entries l.batches) (next_entries l epoch items) (more_rises l epoch items shape) (next_up_to l epoch now items)
