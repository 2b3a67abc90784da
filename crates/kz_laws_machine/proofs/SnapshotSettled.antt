-- Which records count, and which transaction is open, where none is open between earlier and later records.
use Rattle.std.proofs.Common.{◌≡◌, ℤ, pos, ◌+ℤ◌, ◌≤ℤ◌, int_le, Bool, true, false, not, ◌&&◌, ◌||◌, cond, List, [], ◌∷◌, ◌++◌, filter, Option, Some, None, is_some, refl, sym, ap, ◌∙◌, subst, arith, append_assoc, append-nil}
use Rattle.std.specs.Prelude.{◌<ℤ◌}
use Rattle.std.specs.List.{find}
use Rattle.std.proofs.lemmas.Int.{ints}
use Rattle.kz_types.specs.declared.log.Entry.{Entry}
use Rattle.kz_spec_data.specs.Settlement.{is_begin, is_end, closes, is_marker, is_ended_by, counting_records}
use Rattle.kz_laws_machine.proofs.LogBatches.{AllAfter, and_last, counted_same}
use Rattle.kz_laws_machine.proofs.Migration.{AllUpTo, up_to_append}
use Rattle.kz_laws_machine.proofs.Rising.{RisesAfter}
use Rattle.kz_laws_machine.proofs.Begun.{any_closes, begin_in, first_begin, begun_past, begun_kept, or_true}
use Rattle.kz_laws_machine.proofs.LogSettled.{is_ended_in, open_after, settled, next_is, counting_settled}

-- whether a transaction is open after these records, if one was before them or wasn't
abbrev pub open_past : Bool → List Entry → Bool
open_past within [] = within
open_past within (e ∷ es) = open_past (open_after within e) es

pub open_past_is : (p q : List Entry) → is_some (begin_in (p ++ q)) ≡ open_past (is_some (begin_in p)) q
open_past_is p [] = ap (λ (es : List Entry). is_some (begin_in es)) (append-nil p)
open_past_is p (e ∷ q) =
    ap (λ (es : List Entry). is_some (begin_in es)) (sym (append_assoc p (e ∷ []) q)) ∙ open_past_is (p ++ e ∷ []) q ∙ ap (λ (b : Bool). open_past b q) (next_is p e)

-- ---- a transaction that isn't open after records was closed among them

pub stays_open : (e : Entry) → closes e.item ≡ false → open_after true e ≡ true
stays_open e is = ap (λ (c : Bool). is_begin e.item || (true && not c)) is ∙ or_true (is_begin e.item)

pub closed_among : (es : List Entry) → open_past true es ≡ false → any_closes es ≡ true
closed_among [] is = absurd (cc)
closed_among (e ∷ es) is = by (closes e.item) refl (closed_among es)
  where
    by : (c : Bool) → closes e.item ≡ c → (open_past true es ≡ false → any_closes es ≡ true) → (closes e.item || any_closes es) ≡ true
    by true t rest = ap (λ (c : Bool). c || any_closes es) t
    by false t rest = ap (λ (c : Bool). closes e.item || c) (rest (ap (λ (b : Bool). open_past b es) (sym (stays_open e t)) ∙ is)) ∙ or_true (closes e.item)

-- ---- the first End or Abort stands among the earlier records

at_most_is : (a b : ℤ) → a ≤ℤ b → int_le a b ≡ true
at_most_is a b low = grind (arith, ints)

most_then : (a b c : ℤ) → a ≤ℤ b → b ≤ℤ c → a ≤ℤ c
most_then a b c x y = omega (arith, ints, x, y)

ended_among : (at k : ℤ) (p q : List Entry) → AllUpTo at p → at ≤ℤ k → any_closes p ≡ true → is_ended_in k (p ++ q) ≡ is_ended_in at p
ended_among at k [] q up_to low is = absurd (cc)
ended_among at k (e ∷ p) q up_to low is = by (closes e.item) refl (ended_among at k p q up_to.1 low)
  where
    by : (c : Bool) → closes e.item ≡ c → (any_closes p ≡ true → is_ended_in k (p ++ q) ≡ is_ended_in at p) → is_ended_by k (cond (closes e.item) (Some e) (find (λ (x : Entry). closes x.item) (p ++ q))) ≡ is_ended_by at (cond (closes e.item) (Some e) (find (λ (x : Entry). closes x.item) p))
    by true t rest =
        ap (λ (c : Bool). is_ended_by k (cond c (Some e) (find (λ (x : Entry). closes x.item) (p ++ q)))) t
        ∙ ap (λ (b : Bool). is_end e.item && b) (at_most_is e.offset k (most_then e.offset at k up_to.0 low) ∙ sym (at_most_is e.offset at up_to.0))
        ∙ sym (ap (λ (c : Bool). is_ended_by at (cond c (Some e) (find (λ (x : Entry). closes x.item) p))) t)
    by false t rest =
        ap (λ (c : Bool). is_ended_by k (cond c (Some e) (find (λ (x : Entry). closes x.item) (p ++ q)))) t
        ∙ rest (sym (ap (λ (c : Bool). c || any_closes p) t) ∙ is)
        ∙ sym (ap (λ (c : Bool). is_ended_by at (cond c (Some e) (find (λ (x : Entry). closes x.item) p))) t)

-- ---- which records count

abbrev counts_if : Entry → Bool → Bool → Bool
counts_if e within ended = not (is_marker e.item) && (not within || ended)

marker_out : (c within : Bool) (e : Entry) (x y : Bool) → closes e.item ≡ true → counts_if e within x ≡ counts_if e within y
marker_out c within e x y is =
    let marker : is_marker e.item ≡ true = ap (λ (b : Bool). is_begin e.item || b) is ∙ or_true (is_begin e.item) in
    ap (λ (b : Bool). not b && (not within || x)) marker ∙ sym (ap (λ (b : Bool). not b && (not within || y)) marker)

counts_alike : (at k : ℤ) (within : Bool) (e : Entry) (p q : List Entry) → AllUpTo at p → at ≤ℤ k → open_past (open_after within e) p ≡ false
    → counts_if e within (is_ended_in k (p ++ q)) ≡ counts_if e within (is_ended_in at p)
counts_alike at k false e p q up_to low is = refl
counts_alike at k true e p q up_to low is = by (closes e.item) refl
  where
    by : (c : Bool) → closes e.item ≡ c → counts_if e true (is_ended_in k (p ++ q)) ≡ counts_if e true (is_ended_in at p)
    by true t = marker_out true true e (is_ended_in k (p ++ q)) (is_ended_in at p) t
    by false t = ap (λ (x : Bool). counts_if e true x) (ended_among at k p q up_to low (closed_among p (ap (λ (b : Bool). open_past b p) (sym (stays_open e t)) ∙ is)))

split_by : (b : Bool) (e : Entry) (xs ys : List Entry) → cond b (e ∷ (xs ++ ys)) (xs ++ ys) ≡ cond b (e ∷ xs) xs ++ ys
split_by true e xs ys = refl
split_by false e xs ys = refl

pub settled_divided : (at k : ℤ) (within : Bool) (p q : List Entry) → AllUpTo at p → at ≤ℤ k → open_past within p ≡ false → settled k within (p ++ q) ≡ settled at within p ++ settled k false q
settled_divided at k within [] q up_to low is = ap (λ (b : Bool). settled k b q) is
settled_divided at k within (e ∷ p) q up_to low is =
    ap (λ (b : Bool). cond b (e ∷ settled k (open_after within e) (p ++ q)) (settled k (open_after within e) (p ++ q))) (counts_alike at k within e p q up_to.1 low is)
    ∙ ap (λ (xs : List Entry). cond (counts_if e within (is_ended_in at p)) (e ∷ xs) xs) (settled_divided at k (open_after within e) p q up_to.1 low is)
    ∙ split_by (counts_if e within (is_ended_in at p)) e (settled at (open_after within e) p) (settled k false q)

-- Earlier records, later ones up to an offset, and those after it. No transaction is open between the first two.
pub record AreDivided (base at k : ℤ) (p q r : List Entry) : Type 0 where
  pub rise : RisesAfter base (p ++ q)
  pub later_rise : RisesAfter at q
  pub earlier : AllUpTo at p
  pub order : at ≤ℤ k
  pub later : AllUpTo k q
  pub rest : AllAfter k r
  pub settled : is_some (begin_in p) ≡ false

up_to_weaker : (at k : ℤ) (es : List Entry) → at ≤ℤ k → AllUpTo at es → AllUpTo k es
up_to_weaker at k [] low up_to = tt
up_to_weaker at k (e ∷ es) low up_to = (most_then e.offset at k up_to.0 low, up_to_weaker at k es low up_to.1)

pub front_rises : (base : ℤ) (p q : List Entry) → RisesAfter base (p ++ q) → RisesAfter base p
front_rises base [] q h = tt
front_rises base (e ∷ p) q h = (h.0, front_rises e.offset p q h.1)

module _ (base at k : ℤ) (p q r : List Entry) (d : AreDivided base at k p q r) where
  pub both_up_to : AllUpTo k (p ++ q)
  both_up_to = up_to_append k p q (up_to_weaker at k p d.order d.earlier) d.later

  pub counting_divided : counting_records (p ++ (q ++ r)) k ≡ counting_records p at ++ counting_records (q ++ r) k
  counting_divided =
      let all : counting_records (p ++ (q ++ r)) k ≡ settled k false (p ++ q) =
      ap (λ (es : List Entry). counting_records es k) (sym (append_assoc p q r)) ∙ counted_same k (p ++ q) r d.rest ∙ counting_settled k base [] (p ++ q) d.rise both_up_to in
      let first : counting_records p at ≡ settled at false p = counting_settled at base [] p (front_rises base p q d.rise) d.earlier in
      let second : counting_records (q ++ r) k ≡ settled k false q = counted_same k q r d.rest ∙ counting_settled k at [] q d.later_rise d.later in
      all ∙ settled_divided at k false p q d.earlier d.order (sym (open_past_is [] p) ∙ d.settled)
      ∙ ap (λ (es : List Entry). settled at false p ++ es) (sym second) ∙ ap (λ (es : List Entry). es ++ counting_records (q ++ r) k) (sym first)

-- ---- which transaction is open

none_by : (m : Option ℤ) → is_some m ≡ false → m ≡ None
none_by None is = refl
none_by (Some o) is = absurd (cc)

-- the first open Begin stands among the later records
pub begin_divided : (p q : List Entry) → is_some (begin_in p) ≡ false → begin_in (p ++ q) ≡ begin_in q
begin_divided p q none = by (any_closes q) refl
  where
    by : (c : Bool) → any_closes q ≡ c → begin_in (p ++ q) ≡ begin_in q
    by true is = begun_past p q is
    by false is = begun_kept p q is ∙ ap (λ (m : Option ℤ). first_begin m (begin_in q)) (none_by (begin_in p) none)
