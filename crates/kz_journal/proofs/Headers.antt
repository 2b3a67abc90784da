-- What a file's first 16 bytes say.
use Rattle.std.proofs.Common.{◌≡◌, ◌≢◌, inl, inr, ℕ, ◌<◌, Bool, true, false, ◌||◌, List, [], length, take, get_or, refl, sym, ap, ◌∙◌, arith, length-take}
use Rattle.std.specs.Prelude.{bytes_eq}
use Rattle.std.proofs.lemmas.Bool.{cases_Bool}
use Rattle.std.proofs.lemmas.Slice.Eq.{bytes_eq-Decides}
use Rattle.kz_types.proofs.NumberLemmas.{bytes_eq-true}
use Rattle.kz_spec_data.specs.Checksum.{crc32c}
use Rattle.kz_spec_data.specs.Frames.{Journal, plain_header, summed_header, journal_from, journal_of}
use Rattle.kz_laws_values.specs.Fronts.{IsFront}
use Rattle.kz_laws_values.proofs.Found.{nothing_here}
use Rattle.kz_laws_values.proofs.Fronts.{ends_here}
use Rattle.kz_journal.specs.declared.place.Place.{Place}
use Rattle.kz_journal.specs.Openings.{no_journal, has_header, IsNoJournal}
use Rattle.kz_journal.specs.Journals.{IsReadTo, journal_at}

-- a header of format 02, one of format 01, and another one
pub new_header : (letter : ℕ) (file header : List ℕ) → header ≡ take 16 file → bytes_eq header (summed_header letter) ≡ true → has_header letter file ≡ true
new_header letter file header is new =
    (λ i. bytes_eq (sym is i) (summed_header letter) || bytes_eq (take 16 file) (plain_header letter)) ∙ (λ i. new i || bytes_eq (take 16 file) (plain_header letter))

pub old_header : (letter : ℕ) (file header : List ℕ) → header ≡ take 16 file → bytes_eq header (summed_header letter) ≡ false → bytes_eq header (plain_header letter) ≡ true → has_header letter file ≡ true
old_header letter file header is not_new old =
    (λ i. bytes_eq (sym is i) (summed_header letter) || bytes_eq (sym is i) (plain_header letter)) ∙ (λ i. not_new i || old i)

pub no_header : (letter : ℕ) (file header : List ℕ) → header ≡ take 16 file → bytes_eq header (summed_header letter) ≡ false → bytes_eq header (plain_header letter) ≡ false → IsNoJournal letter file
unfolding journal_of
no_header letter file header is not_new not_old = (
  (λ i. bytes_eq (sym is i) (summed_header letter) || bytes_eq (sym is i) (plain_header letter)) ∙ (λ i. not_new i || not_old i),
  said,
)
  where
    said : journal_of letter file ≡ no_journal
    said =
        let a : bytes_eq (take 16 file) (summed_header letter) ≡ false = ap (λ (h : List ℕ). bytes_eq h (summed_header letter)) (sym is) ∙ not_new in
        let b : bytes_eq (take 16 file) (plain_header letter) ≡ false = ap (λ (h : List ℕ). bytes_eq h (plain_header letter)) (sym is) ∙ not_old in
        rw (a, b) refl

-- fewer bytes than a header
pub short_file : (letter : ℕ) (file : List ℕ) → length file < 16 → IsNoJournal letter file
short_file letter file short = no_header letter file (take 16 file) refl (differs (take 16 file) (summed_header letter) refl few) (differs (take 16 file) (plain_header letter) refl few)
  where
    few : length (take 16 file) < 16
    few = omega (arith, length-take 16 file)

    differs : (a b : List ℕ) → length b ≡ 16 → length a < 16 → bytes_eq a b ≡ false
    differs a b long less = elim (cases_Bool (bytes_eq a b)) [
      | inl same ↦ let all = ap length (bytes_eq-true a b same) in absurd (omega arith)
      | inr other ↦ other
    ]

-- ---- a header alone

same_text : (text : List ℕ) → bytes_eq text text ≡ true
same_text text = (bytes_eq-Decides text text).1 refl

other_text : (a b : List ℕ) → a ≢ b → bytes_eq a b ≡ false
other_text a b differs = elim (cases_Bool (bytes_eq a b)) [
  | inl same ↦ absurd (differs (bytes_eq-true a b same))
  | inr other ↦ other
]

pub new_alone : (letter : ℕ) → journal_of letter (summed_header letter) ≡ record { frames = []; end = 16; summed = true; damaged = false }
unfolding journal_of
new_alone letter = rw (same_text (summed_header letter)) (ends_here 16 (summed_header letter) true 16 (nothing_here true (summed_header letter)))

-- the last digit tells the two apart
apart : (letter : ℕ) → plain_header letter ≢ summed_header letter
apart letter is =
    let digits : 49 ≡ 50 = ap (λ (l : List ℕ). get_or l 14 0) is in
    absurd (omega (arith, digits))

old_alone : (letter : ℕ) → journal_of letter (plain_header letter) ≡ record { frames = []; end = 16; summed = false; damaged = false }
unfolding journal_of
old_alone letter =
    rw (other_text (plain_header letter) (summed_header letter) (apart letter), same_text (plain_header letter))
    (ends_here 16 (plain_header letter) false 16 (nothing_here false (plain_header letter)))

-- a file of format 02, and one of format 01
by_new : (letter : ℕ) (file : List ℕ) → bytes_eq (take 16 file) (summed_header letter) ≡ true → journal_of letter file ≡ journal_from file true 16
unfolding journal_of
by_new letter file new = rw new refl

by_old : (letter : ℕ) (file : List ℕ) → bytes_eq (take 16 file) (summed_header letter) ≡ false → bytes_eq (take 16 file) (plain_header letter) ≡ true → journal_of letter file ≡ journal_from file false 16
unfolding journal_of
by_old letter file not_new old = rw (not_new, old) refl

-- ---- the place after a header

module _ (letter : ℕ) (place : Place) (file header : List ℕ) (is : header ≡ take 16 file) (gate : place.gate ≡ 16) (long : place.length ≡ length file) where
  front_is : (text : List ℕ) → bytes_eq header text ≡ true → take place.gate file ≡ text
  front_is text same = ap (λ (k : ℕ). take k file) gate ∙ sym is ∙ bytes_eq-true header text same

  front_of : (text : List ℕ) (s : Bool) → place.summed ≡ s → length text ≡ 16 → take place.gate file ≡ text → journal_of letter text ≡ record { frames = []; end = 16; summed = s; damaged = false } → IsFront letter (take place.gate file) place.summed
  front_of text s sums sixteen front said =
      let all = ap (journal_of letter) front ∙ said in
      record {
        whole = ap (λ (j : Journal). j.damaged) all;
        ends = ap (λ (j : Journal). j.end) all ∙ sym (ap length front ∙ sixteen);
        sums = ap (λ (j : Journal). j.summed) all ∙ sym sums;
      }

  pub read_summed : bytes_eq header (summed_header letter) ≡ true → place.summed ≡ true → IsReadTo letter place file × (journal_at place file ≡ journal_of letter file)
  read_summed same sums =
      let front = front_is (summed_header letter) same in (
        record {
          measured = record { long = long; sum = λ plain. absurd (cc) };
          front = front_of (summed_header letter) true sums refl front (new_alone letter);
        },
        (λ i. journal_from file (sums i) (gate i)) ∙ sym (by_new letter file (ap (λ (h : List ℕ). bytes_eq h (summed_header letter)) (sym is) ∙ same)),
      )

  pub read_plain : bytes_eq header (summed_header letter) ≡ false → bytes_eq header (plain_header letter) ≡ true → place.summed ≡ false → place.sum ≡ crc32c header → IsReadTo letter place file × (journal_at place file ≡ journal_of letter file)
  read_plain not_new same sums sum =
      let front = front_is (plain_header letter) same in (
        record {
          measured = record { long = long; sum = λ plain. sum ∙ ap crc32c (is ∙ ap (λ (k : ℕ). take k file) (sym gate)) };
          front = front_of (plain_header letter) false sums refl front (old_alone letter);
        },
        (λ i. journal_from file (sums i) (gate i)) ∙ sym (by_old letter file (ap (λ (h : List ℕ). bytes_eq h (summed_header letter)) (sym is) ∙ not_new) (ap (λ (h : List ℕ). bytes_eq h (plain_header letter)) (sym is) ∙ same)),
      )
