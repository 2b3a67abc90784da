-- A new file.
use Rattle.std.proofs.Common.{◌≡◌, ℕ, max, Bool, true, false, List, [], ◌++◌, length, take, drop, get_or, Option, Some, None, sym, ap, ◌∙◌, subst, arith, length-append}
use Rattle.std.specs.Prelude.{option_map}
use Rattle.kz_disk.specs.Disks.{with_piece}
use Rattle.kz_spec_data.specs.Frames.{summed_header, new_file, journal_of}
use Rattle.kz_laws_values.specs.Fronts.{IsFront}
use Rattle.kz_laws_values.proofs.Fronts.{header_said}
use Rattle.kz_journal.specs.declared.place.Place.{Place}
use Rattle.kz_journal.specs.Appends.{IsResting}
use Rattle.kz_journal.specs.Journals.{IsReadTo, HasClosedGate}
use Rattle.kz_journal.proofs.Files.{resting_file}
use Rattle.kz_journal.proofs.Headers.{new_alone}

module _ (letter : ℕ) (old file : List ℕ) (is : file ≡ with_piece 0 (new_file letter) old) where
  parts : file ≡ new_file letter ++ drop 17 old
  parts = is

  new_front : take 16 file ≡ summed_header letter
  new_front = ap (take 16) parts

  new_rests : IsResting letter 16 true file
  new_rests = record {
    front = subst (λ (f : List ℕ). IsFront letter f true) (sym new_front) (header_said letter);
    stands = let long = ap length parts in omega (arith, length-append (new_file letter) (drop 17 old));
    closed = ap (λ (f : List ℕ). get_or f 16 0) parts;
  }

  new_says : journal_of letter file ≡ record { frames = []; end = 16; summed = true; damaged = false }
  new_says = resting_file letter 16 true file new_rests ∙ ap (journal_of letter) new_front ∙ new_alone letter

  new_read : (place : Place) (n : ℕ) → n ≡ length file → place.gate ≡ 16 → place.summed ≡ true → place.length ≡ max n 17 → IsReadTo letter place file × HasClosedGate place file
  new_read place n long gate sums most =
      let r = new_rests in
      let stands = r.stands in (
        record {
          measured = record { long = omega (arith, long, most); sum = λ plain. absurd (cc) };
          front = subst (λ (s : Bool). IsFront letter (take place.gate file) s) (sym sums) (subst (λ (k : ℕ). IsFront letter (take k file) true) (sym gate) r.front);
        },
        subst (λ (k : ℕ). get_or file k 0 ≡ 0) (sym gate) r.closed,
      )

-- the same of what is told
module _ (letter : ℕ) (old new : Option (List ℕ)) (is : new ≡ option_map (with_piece 0 (new_file letter)) old) (file : List ℕ) (told : new ≡ Some file) where
  before : (o : Option (List ℕ)) → new ≡ option_map (with_piece 0 (new_file letter)) o → (was : List ℕ) × (file ≡ with_piece 0 (new_file letter) was)
  before None none = absurd (cc)
  before (Some was) some =
      let same : Some file ≡ Some (with_piece 0 (new_file letter) was) = sym told ∙ some in
      (was, cc)

  pub new_is_read : (place : Place) (n : ℕ) → n ≡ length file → place.gate ≡ 16 → place.summed ≡ true → place.length ≡ max n 17 → IsReadTo letter place file × HasClosedGate place file
  new_is_read = let b = before old is in new_read letter b.0 file b.1

  pub new_says_none : journal_of letter file ≡ record { frames = []; end = 16; summed = true; damaged = false }
  new_says_none = let b = before old is in new_says letter b.0 file b.1
