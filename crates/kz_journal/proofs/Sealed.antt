-- What a file says in which a seal is appended.
use Rattle.std.proofs.Common.{◌≡◌, ℕ, ◌+◌, ◌^◌, ◌<◌, max, Bool, true, false, List, [], ◌∷◌, ◌++◌, length, take, Option, Some, sym, ap, ◌∙◌, subst, arith}
use Rattle.std.specs.Prelude.{option_map}
use Rattle.std.proofs.lemmas.List.{length-take-le}
use Rattle.kz_spec_data.specs.Requests.{IsTooLong}
use Rattle.kz_spec_data.specs.Checksum.{crc32c}
use Rattle.kz_spec_data.specs.Frames.{Journal, journal_of, open_gate, closed_gate, seal_written, journal_with_seal, LeftBySeal, HasNoRoomForSeal}
use Rattle.kz_laws_values.specs.Fronts.{IsFront}
use Rattle.kz_laws_values.proofs.Fronts.{Grows, seal_is_read}
use Rattle.kz_journal.specs.declared.place.Place.{Place}
use Rattle.kz_journal.specs.Appends.{with_open_gate, IsCutAppend, IsResting}
use Rattle.kz_journal.specs.Journals.{IsReadTo, HasClosedGate, HasNewSeal, file_at, with_seal}
use Rattle.kz_journal.proofs.Crashes.{told_after}
use Rattle.kz_journal.proofs.Files.{resting_file, left_by_writing, says_done, rests_done, long_done}

-- a file that has been read up to a closed gate rests there
pub read_rests : (letter : ℕ) (place : Place) (file : List ℕ) → IsReadTo letter place file → HasClosedGate place file → place.gate < place.length → IsResting letter place.gate place.summed file
read_rests letter place file read closed stands =
    let long = read.measured.long in
    record { front = read.front; stands = omega arith; closed = closed }

module _ (letter : ℕ) (place : Place) (file : List ℕ) (read : IsReadTo letter place file) (closed : HasClosedGate place file) (stands : place.gate < place.length) (plain : place.summed ≡ false) (fits : place.sum < 2 ^ 32) where
  rest : IsResting letter place.gate false file
  rest = subst (λ (s : Bool). IsResting letter place.gate s file) plain (read_rests letter place file read closed stands)

  sum_fits : crc32c (take place.gate file) < 2 ^ 32
  sum_fits = subst (λ (n : ℕ). n < 2 ^ 32) (read.measured.sum plain) fits

  grown : Grows letter (take place.gate file ++ open_gate ∷ seal_written (take place.gate file)) true (journal_with_seal (journal_of letter file))
  grown =
      let said = seal_is_read letter (take place.gate file) rest.front sum_fits in
      record { front_is = said.0; is = said.1 ∙ ap journal_with_seal (sym (resting_file letter place.gate false file rest)) }

  pub seal_done : (next : Place) (old new : Option (List ℕ)) (piece : List ℕ) → piece ≡ seal_written (take place.gate file) ++ closed_gate ∷ [] → new ≡ option_map (with_open_gate place.gate piece) old → old ≡ Some file
      → next.gate ≡ place.gate + 9 → next.summed ≡ true → next.length ≡ max place.length (place.gate + 10) → HasNewSeal letter next file new
  seal_done next old new piece same is told gate_is sums long =
      let next_is : next.gate ≡ place.gate + 1 + length (seal_written (take place.gate file)) = omega (arith, gate_is) in
      let now = with_open_gate place.gate (seal_written (take place.gate file) ++ closed_gate ∷ []) file in
      let again = rests_done letter place.gate false true (seal_written (take place.gate file)) file (journal_with_seal (journal_of letter file)) rest grown next.gate next_is in
      let all = long_done letter place.gate false true (seal_written (take place.gate file)) file (journal_with_seal (journal_of letter file)) rest grown next.gate next_is in
      let was = read.measured.long in
      record {
        new = now;
        is = told_after old new (with_open_gate place.gate piece) file is told ∙ ap (λ (b : List ℕ). Some (with_open_gate place.gate b file)) same;
        journal = says_done letter place.gate false true (seal_written (take place.gate file)) file (journal_with_seal (journal_of letter file)) rest grown;
        read = record {
          measured = record { long = omega (arith, all, was, long, gate_is); sum = λ is_plain. absurd (cc) };
          front = subst (λ (s : Bool). IsFront letter (take next.gate now) s) (sym sums) again.front;
        };
        closed = again.closed;
      }

  pub seal_cut : (piece left : List ℕ) → piece ≡ seal_written (take place.gate file) ++ closed_gate ∷ [] → IsCutAppend place.gate piece file left → LeftBySeal letter (journal_of letter file) left
  seal_cut piece left same cut =
      left_by_writing letter place.gate false true (seal_written (take place.gate file)) file (journal_with_seal (journal_of letter file)) rest grown left
      (subst (λ (b : List ℕ). IsCutAppend place.gate b file left) same cut)

-- A file whose length with a seal passes the limit has no room for one.
pub no_room : (letter : ℕ) (place : Place) (file : List ℕ) (told : ℕ) → IsReadTo letter place file → HasClosedGate place file → place.gate < place.length → place.summed ≡ false
    → IsTooLong (Some (with_seal (file_at place))) told → HasNoRoomForSeal letter file
no_room letter place file told read closed stands plain long =
    let rest = read_rests letter place file read closed stands in
    let same = resting_file letter place.gate place.summed file rest in
    let was = read.measured.long in
    let ends = ap (λ (j : Journal). j.end) same ∙ rest.front.ends ∙ length-take-le place.gate file (omega (arith, stands, was)) in
    let passes = long.1 in
    (ap (λ (j : Journal). j.summed) same ∙ rest.front.sums ∙ plain, omega (arith, passes, was, ends))
