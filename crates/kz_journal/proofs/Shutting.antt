-- What a stop leaves while the end of the frames is closed, and what the file is then.
use Rattle.std.proofs.Common.{◌≡◌, ◌≢◌, inl, inr, ℕ, zero, suc, ◌+◌, ◌^◌, ◌<◌, ◌≤◌, max, Bool, true, false, not, ◌&&◌, ◌==◌, List, [], ◌∷◌, ◌++◌, length, take, drop, get_or, Option, Some, refl, sym, ap, ◌∙◌, subst, arith, append_assoc, length-append, length-drop}
use Rattle.std.specs.Prelude.{option_map}
use Rattle.std.specs.Int.{w32, from_be_bytes}
use Rattle.std.proofs.lemmas.Bool.{cases_eq}
use Rattle.std.proofs.lemmas.Bool.Decides.{nat_tests}
use Rattle.std.proofs.lemmas.List.{take_at, drop_at, length-take-le}
use Rattle.kz_disk.specs.Disks.{Torn, with_piece, NothingPends}
use Rattle.kz_spec_data.specs.Frames.{End, is_open, open_gate, closed_gate, seal_mark, stated_length, found_at}
use Rattle.kz_laws_values.proofs.Found.{short_here, closed_here, five}
use Rattle.kz_journal.specs.Closings.{StillEnds, IsIdle, IsClosed, unending}
use Rattle.kz_journal.proofs.FoundTests.{cut_frame}
use Rattle.kz_journal.proofs.Gates.{shut_here}
use Rattle.kz_journal.proofs.Files.{same_front, same_place}
use Rattle.kz_journal.proofs.Crashes.{told_after}

-- what stands from a place on
pub from_place : (k : ℕ) (l : List ℕ) → k < length l → drop k l ≡ get_or l k 0 ∷ drop (k + 1) l
from_place k [] lt = absurd (omega arith)
from_place zero (b ∷ l) lt = refl
from_place (suc k) (b ∷ l) lt =
    let e : suc (k + 1) ≡ suc k + 1 = omega arith in
    from_place k l (omega arith) ∙ ap (λ (n : ℕ). get_or l k 0 ∷ drop n (b ∷ l)) e

pub still_ends : (summed : Bool) (gate : ℕ) (file left : List ℕ) → IsIdle summed gate file → Torn gate 1 file left → StillEnds summed gate file left
still_ends summed gate file left idle torn = record { front = torn.before; none = idle left torn }

-- no frame stands in fewer than five bytes
pub idle_by_few : (summed : Bool) (gate : ℕ) (file : List ℕ) → length file < gate + 5 → IsIdle summed gate file
idle_by_few summed gate file few left torn =
    let long = torn.no_longer in
    short_here summed (take gate left) (drop gate left) (omega (arith, length-drop gate left))

-- what stands at a torn gate
torn_gate : (gate : ℕ) (file left : List ℕ) → gate < length file → Torn gate 1 file left → drop gate left ≡ get_or left gate 0 ∷ drop (gate + 1) file
torn_gate gate file left stands torn =
    let long = torn.no_shorter in
    from_place gate left (omega arith) ∙ ap (λ (l : List ℕ). get_or left gate 0 ∷ l) torn.after

open_here : (l : List ℕ) → is_open l ≡ true → (k : ℕ) (rest : List ℕ) → l ≡ k ∷ rest → k ≡ open_gate
open_here l opens k rest is =
    let test : (k == open_gate) ≡ true = ap is_open (sym is) ∙ opens in
    grind (arith, nat_tests)

-- a gate that is open already, at which no frame is found
pub idle_by_end : (summed : Bool) (gate : ℕ) (file : List ℕ) → gate < length file → is_open (drop gate file) ≡ true → found_at summed (take gate file) (drop gate file) ≡ End → IsIdle summed gate file
idle_by_end summed gate file stands opens none left torn = elim (cases_eq (get_or left gate 0) open_gate) [
  | inl same ↦
      let was : get_or file gate 0 ≡ open_gate = open_here (drop gate file) opens (get_or file gate 0) (drop (gate + 1) file) (from_place gate file stands) in
      let all : drop gate left ≡ drop gate file = torn_gate gate file left stands torn ∙ ap (λ (k : ℕ). k ∷ drop (gate + 1) file) (same ∙ sym was) ∙ sym (from_place gate file stands) in
      (λ i. found_at summed (torn.before i) (all i)) ∙ none
  | inr other ↦ ap (found_at summed (take gate left)) (torn_gate gate file left stands torn) ∙ closed_here summed (take gate left) (drop (gate + 1) file) (get_or left gate 0) other
]

no_seal : (summed : Bool) (n : ℕ) → n ≡ 4294967294 → (not summed && (n == seal_mark)) ≡ false
no_seal true n is = refl
no_seal false n is = ap (λ (k : ℕ). k == seal_mark) is

-- a length that no frame has
pub idle_by_length : (summed : Bool) (gate : ℕ) (file : List ℕ) → gate + 5 ≤ length file → length file < 2 ^ 32 → take 4 (drop (gate + 1) file) ≡ unending → IsIdle summed gate file
idle_by_length summed gate file stands small mark left torn = elim (cases_eq (get_or left gate 0) open_gate) [
  | inl same ↦
      let here = open_gate ∷ drop (gate + 1) file in
      let all : drop gate left ≡ here = torn_gate gate file left (omega arith) torn ∙ ap (λ (k : ℕ). k ∷ drop (gate + 1) file) same in
      let n : stated_length here ≡ 4294967294 = ap (from_be_bytes w32) mark in
      let least = five summed in
      let long = length-drop (gate + 1) file in
      ap (found_at summed (take gate left)) all ∙ cut_frame summed (take gate left) here refl (omega arith) (no_seal summed (stated_length here) n) (omega (arith, n))
  | inr other ↦ ap (found_at summed (take gate left)) (torn_gate gate file left (omega arith) torn) ∙ closed_here summed (take gate left) (drop (gate + 1) file) (get_or left gate 0) other
]

open_test : (gate : ℕ) (file : List ℕ) → gate < length file → is_open (drop gate file) ≡ (get_or file gate 0 == open_gate)
open_test gate file stands = ap is_open (from_place gate file stands)

-- while a length is written after a gate that isn't open
pub spoiled_ends : (summed : Bool) (gate n : ℕ) (file left : List ℕ) → gate < length file → is_open (drop gate file) ≡ false → Torn (gate + 1) n file left → StillEnds summed gate file left
spoiled_ends summed gate n file left stands shut torn =
    let long = torn.no_shorter in
    let same : get_or left gate 0 ≡ get_or file gate 0 = same_place gate left file torn.before in
    record {
      front = same_front gate left file torn.before;
      none = shut_here summed (take gate left) (drop gate left) (open_test gate left (omega arith) ∙ ap (λ (k : ℕ). k == open_gate) same ∙ sym (open_test gate file stands) ∙ shut);
    }

-- ---- once it is done

module _ (at : ℕ) (piece file : List ℕ) (within : at ≤ length file) where
  parts : with_piece at piece file ≡ take at file ++ (piece ++ drop (at + length piece) file)
  parts = append_assoc (take at file) piece (drop (at + length piece) file)

  front_long : length (take at file) ≡ at
  front_long = length-take-le at file within

  pub piece_front : take at (with_piece at piece file) ≡ take at file
  piece_front = ap (take at) parts ∙ take_at (take at file) (piece ++ drop (at + length piece) file) at front_long

  pub piece_after : drop at (with_piece at piece file) ≡ piece ++ drop (at + length piece) file
  piece_after = ap (drop at) parts ∙ drop_at (take at file) (piece ++ drop (at + length piece) file) at front_long

  pub piece_long : length (with_piece at piece file) ≡ max (length file) (at + length piece)
  piece_long =
      let a = length-append (take at file) (piece ++ drop (at + length piece) file) in
      let b = length-append piece (drop (at + length piece) file) in
      let d = length-drop (at + length piece) file in
      let f = front_long in
      let p = ap length parts in
      omega arith

first_of : (l : List ℕ) (k : ℕ) (rest : List ℕ) → l ≡ k ∷ rest → get_or l 0 0 ≡ k
first_of l k rest is = ap (λ (m : List ℕ). get_or m 0 0) is

get_or_drop : (n : ℕ) (l : List ℕ) → get_or l n 0 ≡ get_or (drop n l) 0 0
get_or_drop zero [] = refl
get_or_drop zero (b ∷ l) = refl
get_or_drop (suc n) [] = refl
get_or_drop (suc n) (b ∷ l) = get_or_drop n l

-- a closed gate is written
pub closed_now : (gate : ℕ) (file : List ℕ) (told : Option (List ℕ)) → gate ≤ length file → told ≡ Some (with_piece gate (closed_gate ∷ []) file) → IsClosed gate file told
closed_now gate file told within is = record {
  new = with_piece gate (closed_gate ∷ []) file;
  is = is;
  front = piece_front gate (closed_gate ∷ []) file within;
  closed = get_or_drop gate (with_piece gate (closed_gate ∷ []) file) ∙ first_of _ closed_gate (drop (gate + 1) file) (piece_after gate (closed_gate ∷ []) file within);
  long = piece_long gate (closed_gate ∷ []) file within;
}

pub closed_by_write : (gate : ℕ) (old new : Option (List ℕ)) (file : List ℕ) → gate ≤ length file → new ≡ option_map (with_piece gate (closed_gate ∷ [])) old → old ≡ Some file → IsClosed gate file new
closed_by_write gate old new file within is told = closed_now gate file new within (told_after old new (with_piece gate (closed_gate ∷ [])) file is told)

-- it is closed already
pub closed_before : (gate : ℕ) (file : List ℕ) (told : Option (List ℕ)) → gate < length file → take 1 (drop gate file) ≡ closed_gate ∷ [] → told ≡ Some file → IsClosed gate file told
closed_before gate file told stands byte is = record {
  new = file;
  is = is;
  front = refl;
  closed = get_or_drop gate file ∙ first_by_take (drop gate file) byte;
  long = omega arith;
}
  where
    first_by_take : (l : List ℕ) → take 1 l ≡ closed_gate ∷ [] → get_or l 0 0 ≡ closed_gate
    first_by_take [] same = absurd (cc)
    first_by_take (b ∷ l) same = first_of (take 1 (b ∷ l)) closed_gate [] same

-- a length that no frame has is written, and then a closed gate
pub closed_in_two : (gate : ℕ) (old mid new : Option (List ℕ)) (file : List ℕ) → gate + 5 ≤ length file → mid ≡ option_map (with_piece (gate + 1) unending) old → new ≡ option_map (with_piece gate (closed_gate ∷ [])) mid → old ≡ Some file → IsClosed gate file new
closed_in_two gate old mid new file stands first second told =
    let spoiled = with_piece (gate + 1) unending file in
    let is : mid ≡ Some spoiled = told_after old mid (with_piece (gate + 1) unending) file first told in
    let long : length spoiled ≡ length file = piece_long (gate + 1) unending file (omega arith) ∙ most (length file) (gate + 1 + 4) (omega arith) in
    let c = closed_by_write gate mid new spoiled (omega (arith, long)) second is in
    record {
      new = c.new;
      is = c.is;
      front = c.front ∙ same_front gate spoiled file (piece_front (gate + 1) unending file (omega arith));
      closed = c.closed;
      long = c.long ∙ ap (λ (n : ℕ). max n (gate + 1)) long;
    }
  where
    most : (m n : ℕ) → n ≤ m → max m n ≡ m
    most m n le = omega arith

-- the file in between
pub idle_once_spoiled : (summed : Bool) (gate : ℕ) (file : List ℕ) → gate + 5 ≤ length file → length file < 2 ^ 32 → IsIdle summed gate (with_piece (gate + 1) unending file)
idle_once_spoiled summed gate file stands small =
    let spoiled = with_piece (gate + 1) unending file in
    let long : length spoiled ≡ max (length file) (gate + 1 + 4) = piece_long (gate + 1) unending file (omega arith) in
    idle_by_length summed gate spoiled (omega (arith, long)) (omega (arith, long)) (ap (take 4) (piece_after (gate + 1) unending file (omega arith)))

-- what still ends there ends there in the file from before, too
pub ends_as_before : (summed : Bool) (gate : ℕ) (file left : List ℕ) → gate + 5 ≤ length file → StillEnds summed gate (with_piece (gate + 1) unending file) left → StillEnds summed gate file left
ends_as_before summed gate file left stands ends = record {
  front = ends.front ∙ same_front gate (with_piece (gate + 1) unending file) file (piece_front (gate + 1) unending file (omega arith));
  none = ends.none;
}

-- ---- before a write

-- where nothing pends, a stop leaves the file, which ends there
pub still_there : (told : Option (List ℕ)) (leaves : List ℕ → Type 0) (summed : Bool) (gate : ℕ) (file left : List ℕ) → NothingPends told leaves → told ≡ Some file → found_at summed (take gate file) (drop gate file) ≡ End → leaves left → StillEnds summed gate file left
still_there told leaves summed gate file left none is ends now =
    let same : Some file ≡ Some left = sym is ∙ none left now in
    let e : file ≡ left = cc in
    subst (λ (b : List ℕ). StillEnds summed gate file b) e (record { front = refl; none = ends })

pub open_by_byte : (here : List ℕ) (byte : ℕ) → take 1 here ≡ byte ∷ [] → byte ≡ open_gate → is_open here ≡ true
open_by_byte [] byte is open_is = absurd (cc)
open_by_byte (b ∷ here) byte is open_is =
    let first : b ≡ byte = ap (λ (l : List ℕ). get_or l 0 0) is in
    let same : b ≡ open_gate = first ∙ open_is in
    grind (arith, nat_tests)

pub shut_by_byte : (here : List ℕ) (byte : ℕ) → take 1 here ≡ byte ∷ [] → byte ≢ open_gate → is_open here ≡ false
shut_by_byte [] byte is other = absurd (cc)
shut_by_byte (b ∷ here) byte is other =
    let first : b ≡ byte = ap (λ (l : List ℕ). get_or l 0 0) is in
    let differs : b ≢ open_gate = λ same. other (sym first ∙ same) in
    grind (arith, nat_tests)
