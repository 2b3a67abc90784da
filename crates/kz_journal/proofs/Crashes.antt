-- What a stop leaves while bytes are written after a gate and the gate is opened.
use Rattle.std.proofs.Common.{◌≡◌, ⊎_elim, true, false, ℕ, ◌+◌, ◌≤◌, List, ◌++◌, length, take, drop, Option, Some, None, refl, sym, ap, ◌∙◌, subst, arith, length-append}
use Rattle.std.specs.Prelude.{option_map, is_some}
use Rattle.std.proofs.lemmas.List.{length-take-le}
use Rattle.kz_disk.specs.Disks.{StaysTold, IsWithin, with_piece, Torn, NothingPends, LeavesOnly}
use Rattle.kz_journal.specs.Appends.{IsTornOr}

torn_same : (at n : ℕ) (bytes : List ℕ) → Torn at n bytes bytes
torn_same at n bytes = record { before = refl; after = refl; no_shorter = omega arith; no_longer = omega arith }

-- where nothing was pending, only this write is torn
pub torn_once : (told : Option (List ℕ)) (leaves : List ℕ → Type 0) (at n : ℕ) (file left : List ℕ) → NothingPends told leaves → told ≡ Some file → IsTornOr leaves at n left → Torn at n file left
torn_once told leaves at n file left none is torn = ⊎_elim
    (λ now.
    let same : Some left ≡ Some file = sym (none left now) ∙ is in
    let e : left ≡ file = cc in
    subst (λ (b : List ℕ). Torn at n b left) e (torn_same at n left))
    (λ was.
    let same : Some was.0 ≡ Some file = sym (none was.0 was.1) ∙ is in
    let e : was.0 ≡ file = cc in
    subst (λ (b : List ℕ). Torn at n b left) e was.2)
    torn

-- what is told after a write, where it was told before
pub told_after : (old new : Option (List ℕ)) (change : List ℕ → List ℕ) (file : List ℕ) → new ≡ option_map change old → old ≡ Some file → new ≡ Some (change file)
told_after old new change file is told = is ∙ ap (option_map change) told

longer : (file bytes piece : List ℕ) (at place : ℕ) → at ≤ length file → bytes ≡ take at file ++ piece ++ drop (at + length piece) file → place ≤ at → place ≤ length bytes
longer file bytes piece at place room is le =
    let front = length-take-le at file room in
    omega (arith, ap length is, length-append (take at file ++ piece) (drop (at + length piece) file), length-append (take at file) piece, front)

-- a place within a file stays within it
pub still_within : (old new : Option (List ℕ)) (at place : ℕ) (piece : List ℕ) → IsWithin old at → new ≡ option_map (with_piece at piece) old → place ≤ at → IsWithin new place
still_within None new at place piece within is le bytes told = absurd (cc)
still_within (Some file) new at place piece within is le bytes told =
    let same : Some bytes ≡ Some (with_piece at piece file) = sym told ∙ is in
    let e : bytes ≡ with_piece at piece file = cc in
    longer file bytes piece at place (within file refl) e le

-- one change after another
pub option_twice : (old mid new : Option (List ℕ)) (first second : List ℕ → List ℕ) → mid ≡ option_map first old → new ≡ option_map second mid → new ≡ option_map (λ (b : List ℕ). second (first b)) old
option_twice None mid new first second e f = f ∙ ap (option_map second) e
option_twice (Some b) mid new first second e f = f ∙ ap (option_map second) e

-- what is told now was told before
pub told_before : (old new : Option (List ℕ)) (file : List ℕ) → StaysTold old new → new ≡ Some file → (was : List ℕ) × (old ≡ Some was)
told_before None new file stays told =
    let broken : true ≡ false = sym (ap (λ (o : Option (List ℕ)). is_some o) told) ∙ stays in
    absurd (cc)
told_before (Some was) new file stays told = (was, refl)

-- two contents that are told are the same
pub told_once : (told : Option (List ℕ)) (a b : List ℕ) → told ≡ Some a → told ≡ Some b → a ≡ b
told_once told a b is also =
    let same : Some a ≡ Some b = sym is ∙ also in
    cc

-- what a stop leaves at the end of some calls it might have left at some moment of them
pub left_at_end : {D : Type 0} (moment : D → ℕ) (left_since : D → ℕ → List ℕ → Type 0) (may_leave : D → List ℕ → Type 0) (old new : D) (P : List ℕ → Type 0)
    → ((t : ℕ) (left : List ℕ) → t ≤ moment new → may_leave new left → left_since new t left) → LeavesOnly moment left_since old new P → (left : List ℕ) → may_leave new left → P left
left_at_end moment left_since may_leave old new P counts run left now = run.each left (counts (moment old) left run.later now)

-- what holds of the contents that are told now, by those that were told before
pub holds_now : (old new : Option (List ℕ)) (P : List ℕ → Type 0) → StaysTold old new → ((was : List ℕ) → old ≡ Some was → (now : List ℕ) × (new ≡ Some now) × P now) → (file : List ℕ) → new ≡ Some file → P file
holds_now old new P stays step file told =
    let before = told_before old new file stays told in
    let s = step before.0 before.1 in
    subst P (told_once new s.0 file s.1 told) s.2
