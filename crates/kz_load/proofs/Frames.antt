-- What writing the frames of a load does to a disk.
use Rattle.std.proofs.Common.{◌≡◌, inl, inr, ℕ, ◌+◌, ◌<◌, max, false, List, [], ◌∷◌, Option, Some, None, option_map, ap, sym, ◌∙◌, subst, arith}
use Rattle.std.specs.Prelude.{⊤}
use Rattle.kz_types.specs.Causes.{Rose}
use Rattle.kz_types.specs.declared.limits.TheConstants.{MAX_FILE_BYTES}
use Rattle.kz_spec_data.specs.Requests.{StoreFile, Disk, StoreAnswer, Done, Refused, NoMemory, Failed, Down, Full, with_frame, IsTooLong, ChangesDisk}
use Rattle.kz_tree_store.specs.LoadCalls.{IsStop, WritesFrames}
use Rattle.kz_commands.proofs.Disks.{not_both}

-- The count of failures, and whether the store is down, after frames of a store that was up.
abbrev pub Wrote : StoreAnswer → Disk → Disk → Type 0
Wrote Done old new = (new.down ≡ false) × (new.faults ≡ old.faults)
Wrote Refused old new = ⊥
Wrote NoMemory old new = (new.down ≡ false) × (new.faults ≡ old.faults)
Wrote Failed old new = Rose old.faults new.faults
Wrote Down old new = ⊥
Wrote (Full length) old new = (new.down ≡ false) × (new.faults ≡ old.faults)

unchanged : (old new : Disk) → old.down ≡ false → new ≡ old → (new.down ≡ false) × (new.faults ≡ old.faults)
unchanged old new up same = (ap (λ (d : Disk). d.down) same ∙ up, ap (λ (d : Disk). d.faults) same)

-- at the frame that isn't written
stopped : (p : ℕ) (answer : StoreAnswer) (old new : Disk) → old.down ≡ false → IsStop answer → ChangesDisk ⊤ p answer old new → Wrote answer old new
stopped p Done old new up stop changes = absurd stop
stopped p Refused old new up stop changes = absurd stop
stopped p NoMemory old new up stop changes = unchanged old new up changes
stopped p Failed old new up stop changes = changes.3
stopped p Down old new up stop changes = not_both old.down changes.0 up
stopped p (Full length) old new up stop changes = unchanged old new up changes.3

-- after a frame that is written
earlier : (answer : StoreAnswer) (old mid new : Disk) → mid.faults ≡ old.faults → Wrote answer mid new → Wrote answer old new
earlier Done old mid new same h = (h.0, h.1 ∙ same)
earlier Refused old mid new same h = h
earlier NoMemory old mid new same h = (h.0, h.1 ∙ same)
earlier Failed old mid new same h = subst (λ n. Rose n new.faults) same h
earlier Down old mid new same h = h
earlier (Full length) old mid new same h = (h.0, h.1 ∙ same)

pub wrote : (ps : List ℕ) (answer : StoreAnswer) (old new : Disk) → old.down ≡ false → WritesFrames ps answer old new → Wrote answer old new
wrote [] answer old new up h = subst (λ a. Wrote a old new) (sym h.0) (unchanged old new up h.1)
wrote (p ∷ ps) answer old new up (inl h) = stopped p answer old new up h.0 h.1
wrote (p ∷ ps) answer old new up (inr h) =
    let changes = h.1 in
    earlier answer old h.0 new (ap (λ (d : Disk). d.faults) changes.2)
    (wrote ps answer h.0 new (ap (λ (d : Disk). d.down) changes.2 ∙ up) h.2)

-- ---- a file that would be too long

length_in : Option StoreFile → ℕ
length_in None = 0
length_in (Some file) = file.length

-- a file with other bytes after its frames
abbrev pub left_as : ℕ → StoreFile → StoreFile
left_as size file = record file { length = size }

-- these frames would make a file too long, whose bytes are those that are left
abbrev pub AreTooLong : ℕ → ℕ → StoreFile → StoreFile → Type 0
AreTooLong p q was now = MAX_FILE_BYTES < (with_frame q (with_frame p (left_as now.length was))).length

first_longer : (most size now end p q : ℕ) → now ≡ size → most < max size (end + p) → most < max (max now (end + p)) (end + p + q)
first_longer most size now end p q same h = grind (arith)

second_longer : (most size now end p q : ℕ) → now ≡ max size (end + p) → most < max (max size (end + p)) (end + p + q) → most < max (max now (end + p)) (end + p + q)
second_longer most size now end p q same h = grind (arith)

-- the first of two frames isn't written
first_full : (p q n : ℕ) (old new : Disk) (was now : StoreFile) → old.file ≡ Some was → new.file ≡ Some now → ChangesDisk ⊤ p (Full n) old new → AreTooLong p q was now
unfolding length_in
first_full p q n old new was now is_was is_now changes =
    let long = subst (λ o. IsTooLong (option_map (with_frame p) o) n) is_was changes.2 in
    let same = ap length_in (sym is_now ∙ (ap (λ (d : Disk). d.file) changes.3 ∙ is_was)) in
    first_longer MAX_FILE_BYTES was.length now.length was.end (p + was.around) (q + was.around) same long.1

-- the second isn't
second_full : (p q n : ℕ) (old mid new : Disk) (was now : StoreFile) → old.file ≡ Some was → new.file ≡ Some now → ChangesDisk ⊤ p Done old mid → ChangesDisk ⊤ q (Full n) mid new → AreTooLong p q was now
unfolding length_in
second_full p q n old mid new was now is_was is_now first changes =
    let is_mid : mid.file ≡ Some (with_frame p was) = ap (λ (d : Disk). d.file) first.2 ∙ ap (option_map (with_frame p)) is_was in
    let long = subst (λ o. IsTooLong (option_map (with_frame q) o) n) is_mid changes.2 in
    let same = ap length_in (sym is_now ∙ (ap (λ (d : Disk). d.file) changes.3 ∙ is_mid)) in
    second_longer MAX_FILE_BYTES was.length now.length was.end (p + was.around) (q + was.around) same long.1

pub too_long : (p q n : ℕ) (old new : Disk) (was now : StoreFile) → old.file ≡ Some was → new.file ≡ Some now → WritesFrames (p ∷ q ∷ []) (Full n) old new → AreTooLong p q was now
too_long p q n old new was now is_was is_now (inl h) = first_full p q n old new was now is_was is_now h.1
too_long p q n old new was now is_was is_now (inr (mid, first, inl h)) = second_full p q n old mid new was now is_was is_now first h.1
too_long p q n old new was now is_was is_now (inr (mid, first, inr (last, written, ended))) = absurd (cc ended.0)
