-- What a call for a seal made of a tree's file, and what it did to the disk.
use Rattle.std.specs.Prelude.{◌≡◌, ℕ, Bool, true, false, ⊤, List, Option, Some, is_some, Result, Ok, Err}
use Rattle.kz_types.specs.Causes.{Rose}
use Rattle.kz_types.specs.declared.fault.TreeFault.{TreeFault}
use Rattle.kz_types.specs.declared.fault.TreeFault.TheVariants as tree_fault
use Rattle.kz_spec_data.specs.Requests.{Disk, Fits, IsTooLong}
use Rattle.kz_spec_data.specs.Frames.{HasNoRoomForSeal}
use Rattle.kz_journal.specs.Held.{IsSealed}
use Rattle.kz_journal.specs.Journals.{sealed_file}

-- What a call for a seal made of a file, by its answer: the file has a seal more, or needed none; or it has no room for one, and is
-- the same.
abbrev pub SealsTold : ℕ → List ℕ → Result Bool TreeFault → Option (List ℕ) → Type 0
SealsTold letter file (Ok done) told = IsSealed letter file done told
SealsTold letter file (Err (tree_fault.Refused index code)) told = ⊤
SealsTold letter file (Err (tree_fault.Limit index number)) told = ⊤
SealsTold letter file (Err tree_fault.NoMemory) told = ⊤
SealsTold letter file (Err tree_fault.Device) told = ⊤
SealsTold letter file (Err tree_fault.Down) told = ⊤
SealsTold letter file (Err (tree_fault.Full length)) told = (told ≡ Some file) × HasNoRoomForSeal letter file

-- What a call for a seal did to the disk, by its answer: whether one was appended. The store is down from the call on in which a
-- call of the disk failed.
abbrev pub SealsDisk : Result Bool TreeFault → Disk → Disk → Type 0
SealsDisk (Ok true) old new = (old.down ≡ false) × Fits (sealed_file old.file) × (new ≡ record old { file = sealed_file old.file })
SealsDisk (Ok false) old new = (old.down ≡ false) × (new ≡ old)
SealsDisk (Err (tree_fault.Refused index code)) old new = ⊥
SealsDisk (Err (tree_fault.Limit index number)) old new = ⊥
SealsDisk (Err tree_fault.NoMemory) old new = ⊥
SealsDisk (Err tree_fault.Device) old new = (old.down ≡ false) × Fits (sealed_file old.file) × Rose old.faults new.faults × (new.down ≡ true) × (is_some new.file ≡ is_some old.file)
SealsDisk (Err tree_fault.Down) old new = (old.down ≡ true) × (new ≡ old)
SealsDisk (Err (tree_fault.Full length)) old new = (old.down ≡ false) × IsTooLong (sealed_file old.file) length × (new ≡ old)
