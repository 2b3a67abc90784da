-- Disks that tell nothing: a file, and one that fails every call.
use Rattle.std.specs.Prelude.{◌≡◌, ℕ, Bool, List, Some, None}
use Rattle.kz_disk.specs.Disks.{LeavesNothing}
use Rattle.kz_disk.specs.declared.file.FileDisk.{FileDisk}
use Rattle.kz_disk.specs.declared.fail.FailDisk.{FailDisk}

-- how often a call of a file has failed
abbrev pub file_faults : FileDisk → ℕ
file_faults d = d.faults

-- whether the last one failed
abbrev pub file_failed : FileDisk → Bool
file_failed d = d.failed

-- how often a sync has succeeded
abbrev pub file_syncs : FileDisk → ℕ
file_syncs d = d.syncs

-- how often a call of a disk that fails every call has failed
abbrev pub fail_faults : FailDisk → ℕ
fail_faults d = d.faults

-- whether one was made
abbrev pub fail_failed : FailDisk → Bool
fail_failed d = d.failed

-- nothing that is told isn't these bytes
pub none_told : (bytes : List ℕ) → None ≡ Some bytes → LeavesNothing bytes
none_told bytes is = absurd (cc)
