-- What sealing a file that is opened does.
use Rattle.std.specs.Prelude.{◌≡◌, ⊤, ℕ, true, List, Result, Ok, Err}
use Rattle.kz_types.specs.Causes.{Rose}
use Rattle.kz_types.specs.declared.limits.Limit.TheVariants as limits
use Rattle.kz_types.specs.Limits.{number_of_limit}
use Rattle.kz_types.specs.declared.limits.TheConstants.{MAX_FILE_BYTES}
use Rattle.kz_types.specs.declared.outside.Status.{Status}
use Rattle.kz_types.specs.declared.outside.Status.TheVariants as status
use Rattle.kz_spec_data.specs.Frames.{journal_of, HasNoRoomForSeal}
use Rattle.kz_commands.specs.declared.sealing.SealFault.{SealFault}
use Rattle.kz_commands.specs.declared.sealing.SealFault.TheVariants as fault

-- A file has another's frames, is damaged where that is, and further frames of it have sums.
pub record HasSums (letter : ℕ) (file new : List ℕ) : Type 0 where
  pub frames : (journal_of letter new).frames ≡ (journal_of letter file).frames
  pub damaged : (journal_of letter new).damaged ≡ (journal_of letter file).damaged
  pub sums : (journal_of letter new).summed ≡ true

-- What sealing makes of a file.
abbrev pub Seals : {T : Type 0} → ℕ → Result T SealFault → List ℕ → List ℕ → Type 0
Seals letter (Ok done) file new = HasSums letter file new
Seals letter (Err fault.DiskFault) file new = ⊤
Seals letter (Err fault.Full) file new = (new ≡ file) × HasNoRoomForSeal letter file

-- The count of a disk's failures rises where a call of it failed.
abbrev pub SealsCause : {T : Type 0} → Result T SealFault → ℕ → ℕ → Type 0
SealsCause (Ok done) before now = now ≡ before
SealsCause (Err fault.DiskFault) before now = Rose before now
SealsCause (Err fault.Full) before now = now ≡ before

-- the status of a run whose tree's file isn't sealed
abbrev pub status_of_tree_seal : SealFault → Status
status_of_tree_seal fault.DiskFault = status.TreeFault
status_of_tree_seal fault.Full = status.Limit (number_of_limit limits.TreeFileBytes) MAX_FILE_BYTES

-- and of one whose log's file isn't
abbrev pub status_of_log_seal : SealFault → Status
status_of_log_seal fault.DiskFault = status.LogFault
status_of_log_seal fault.Full = status.Limit (number_of_limit limits.LogFileBytes) MAX_FILE_BYTES
