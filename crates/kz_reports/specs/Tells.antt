-- What a command does that tells what stands in two files.
use Rattle.std.specs.Prelude.{◌≡◌, ◌≢◌, ◌⊎◌, ⊤, ℕ, List, Option, Some, None}
use Rattle.std.specs.Io.KnownBytes.{Appends}
use Rattle.kz_types.specs.declared.outside.Status.{Status}
use Rattle.kz_types.specs.declared.outside.Status.TheVariants as status
use Rattle.kz_spec_data.specs.Tree.{Tree}
use Rattle.kz_spec_data.specs.Log.{Log}
use Rattle.kz_spec_machine.specs.Endings.{EndsAtFailure}
use Rattle.kz_spec_machine.specs.Words.{Report}
use Rattle.kz_spec_machine.specs.Files.{damage, StandFor, EndsAtDisk}
use Rattle.kz_spec_machine.specs.Reports.{report_of, EndsAsPrinted}
use Rattle.kz_commands.specs.Outside.{Outside, OfFiles}
use Rattle.kz_commands.specs.Opening.{IsForDamage, LeavesUnopened}

-- Where a file is damaged, the command ends for that reason, and nothing is written.
abbrev pub TellsDamage : Option Status → Status → Outside → Outside → Type 0
TellsDamage None result out out_now = ⊤
TellsDamage (Some reason) result out out_now = IsForDamage result (Some reason) × (out_now ≡ out)

pub record Tells (r : Report) (out out_now tree tree_now log log_now : Outside) (result : Status) : Type 0 where
  pub ran : result ≢ status.Usage
  -- A damaged file ends the command.
  pub damaged : (t l : List ℕ) → tree.bytes ≡ Some t → log.bytes ≡ Some l → TellsDamage (damage t l) result out out_now
  -- Of files that stand for a tree and a log, what is asked for is told.
  pub told : (t l : List ℕ) (held_tree : Tree) (held_log : Log) → tree.bytes ≡ Some t → log.bytes ≡ Some l → StandFor t l held_tree held_log
      → (sent : List ℕ) × Appends out.bytes out_now.bytes sent × EndsAsPrinted (report_of r held_tree held_log) sent result
  -- Unless a disk failed, both files say what they said.
  pub files : OfFiles tree log tree_now log_now (LeavesUnopened result)
  pub tree_disk : EndsAtDisk status.TreeFault result tree.faults tree_now.faults
  pub log_disk : EndsAtDisk status.LogFault result log.faults log_now.faults
  pub sink : EndsAtFailure status.WriteFault result out.faults out_now.faults out.last_failed out_now.last_failed
