-- What a command makes of the two files.
use Rattle.std.specs.Prelude.{◌≢◌, ℕ, List}
use Rattle.kz_types.specs.declared.outside.Status.{Status}
use Rattle.kz_types.specs.declared.outside.Status.TheVariants as status
use Rattle.kz_spec_machine.specs.Files.{EndsAtDisk}
use Rattle.kz_commands.specs.Outside.{Outside, OfFiles}

-- A command does this with the files, and ends with a disk's status exactly where a call of that disk failed.
pub record MakesFiles (holds : List ℕ → List ℕ → List ℕ → List ℕ → Status → Type 0) (tree tree_now log log_now : Outside) (result : Status) : Type 0 where
  pub ran : result ≢ status.Usage
  pub files : OfFiles tree log tree_now log_now (λ t l new_t new_l. holds t l new_t new_l result)
  pub tree_disk : EndsAtDisk status.TreeFault result tree.faults tree_now.faults
  pub log_disk : EndsAtDisk status.LogFault result log.faults log_now.faults
