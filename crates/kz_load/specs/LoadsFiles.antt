-- What the command `load` does with an input and two files.
use Rattle.std.specs.Prelude.{◌≡◌, ◌≢◌, IfSome}
use Rattle.std.specs.Io.KnownBytes.{IsAtEnd}
use Rattle.kz_types.specs.declared.outside.Status.{Status}
use Rattle.kz_types.specs.declared.outside.Status.TheVariants as status
use Rattle.kz_spec_machine.specs.Endings.{EndsAtFailure}
use Rattle.kz_spec_machine.specs.Files.{EndsAtDisk}
use Rattle.kz_spec_machine.specs.Load.{Loads}
use Rattle.kz_commands.specs.Outside.{Outside, OfFiles}

pub record LoadsFiles (input input_now tree tree_now log log_now : Outside) (result : Status) : Type 0 where
  pub ran : result ≢ status.Usage
  -- The files are what the input makes of them.
  pub made : IfSome input.bytes (λ script. OfFiles tree log tree_now log_now (λ t l new_t new_l. Loads script t l new_t new_l result))
  -- A load that is done has read its input to the end.
  pub whole : result ≡ status.Done → IsAtEnd input_now.bytes
  pub tree_disk : EndsAtDisk status.TreeFault result tree.faults tree_now.faults
  pub log_disk : EndsAtDisk status.LogFault result log.faults log_now.faults
  -- It ends with `ReadFault` exactly where a read failed, and that was the last read.
  pub source : EndsAtFailure status.ReadFault result input.faults input_now.faults input.last_failed input_now.last_failed
