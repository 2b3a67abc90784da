-- What the command does that generates a script.
use Rattle.std.specs.Prelude.{◌≡◌, ◌≢◌, ℕ, List, Option, None}
use Rattle.std.specs.Io.KnownBytes.{Appends}
use Rattle.kz_types.specs.declared.limits.Limit.TheVariants as limits
use Rattle.kz_types.specs.Limits.{number_of_limit}
use Rattle.kz_types.specs.declared.limits.TheConstants.{MAX_GENERATED}
use Rattle.kz_types.specs.declared.outside.Status.{Status}
use Rattle.kz_types.specs.declared.outside.Status.TheVariants as status
use Rattle.kz_spec_machine.specs.Endings.{EndsAtFailure}
use Rattle.kz_spec_machine.specs.Reports.{script_of, EndsAsPrinted}
use Rattle.kz_commands.specs.Outside.{Outside}

-- A script with so many changes is written; where more were asked for than are allowed, nothing is, and the limit is told.
pub record Generates (changes : Option ℕ) (out out_now : Outside) (result : Status) : Type 0 where
  pub ran : result ≢ status.Usage
  pub written : (sent : List ℕ) × Appends out.bytes out_now.bytes sent × EndsAsPrinted (script_of changes) sent result
  pub over : changes ≡ None → result ≡ status.Limit (number_of_limit limits.Generated) MAX_GENERATED
  pub sink : EndsAtFailure status.WriteFault result out.faults out_now.faults out.last_failed out_now.last_failed
