-- The command that the program runs, as the definitions have it.
use Rattle.std.specs.Prelude.{◌≤◌, ⊤, ℕ, Option, Some, None}
use Rattle.kz_types.specs.declared.limits.TheConstants.{MAX_GENERATED}
use Rattle.kz_spec_machine.specs.Words as words
use Rattle.kz_reports.specs.Reports.{defined_report}
use Rattle.kz_replay.specs.declared.words.Command.{Command}
use Rattle.kz_replay.specs.declared.words.Command.TheVariants as command

abbrev pub defined_command : Command → words.Command
defined_command command.Init = words.Init
defined_command command.Load = words.Load
defined_command command.Replay = words.Replay
defined_command command.Upgrade = words.Upgrade
defined_command (command.Tell report) = words.Tell (defined_report report)
defined_command (command.Generate changes) = words.Generate changes

-- No script is generated with more changes than are allowed.
abbrev pub IsAllowed : Option ℕ → Type 0
IsAllowed None = ⊤
IsAllowed (Some changes) = changes ≤ MAX_GENERATED

abbrev pub HasAllowed : Option Command → Type 0
HasAllowed None = ⊤
HasAllowed (Some command.Init) = ⊤
HasAllowed (Some command.Load) = ⊤
HasAllowed (Some command.Replay) = ⊤
HasAllowed (Some command.Upgrade) = ⊤
HasAllowed (Some (command.Tell report)) = ⊤
HasAllowed (Some (command.Generate changes)) = IsAllowed changes
