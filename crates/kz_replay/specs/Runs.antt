-- What a run of the program does.
use Rattle.std.specs.Prelude.{◌≡◌, ◌↔◌, ℕ, List, Option, Some, None, String}
use Rattle.std.specs.declared.alloc.Global.{Global}
use Rattle.kz_types.specs.declared.outside.Status.{Status}
use Rattle.kz_types.specs.declared.outside.Status.TheVariants as status
use Rattle.kz_spec_machine.specs.Words.{Report, Init, Load, Replay, Upgrade, Tell, Generate, command_of}
use Rattle.kz_spec_machine.specs.Init.{Inits}
use Rattle.kz_spec_machine.specs.Upgrade.{Upgrades}
use Rattle.kz_commands.specs.Outside.{Outside}
use Rattle.kz_commands.specs.Makes.{MakesFiles}
use Rattle.kz_load.specs.LoadsFiles.{LoadsFiles}
use Rattle.kz_reports.specs.Tells.{Tells}
use Rattle.kz_replay.specs.Generates.{Generates}
use Rattle.kz_replay.specs.Replays.{Replays}
use Rattle.kz_commands.specs.Stops.{Contents}
use Rattle.kz_load.specs.Leaves.{LoadStops}
use Rattle.kz_replay.specs.Stops.{ReplayStops, InitStops, StandAsBefore, IsUntouched}

-- A command that reads and writes nothing makes this of the files.
pub record MakesFilesAlone (holds : List ℕ → List ℕ → List ℕ → List ℕ → Status → Type 0) (input input_now out out_now tree tree_now log log_now : Outside) (result : Status) : Type 0 where
  pub made : MakesFiles holds tree tree_now log log_now result
  pub unread : input_now ≡ input
  pub unwritten : out_now ≡ out

-- The program runs with these words, on a source, a sink and two disks that tell this before and this after, and ends with this
-- status.
pub record Runs (words : List (String Global)) (input input_now out out_now tree tree_now log log_now : Outside) (result : Status) : Type 0 where
  -- The words are refused exactly where they name no command.
  pub usage : (result ≡ status.Usage) ↔ (command_of words ≡ None)
  -- Words that are refused touch nothing.
  pub untouched : result ≡ status.Usage → (input_now ≡ input) × (out_now ≡ out) × (tree_now ≡ tree) × (log_now ≡ log)
  pub init : command_of words ≡ Some Init → MakesFilesAlone Inits input input_now out out_now tree tree_now log log_now result
  pub upgrade : command_of words ≡ Some Upgrade → MakesFilesAlone Upgrades input input_now out out_now tree tree_now log log_now result
  pub load : command_of words ≡ Some Load → LoadsFiles input input_now tree tree_now log log_now result × (out_now ≡ out)
  pub replay : command_of words ≡ Some Replay → Replays input input_now out out_now tree tree_now log log_now result
  pub tell : (r : Report) → command_of words ≡ Some (Tell r) → Tells r out out_now tree tree_now log log_now result × (input_now ≡ input)
  pub generate : (changes : Option ℕ) → command_of words ≡ Some (Generate changes) → Generates changes out out_now result × (input_now ≡ input) × (tree_now ≡ tree) × (log_now ≡ log)

-- What a stop leaves of both files after a run with these words.
pub record RunStops (words : List (String Global)) (input out out_now : Option (List ℕ)) (tree tree_now log log_now : Contents) (result : Status) : Type 0 where
  pub init : command_of words ≡ Some Init → InitStops tree tree_now log log_now result
  pub load : command_of words ≡ Some Load → LoadStops input tree tree_now log log_now result
  pub replay : command_of words ≡ Some Replay → ReplayStops input out out_now tree tree_now log log_now
  pub upgrade : command_of words ≡ Some Upgrade → StandAsBefore tree tree_now log log_now
  pub tell : (r : Report) → command_of words ≡ Some (Tell r) → StandAsBefore tree tree_now log log_now
  pub generate : (changes : Option ℕ) → command_of words ≡ Some (Generate changes) → IsUntouched tree tree_now × IsUntouched log log_now
