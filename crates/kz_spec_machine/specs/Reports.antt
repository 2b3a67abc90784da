-- What the commands print that change no file, and how they end.
use Rattle.std.specs.Prelude.{◌≡◌, ℕ, ◌&&◌, ℤ, pos, int_le, List, [], Option, Some, None, if◌then◌else◌}
use Rattle.kz_types.specs.declared.limits.Limit.TheVariants as limits
use Rattle.kz_types.specs.Limits.{number_of_limit}
use Rattle.kz_types.specs.declared.limits.TheConstants.{MAX_GENERATED}
use Rattle.kz_types.specs.declared.machine.Verdict.{Verdict}
use Rattle.kz_types.specs.declared.machine.Verdict.TheVariants.{Unmigrated, Unrecorded, Closed, Ahead, Disagrees}
use Rattle.kz_types.specs.declared.outside.Status.{Status}
use Rattle.kz_types.specs.declared.outside.Status.TheVariants as status
use Rattle.kz_spec_data.specs.Tree.{Tree}
use Rattle.kz_spec_data.specs.Log.{Log, end_of}
use Rattle.kz_spec_machine.specs.Verdicts.{verdict}
use Rattle.kz_spec_machine.specs.Dumps.{tree_text, log_text, rendering_text, check_lines, figures_of, figure_lines}
use Rattle.kz_spec_machine.specs.Generator.{generated}
use Rattle.kz_spec_machine.specs.Endings.{IsFront}
use Rattle.kz_spec_machine.specs.Words.{Report, DumpTree, DumpLog, Render, RenderAt, Check, Figures}

-- What a command prints, and its status.
pub record Printed : Type 0 where
  pub text : List ℕ
  pub status : Status

-- a text, and no refusal
abbrev pub printed : List ℕ → Printed
printed text = record { text = text; status = status.Done }

-- a refusal, and no text
abbrev pub refused : Status → Printed
refused s = record { text = []; status = s }

-- how a check ends: with its lines, or at a path that disagrees
abbrev pub check_printed : Verdict → Printed
check_printed Unmigrated = printed (check_lines Unmigrated)
check_printed Unrecorded = printed (check_lines Unrecorded)
check_printed (Closed offset) = printed (check_lines (Closed offset))
check_printed (Ahead offset paths) = printed (check_lines (Ahead offset paths))
check_printed (Disagrees path) = refused (status.Disagrees path)

-- the znodes at an offset, where it is one from the base to the end
abbrev pub rendering_printed : Log → ℤ → Printed
rendering_printed l offset = if int_le l.base offset && int_le offset (end_of l) then printed (rendering_text l offset) else refused (status.NoOffset l.base (end_of l))

-- What is told of a tree and a log.
abbrev pub report_of : Report → Tree → Log → Printed
report_of DumpTree t l = printed (tree_text t)
report_of DumpLog t l = printed (log_text l)
report_of Render t l = printed (rendering_text l (end_of l))
report_of (RenderAt offset) t l = rendering_printed l (pos offset)
report_of Check t l = check_printed (verdict t l)
report_of Figures t l = printed (figure_lines (figures_of t l))

-- What a script that is asked for is: one with so many changes, or none, where more are asked for than are allowed.
abbrev pub script_of : Option ℕ → Printed
script_of None = refused (status.Limit (number_of_limit limits.Generated) MAX_GENERATED)
script_of (Some changes) = printed (generated changes)

-- A command wrote this much and ended with a status: all that it prints, with its status, or a front of it, where the sink failed or
-- memory ran out. Where a disk failed it wrote nothing.
abbrev pub EndsAsPrinted : Printed → List ℕ → Status → Type 0
EndsAsPrinted p sent status.WriteFault = IsFront sent p.text
EndsAsPrinted p sent status.NoMemory = IsFront sent p.text
EndsAsPrinted p sent status.TreeFault = sent ≡ []
EndsAsPrinted p sent status.LogFault = sent ≡ []
EndsAsPrinted p sent s = (p.text ≡ sent) × (p.status ≡ s)
