-- The reports of the program, as the definitions have them, and how one is printed.
use Rattle.std.specs.Prelude.{◌≡◌, ℕ, List, Option, Result, Ok, Err}
use Rattle.std.specs.Io.KnownBytes.{Appends}
use Rattle.kz_types.specs.declared.outside.Status.{Status}
use Rattle.kz_types.specs.declared.outside.Status.TheVariants as status
use Rattle.kz_output.specs.declared.output.OutputFault.{OutputFault}
use Rattle.kz_output.specs.declared.output.OutputFault.TheVariants as fault
use Rattle.kz_spec_machine.specs.Words as words
use Rattle.kz_spec_machine.specs.Reports.{Printed}
use Rattle.kz_output.specs.Outputs.{WritesFront}
use Rattle.kz_reports.specs.declared.report.Report.{Report}
use Rattle.kz_reports.specs.declared.report.Report.TheVariants as report

abbrev pub defined_report : Report → words.Report
defined_report report.DumpTree = words.DumpTree
defined_report report.DumpLog = words.DumpLog
defined_report report.Render = words.Render
defined_report (report.RenderAt offset) = words.RenderAt offset
defined_report report.Check = words.Check
defined_report report.Figures = words.Figures

-- All of what is to be printed was written, and this is its status.
abbrev pub IsPrinted : Printed → Option (List ℕ) → Option (List ℕ) → Status → Type 0
IsPrinted p taken taken_now status = Appends taken taken_now p.text × (p.status ≡ status)

-- How printing ends: all was written, or, where the sink failed or memory ran out, a front.
abbrev pub PrintEnds : Printed → Result Status OutputFault → Option (List ℕ) → Option (List ℕ) → Type 0
PrintEnds p (Ok s) taken taken_now = IsPrinted p taken taken_now s
PrintEnds p (Err e) taken taken_now = WritesFront taken taken_now p.text

-- the status of a command that printed, or why it stopped
abbrev pub status_of : Result Status OutputFault → Status
status_of (Ok s) = s
status_of (Err fault.SinkFailed) = status.WriteFault
status_of (Err fault.NoMemory) = status.NoMemory
