-- A step that appends nothing leaves its driver at a stage that fills no transaction.
use Rattle.std.proofs.Common.{◌≡◌, ℤ, false, List, refl}
use Rattle.kz_types.specs.declared.driver.Stage.{Stage}
use Rattle.kz_types.specs.declared.driver.Stage.TheVariants as stage
use Rattle.kz_types.specs.declared.plan.Plan.{Plan}
use Rattle.kz_spec_machine.specs.Driver.{Shared, Driver, planned_step}
use Rattle.kz_spec_machine.specs.Sound.{is_filling}
use Rattle.kz_laws_events.specs.Steps.{AppendsNothing}
use Rattle.kz_laws_events.proofs.Succession.{ByStage, HoldsOfNothing, Leads, step_leads}

abbrev FillsNone : ByStage
FillsNone claim x = is_filling x ≡ false

abbrev pub IsQuiet : Driver → Type 0
IsQuiet d = is_filling d.stage ≡ false

nothing_filled : HoldsOfNothing FillsNone
nothing_filled claim (stage.AppendRecords records) nothing = absurd nothing
nothing_filled claim x nothing = refl

leads_by : (s : Shared) (d : Driver) (x : Stage) → AppendsNothing x → Leads FillsNone s d x
leads_by s d (stage.BeginMigration rows) quiet = absurd quiet
leads_by s d (stage.AppendRecords records) quiet = absurd quiet
leads_by s d (stage.ScanForResync target rows) quiet = λ ops. refl
leads_by s d (stage.WriteResync target ops) quiet = λ rest. refl
leads_by s d stage.DualWrite quiet = λ new. refl
leads_by s d (stage.WriteDelta target ops) quiet = λ rest. refl
leads_by s d x quiet = tt

own_quiet : (x : Stage) → AppendsNothing x → is_filling x ≡ false
own_quiet (stage.AppendRecords records) quiet = absurd quiet
own_quiet x quiet = refl

pub step_quiet : (p : Plan) (s : Shared) (running : List ℤ) (now : ℤ) (d : Driver) → AppendsNothing d.stage → IsQuiet (planned_step p s running now d).driver
step_quiet p s running now d quiet = step_leads FillsNone p s running now d nothing_filled (leads_by s d d.stage quiet) (own_quiet d.stage quiet)
