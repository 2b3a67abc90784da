-- After the commit no further transaction begins.
use Rattle.std.specs.Prelude.{◌≡◌, ⊤, ℤ, true, false, List}
use Rattle.kz_types.specs.declared.machine.Event.{Event}
use Rattle.kz_types.specs.declared.machine.Event.TheVariants as event
use Rattle.kz_types.specs.declared.plan.Plan.{Plan}
use Rattle.kz_spec_data.specs.Log.{is_migrated_log, is_open_log}
use Rattle.kz_spec_machine.specs.Driver.{Shared, Driver, planned_step}
use Rattle.kz_spec_machine.specs.Machine.{World, next}
use Rattle.kz_spec_machine.specs.Sound.{IsSharedSound, IsSoundDriver, Sound, IsLawful}

-- No driver's step appends to a migrated log, under any plan.
abbrev pub StepsLeaveMigratedLogs : Type 0
StepsLeaveMigratedLogs = (p : Plan) (s : Shared) (running : List ℤ) (now : ℤ) (d : Driver) → IsSharedSound s → IsSoundDriver s d → is_migrated_log s.log ≡ true → (planned_step p s running now d).shared.log ≡ s.log

-- an event that isn't a rollback
abbrev pub TakesNothingBack : Event → Type 0
TakesNothingBack event.Rollback = ⊥
TakesNothingBack e = ⊤

-- A migrated log stays migrated at every event but a rollback, and no transaction is open then.
abbrev pub EventsKeepMigrated : Type 0
EventsKeepMigrated = (w : World) (e : Event) → IsLawful e → TakesNothingBack e → Sound w → is_migrated_log w.shared.log ≡ true → (is_migrated_log (next w e).0.shared.log ≡ true) × (is_open_log (next w e).0.shared.log ≡ false)
