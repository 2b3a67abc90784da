-- A driver that gets no answer, where its request changed nothing.
use Rattle.std.proofs.Common.{◌≡◌, ◌≢◌, ℤ, true, false, List, Option, Some, None, refl, ap, ◌∙◌, subst}
use Rattle.std.specs.Prelude.{Result, Ok, Err}
use Rattle.kz_types.specs.declared.tree.Op.{Op}
use Rattle.kz_types.specs.declared.driver.Stage.{Stage}
use Rattle.kz_types.specs.declared.driver.Stage.TheVariants as stage
use Rattle.kz_types.specs.declared.machine.Recorded.{Recorded}
use Rattle.kz_types.specs.declared.record.MetaRecord.{MetaRecord}
use Rattle.kz_spec_data.specs.Tree.{Tree}
use Rattle.kz_spec_data.specs.Log.{is_migrated_log}
use Rattle.kz_spec_data.specs.Image.{is_migrated_state}
use Rattle.kz_spec_data.specs.Translation.{Unreadable, translate}
use Rattle.kz_spec_machine.specs.Driver.{Shared, Driver, begins_again, remaining_at, begin_request, write_request, request_at, without_answer}
use Rattle.kz_spec_machine.specs.Sound.{shown_in, IsBelowShown, WasElected, MayNotKnow, OwnRecord, is_filling, IsSoundDriver}
use Rattle.kz_laws_events.proofs.Ways.{lasts_of, resigned, moved, again}

-- the driver looks anew on another tree
pub relook : (s : Shared) (new : Tree) (d : Driver) → IsSoundDriver s d → d.epoch ≢ None → is_filling d.stage ≡ false → OwnRecord new s.log d.recorded
    → (is_migrated_log s.log ≡ true → is_migrated_state d.view.image.state ≡ false → d.epoch ≢ None → IsBelowShown (shown_in new) d.epoch) → IsSoundDriver (record s { tree = new }) (begins_again d)
relook s new d fine elected settled own unknown = record {
  id = fine.id;
  epochs = fine.epochs;
  elected = elected;
  claims = tt;
  views = record { view = fine.views.view; epoch_range = fine.views.epoch_range; migrated = fine.views.migrated; unknown = unknown };
  own_record = own;
  leads = λ leads filling. fine.leads leads settled;
  stage = tt;
}

-- a stage of which nothing else is known than that another controller holds the tree
pub again_at : (s : Shared) (d : Driver) (x : Stage) → d.stage ≡ x → (WasElected d.epoch x → d.epoch ≢ None) → (MayNotKnow (shown_in s.tree) d.epoch x → IsBelowShown (shown_in s.tree) d.epoch) → is_filling x ≡ false → IsSoundDriver s d → IsSoundDriver s (begins_again d)
again_at s d x is elected below settled fine =
    again s d fine (elected (subst (WasElected d.epoch) is fine.elected)) (ap is_filling is ∙ settled)
    (λ migrated none some. below (subst (MayNotKnow (shown_in s.tree) d.epoch) is (fine.views.unknown migrated none some)))

begin_unheard : (s : Shared) (d : Driver) (r : Result (List MetaRecord) Unreadable) → IsSoundDriver s d → IsSoundDriver s (without_answer (begin_request r) d)
begin_unheard s d (Ok records) fine = resigned s d (lasts_of s d fine)
begin_unheard s d (Err e) fine = fine

write_unheard : (s : Shared) (d : Driver) (m : Option ℤ) (ops : List Op) (target : Recorded) → IsSoundDriver s d → IsSoundDriver s (begins_again d) → IsSoundDriver s (without_answer (write_request m ops target) d)
write_unheard s d None ops target fine relooked = fine
write_unheard s d (Some claim) ops target fine relooked = relooked

pub unheard_at : (s : Shared) (now : ℤ) (d : Driver) (x : Stage) → d.stage ≡ x → IsSoundDriver s d → IsSoundDriver s (without_answer (request_at s now d x) d)
unheard_at s now d stage.Uninitialized is fine = fine
unheard_at s now d stage.Inactive is fine = fine
unheard_at s now d stage.WaitForControllerQuorum is fine = fine
unheard_at s now d stage.WaitForBrokers is fine = fine
unheard_at s now d stage.ListBrokers is fine =
    moved s d stage.WaitForBrokers fine (subst (WasElected d.epoch) is fine.elected) (ap is_filling is) (λ migrated none some. subst (MayNotKnow (shown_in s.tree) d.epoch) is (fine.views.unknown migrated none some)) tt
unheard_at s now d stage.ReadControlZnodes is fine = again_at s d stage.ReadControlZnodes is (λ h. h) (λ h. h) refl fine
unheard_at s now d (stage.ClaimLeadership seen) is fine = again_at s d (stage.ClaimLeadership seen) is (λ h. h) (λ h. h) refl fine
unheard_at s now d (stage.ScanForMigration rows) is fine = again_at s d (stage.ScanForMigration rows) is (λ h. h) (λ h. h) refl fine
unheard_at s now d (stage.BeginMigration rows) is fine = begin_unheard s d (translate rows) fine
unheard_at s now d (stage.AppendRecords records) is fine = resigned s d (lasts_of s d fine)
unheard_at s now d stage.ReadLogForResync is fine = fine
unheard_at s now d (stage.ScanForResync target rows) is fine = again_at s d (stage.ScanForResync target rows) is (λ h. h) (λ h. h) refl fine
unheard_at s now d (stage.WriteResync target ops) is fine =
    write_unheard s d d.claim (remaining_at s.tree s.log target.offset) target fine (again_at s d (stage.WriteResync target ops) is (λ h. h) (λ h. h) refl fine)
unheard_at s now d stage.KraftControllerToBrokerComm is fine = fine
unheard_at s now d stage.DualWrite is fine = fine
unheard_at s now d (stage.WriteDelta target ops) is fine =
    write_unheard s d d.claim (remaining_at s.tree s.log target.offset) target fine (again_at s d (stage.WriteDelta target ops) is (λ h. h) (λ h. h) refl fine)

pub unheard_step : (s : Shared) (now : ℤ) (d : Driver) → IsSoundDriver s d → IsSoundDriver s (without_answer (request_at s now d d.stage) d)
unheard_step s now d fine = unheard_at s now d d.stage refl fine
