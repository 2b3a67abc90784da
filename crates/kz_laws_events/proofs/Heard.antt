-- Steps of a driver whose request reads, or that makes none.
use Rattle.std.proofs.Common.{◌≡◌, ℤ, List, refl, ap, subst}
use Rattle.kz_types.specs.declared.driver.Stage.{Stage}
use Rattle.kz_types.specs.declared.driver.Stage.TheVariants as stage
use Rattle.kz_types.specs.declared.machine.Reply.TheVariants as reply
use Rattle.kz_spec_data.specs.Tree.{broker_ids}
use Rattle.kz_spec_machine.specs.Driver.{Shared, Driver, at_stage, missing_broker, driver_at_log_end, after_answer}
use Rattle.kz_spec_machine.specs.Sound.{shown_in, MayNotKnow, is_filling, IsSharedSound, IsSoundDriver}
use Rattle.kz_laws_events.specs.Steps.{IsReading}
use Rattle.kz_laws_events.proofs.Ways.{lasts_read, unless_over, moved}
use Rattle.kz_laws_events.proofs.Reading.{quorum_waits, brokers_looked, brokers_wait, looked, migration_scanned}
use Rattle.kz_laws_events.proofs.Resync.{log_read, resync_scanned, told_brokers, rested}

pub read_at : (s : Shared) (running : List ℤ) (now : ℤ) (d : Driver) (x : Stage) → IsReading x → d.stage ≡ x → IsSharedSound s → IsSoundDriver s d → IsSoundDriver s (after_answer s running now d x).0
read_at s running now d stage.Uninitialized reads is kept fine =
    moved s d stage.Inactive fine tt (ap is_filling is) (λ migrated none some. subst (MayNotKnow (shown_in s.tree) d.epoch) is (fine.views.unknown migrated none some)) tt
read_at s running now d stage.Inactive reads is kept fine = fine
read_at s running now d stage.WaitForControllerQuorum reads is kept fine = quorum_waits s running d is kept fine
read_at s running now d stage.WaitForBrokers reads is kept fine =
    let e : Driver = driver_at_log_end s.log d in
    unless_over s e (at_stage stage.ListBrokers e, reply.Looked) (lasts_read s d kept.log fine) (brokers_looked s d is kept fine)
read_at s running now d stage.ListBrokers reads is kept fine = brokers_wait s d (missing_broker (broker_ids s.tree) d.view.image) is fine
read_at s running now d stage.ReadControlZnodes reads is kept fine = looked s d is kept fine
read_at s running now d (stage.ClaimLeadership seen) reads is kept fine = absurd reads
read_at s running now d (stage.ScanForMigration rows) reads is kept fine = migration_scanned s d rows is kept fine
read_at s running now d (stage.BeginMigration rows) reads is kept fine = absurd reads
read_at s running now d (stage.AppendRecords records) reads is kept fine = absurd reads
read_at s running now d stage.ReadLogForResync reads is kept fine = log_read s d is kept fine
read_at s running now d (stage.ScanForResync target rows) reads is kept fine = resync_scanned s d target rows is kept fine
read_at s running now d (stage.WriteResync target ops) reads is kept fine = absurd reads
read_at s running now d stage.KraftControllerToBrokerComm reads is kept fine = told_brokers s d is fine
read_at s running now d stage.DualWrite reads is kept fine = rested s d is kept fine
read_at s running now d (stage.WriteDelta target ops) reads is kept fine = absurd reads

pub reading_step : (s : Shared) (running : List ℤ) (now : ℤ) (d : Driver) → IsReading d.stage → IsSharedSound s → IsSoundDriver s d → IsSoundDriver s (after_answer s running now d d.stage).0
reading_step s running now d reads kept fine = read_at s running now d d.stage reads refl kept fine
