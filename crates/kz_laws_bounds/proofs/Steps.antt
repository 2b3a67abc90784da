-- Each step ends the turn, or leaves one step less.
use Rattle.std.proofs.Common.{◌≡◌, ◌⊎◌, inl, inr, ℕ, zero, suc, ℤ, Bool, true, false, List, refl, arith}
use Rattle.kz_types.specs.declared.driver.Stage.{Stage}
use Rattle.kz_types.specs.declared.driver.Stage.TheVariants as stage
use Rattle.kz_types.specs.declared.tree.Row.{Row}
use Rattle.kz_spec_data.specs.Tree.{broker_ids, rendered_row}
use Rattle.kz_spec_data.specs.Rendering.{render}
use Rattle.kz_spec_data.specs.Difference.{diff}
use Rattle.kz_spec_machine.specs.Driver.{Shared, Driver, epoch_or_zero, request_at, shared_after, missing_broker, after_answer, StepResult, step}
use Rattle.kz_spec_machine.specs.Machine.{ends, turn}
use Rattle.kz_spec_machine.specs.Sound.{IsTime, IsSharedSound, IsSoundDriver}
use Rattle.kz_laws_events.specs.Steps.{StepKeeps}
use Rattle.kz_laws_events.proofs.Turned.{one_step}
use Rattle.kz_laws_commits.specs.Commits.{Copies, StepCopies}
use Rattle.kz_laws_commits.proofs.Steps.{step_copies}
use Rattle.kz_laws_events.proofs.Tests.{true_or_false}
use Rattle.kz_types.specs.declared.plan.Plan.TheVariants as plan
use Rattle.kz_laws_bounds.specs.Bounds.{EndsByItself, IsBasedDriver}
use Rattle.kz_laws_bounds.proofs.Left.{LeftAt, Left, Goes}
use Rattle.kz_laws_bounds.proofs.Turns.{goes_on, turn_ended}
use Rattle.kz_laws_bounds.proofs.Waiting.{goes_uninitialized, goes_quorum, goes_brokers, goes_listed, goes_looked, goes_migration_page, goes_resync_page, goes_log_read, goes_told, goes_rested}
use Rattle.kz_laws_bounds.proofs.Claimed.{goes_claimed}
use Rattle.kz_laws_bounds.proofs.Begun.{goes_begun, goes_on_records}
use Rattle.kz_laws_bounds.proofs.Writing.{goes_resync_written, goes_delta_written}
use Rattle.kz_laws_bounds.proofs.Based.{own_based}

-- ---- a step

-- what is true of a driver in its turn
record Stands (s : Shared) (d : Driver) : Type 0 where
  kept : IsSharedSound s
  fine : IsSoundDriver s d
  copies : Copies s d
  based : IsBasedDriver s d

stage_goes : (s : Shared) (running : List ℤ) (now : ℤ) (d : Driver) (x : Stage) (n : ℕ) → d.stage ≡ x → Stands s d → LeftAt s.tree s.log d x (suc n) → Goes (shared_after s (epoch_or_zero d.epoch) now (request_at s now d x)) (after_answer s running now d x) n
stage_goes s running now d stage.Uninitialized n is k left = goes_uninitialized s d n left
stage_goes s running now d stage.Inactive n is k left = inl refl
stage_goes s running now d stage.WaitForControllerQuorum n is k left = goes_quorum s running d n left
stage_goes s running now d stage.WaitForBrokers n is k left = goes_brokers s d n left
stage_goes s running now d stage.ListBrokers n is k left = goes_listed s d (missing_broker (broker_ids s.tree) d.view.image) n left
stage_goes s running now d stage.ReadControlZnodes n is k left = goes_looked s d n left
stage_goes s running now d (stage.ClaimLeadership seen) n is k left = goes_claimed s now d seen n k.kept k.fine left
stage_goes s running now d (stage.ScanForMigration rows) n is k left = goes_migration_page s d rows n k.kept left
stage_goes s running now d (stage.BeginMigration rows) n is k left = goes_begun s now d rows n k.kept k.fine is left
stage_goes s running now d (stage.AppendRecords records) n is k left = goes_on_records s now d records n k.kept k.fine k.copies is left
stage_goes s running now d stage.ReadLogForResync n is k left = goes_log_read s d n left
stage_goes s running now d (stage.ScanForResync target rows) n is k left = goes_resync_page s d target rows (λ (all : List Row). diff (Rattle.std.specs.Prelude.map rendered_row all) (render d.view.image)) n k.kept left
stage_goes s running now d (stage.WriteResync target ops) n is k left = goes_resync_written s now d target ops n is k.kept k.fine k.based.claimed left
stage_goes s running now d stage.KraftControllerToBrokerComm n is k left = goes_told s d n left.0 left.1
stage_goes s running now d stage.DualWrite n is k left = goes_rested s d n is k.kept k.fine left.0 left.1
stage_goes s running now d (stage.WriteDelta target ops) n is k left = goes_delta_written s now d target ops n is k.kept k.fine k.based.claimed left

step_goes : (s : Shared) (running : List ℤ) (now : ℤ) (d : Driver) (n : ℕ) → Stands s d → Left s d (suc n) → (ends (step s running now d).reply ≡ true) ⊎ Left (step s running now d).shared (step s running now d).driver n
step_goes s running now d n k left = goes_on s running now d n (stage_goes s running now d d.stage n refl k left.at)

one_copy : (s : Shared) (running : List ℤ) (now : ℤ) (d : Driver) → IsTime now → IsSharedSound s → IsSoundDriver s d → Copies s d → StepCopies s d (step s running now d).shared (step s running now d).driver
unfolding step
one_copy s running now d time kept fine copies = step_copies plan.Deliver s running now d time kept fine copies

step_stands : (s : Shared) (running : List ℤ) (now : ℤ) (d : Driver) → IsTime now → Stands s d → Stands (step s running now d).shared (step s running now d).driver
step_stands s running now d time k =
    let r : StepResult = step s running now d in
    let keeps : StepKeeps s d r.shared r.driver = one_step s running now d time k.kept k.fine in
    record { kept = keeps.shared; fine = keeps.driver; copies = (one_copy s running now d time k.kept k.fine k.copies).driver; based = own_based s running now d k.fine k.based }

-- ---- a turn

goes_left : (b : Bool) (P : Type 0) → b ≡ false → (b ≡ true) ⊎ P → P
goes_left b P on (inl over) = absurd (true_or_false b over on)
goes_left b P on (inr left) = left

turn_over : (n : ℕ) (s : Shared) (running : List ℤ) (now : ℤ) (d : Driver) → IsTime now → Stands s d → Left s d n → EndsByItself (turn n s running now d).replies
unfolding turn
turn_over zero s running now d time k left = absurd (let some = left.some in omega (arith, some))
turn_over (suc n) s running now d time k left =
    let r : StepResult = step s running now d in
    turn_ended (ends r.reply) r (turn n r.shared running now r.driver) refl
    (λ on. turn_over n r.shared running now r.driver time (step_stands s running now d time k) (goes_left (ends r.reply) (Left r.shared r.driver n) on (step_goes s running now d n k left)))

pub ends_by_itself : (n : ℕ) (s : Shared) (running : List ℤ) (now : ℤ) (d : Driver) → IsTime now → IsSharedSound s → IsSoundDriver s d → Copies s d → IsBasedDriver s d → Left s d n → EndsByItself (turn n s running now d).replies
ends_by_itself n s running now d time kept fine copies based left = turn_over n s running now d time (record { kept = kept; fine = fine; copies = copies; based = based }) left
