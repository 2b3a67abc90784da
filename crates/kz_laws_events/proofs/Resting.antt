-- A driver that rests in dual write, whatever controller holds the tree.
use Rattle.std.proofs.Common.{◌≡◌, ℤ, Bool, true, false, if◌then◌else◌, List, Some, refl, sym, ap, ◌∙◌, subst}
use Rattle.std.specs.Ordering.{int_eq}
use Rattle.kz_types.specs.declared.codes.TheConstants.{POST_MIGRATION}
use Rattle.kz_types.specs.declared.driver.Stage.TheVariants as stage
use Rattle.kz_types.specs.declared.machine.DriverState.TheVariants as state
use Rattle.kz_types.specs.declared.machine.Reply.{Reply}
use Rattle.kz_types.specs.declared.machine.Reply.TheVariants as reply
use Rattle.kz_types.specs.declared.plan.Plan.{Plan}
use Rattle.kz_types.specs.declared.plan.Plan.TheVariants as plan
use Rattle.kz_spec_data.specs.Log.{end_of, image_at}
use Rattle.kz_spec_data.specs.Rendering.{render}
use Rattle.kz_spec_data.specs.Difference.{diff}
use Rattle.kz_spec_machine.specs.Driver.{Shared, Driver, at_stage, resigned_driver, epoch_or_zero, target_of, read_log, driver_at_log_end, is_recorded_at, request_at, shared_after, after_answer, hearing, reaches_store, driver_after, planned_step}
use Rattle.kz_spec_machine.specs.Sound.{RecordAgrees, IsSharedSound, IsSoundDriver}
use Rattle.kz_laws_machine.proofs.Numbers.{both_at_most}
use Rattle.kz_laws_events.specs.Steps.{IsResynced}
use Rattle.kz_laws_events.proofs.Targets.{closed_offset}
use Rattle.kz_laws_events.proofs.Resync.{recorded_at, recorded_within}

-- a tree that a driver recorded at the log's end
recorded_there : (s : Shared) (d : Driver) → IsSharedSound s → IsSoundDriver s d → d.recorded ≡ Some (end_of s.log) → IsResynced s (end_of s.log)
recorded_there s d kept fine is =
    let own = fine.own_record.low (end_of s.log) is in
    let r = own.1 in
    let there : r.offset ≡ end_of s.log = both_at_most r.offset (end_of s.log) (recorded_within s r kept own.0 own.2) own.3 in
    let closed = fine.own_record.rest (end_of s.log) r is own.2 there refl in
    let agrees : RecordAgrees s.tree s.log r = (kept.agreement own.0).recorded r own.2 in
    record {
      closed = closed;
      recorded = (r, own.2, there);
      same = agrees.same (closed_offset s.tree r own.2 closed) closed ∙ ap (λ (o : ℤ). render (image_at s.log o)) there;
    }

idle_by : (over same : Bool) (x y z : Driver) → (if◌then◌else◌ {A = Driver × Reply} over (x, reply.Moved state.Inactive) (if◌then◌else◌ {A = Driver × Reply} same (y, reply.Idle) (z, reply.Looked))).1 ≡ reply.Idle → same ≡ true
idle_by true same x y z said = absurd (cc)
idle_by false true x y z said = refl
idle_by false false x y z said = absurd (cc)

answered : (s : Shared) (running : List ℤ) (now : ℤ) (d : Driver) → IsSharedSound s → IsSoundDriver s d → (after_answer s running now d stage.DualWrite).1 ≡ reply.Idle → IsResynced s (end_of s.log)
answered s running now d kept fine said =
    let e : Driver = driver_at_log_end s.log d in
    let z : Driver = at_stage (stage.WriteDelta (target_of e) (diff (render d.view.image) (render e.view.image))) e in
    let same = idle_by (int_eq e.view.image.state POST_MIGRATION) (is_recorded_at e.recorded e.view.position) (resigned_driver e) e z said in
    recorded_there s d kept fine (recorded_at d.recorded (end_of s.log) same)

at_rest : (p : Plan) (s : Shared) (running : List ℤ) (now : ℤ) (d : Driver) → IsSharedSound s → IsSoundDriver s d
    → (driver_after (hearing p s (epoch_or_zero d.epoch) now read_log) (after_answer s running now d stage.DualWrite) read_log d).1 ≡ reply.Idle
    → IsResynced (if reaches_store p read_log then shared_after s (epoch_or_zero d.epoch) now read_log else s) (end_of s.log)
at_rest plan.Deliver s running now d kept fine said = answered s running now d kept fine said
at_rest plan.LostBefore s running now d kept fine said = absurd (cc)
at_rest plan.LostAfter s running now d kept fine said = absurd (cc)
at_rest plan.Expired s running now d kept fine said = answered s running now d kept fine said

pub resting_step : (p : Plan) (s : Shared) (running : List ℤ) (now : ℤ) (d : Driver) → IsSharedSound s → IsSoundDriver s d → d.stage ≡ stage.DualWrite → (planned_step p s running now d).reply ≡ reply.Idle → IsResynced (planned_step p s running now d).shared (end_of s.log)
unfolding planned_step
resting_step p s running now d kept fine is said =
    let at_stage_is = ap (λ x. (driver_after (hearing p s (epoch_or_zero d.epoch) now (request_at s now d x)) (after_answer s running now d x) (request_at s now d x) d).1) is in
    let rests = at_rest p s running now d kept fine (sym at_stage_is ∙ said) in
    subst (λ x. IsResynced (if reaches_store p (request_at s now d x) then shared_after s (epoch_or_zero d.epoch) now (request_at s now d x) else s) (end_of s.log)) (sym is) rests
