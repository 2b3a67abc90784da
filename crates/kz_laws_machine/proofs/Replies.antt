-- A step by whose reply a driver learns that it is fenced.
use Rattle.std.proofs.Common.{◌≡◌, ◌≢◌, ℤ, Bool, true, false, if◌then◌else◌, List, [], ◌∷◌, Option, Some, None, refl}
use Rattle.std.specs.Prelude.{Result, Ok, Err}
use Rattle.kz_types.specs.declared.tree.Op.{Op}
use Rattle.kz_types.specs.declared.driver.ClaimSeen.{ClaimSeen}
use Rattle.kz_types.specs.declared.driver.Stage.{Stage}
use Rattle.kz_types.specs.declared.driver.Stage.TheVariants as stage
use Rattle.kz_types.specs.declared.machine.Recorded.{Recorded}
use Rattle.kz_types.specs.declared.machine.Reply.{Reply}
use Rattle.kz_types.specs.declared.machine.Reply.TheVariants as reply
use Rattle.kz_types.specs.declared.machine.Event.TheVariants as event
use Rattle.kz_types.specs.declared.machine.Answer.{Answer}
use Rattle.kz_types.specs.declared.machine.Answer.TheVariants as answer
use Rattle.kz_types.specs.declared.fault.TreeFault.{TreeFault}
use Rattle.kz_types.specs.declared.fault.LogFault.{LogFault}
use Rattle.kz_types.specs.declared.plan.Plan.{Plan}
use Rattle.kz_types.specs.declared.record.MetaRecord.{MetaRecord}
use Rattle.kz_spec_data.specs.Tree.{Tree, multi}
use Rattle.kz_spec_data.specs.Log.{Log, append, end_of}
use Rattle.kz_spec_data.specs.Translation.{Unreadable, translate}
use Rattle.kz_spec_data.specs.Difference.{after_chunk, chunk}
use Rattle.kz_spec_machine.specs.Driver.{Shared, Driver, at_stage, epoch_or_zero, claim_ops, remaining_at, is_last_write, write_ops, begin_record, begin_request, next_records, Request, write_request, request_at, with_tree, with_log, shared_after, after_claim, after_append, after_translation, after_records, after_write, writes, after_answer, Hearing, hears_answer, hears_nothing, hears_expiry, hearing, reaches_store, driver_after, planned_step}
use Rattle.kz_spec_machine.specs.Machine.{World, outcome_unless, first_of, leader_refusal, changed_log, changed_world, change_refusal, registration, register_refusal, final_records, finalise_refusal, next}
use Rattle.kz_laws_machine.specs.Fence.{IsOfFence}
use Rattle.kz_laws_machine.proofs.FenceDrivers.{either_same}

-- ---- each request

claim_left : (s : Shared) (seen : ClaimSeen) (d : Driver) (ops : List Op) (r : Result Tree TreeFault) → IsOfFence (after_claim seen d ops r).1 → with_tree s r ≡ s
claim_left s seen d ops (Ok t) fenced = absurd fenced
claim_left s seen d ops (Err e) fenced = refl

append_left : (s : Shared) (x : Stage) (d : Driver) (r : Result Log LogFault) → IsOfFence (after_append x d r).1 → with_log s r ≡ s
append_left s x d (Ok l) fenced = absurd fenced
append_left s x d (Err e) fenced = refl

begin_left : (s : Shared) (now : ℤ) (d : Driver) (r : Result (List MetaRecord) Unreadable) → IsOfFence (after_translation s now d r).1 → shared_after s (epoch_or_zero d.epoch) now (begin_request r) ≡ s
begin_left s now d (Ok records) fenced = append_left s (stage.AppendRecords records) d (append s.log (epoch_or_zero d.epoch) now (begin_record ∷ [])) fenced
begin_left s now d (Err e) fenced = refl

-- a choice of two replies that aren't such
neither_fenced : (b : Bool) (x y : Driver × Reply) → (IsOfFence x.1 → ⊥) → (IsOfFence y.1 → ⊥) → IsOfFence (if b then x else y).1 → ⊥
neither_fenced true x y first second fenced = first fenced
neither_fenced false x y first second fenced = second fenced

written_left : (s : Shared) (claim : ℤ) (ops : List Op) (target : Recorded) (more : List Op → Stage) (last : Stage) (d : Driver) (r : Result Tree TreeFault) → IsOfFence (after_write claim ops target more last d r).1 → with_tree s r ≡ s
written_left s claim ops target more last d (Ok t) fenced = absurd (neither_fenced (is_last_write ops) (record d { stage = last; recorded = Some target.offset }, reply.Recorded target.offset)
    (at_stage (more (after_chunk ops)) d, reply.Wrote (Rattle.std.specs.Prelude.length (chunk ops))) (λ x. x) (λ x. x) fenced)
written_left s claim ops target more last d (Err e) fenced = refl

write_left : (s : Shared) (now : ℤ) (d : Driver) (claim : Option ℤ) (target : Recorded) (more : List Op → Stage) (last : Stage) → IsOfFence (writes s.tree claim (remaining_at s.tree s.log target.offset) target more last d).1
    → shared_after s (epoch_or_zero d.epoch) now (write_request claim (remaining_at s.tree s.log target.offset) target) ≡ s
write_left s now d None target more last fenced = refl
write_left s now d (Some v) target more last fenced =
    written_left s v (remaining_at s.tree s.log target.offset) target more last d (multi s.tree (write_ops v (remaining_at s.tree s.log target.offset) target)) fenced

-- ---- every stage

answer_left : (s : Shared) (running : List ℤ) (now : ℤ) (d : Driver) (x : Stage) → IsOfFence (after_answer s running now d x).1 → shared_after s (epoch_or_zero d.epoch) now (request_at s now d x) ≡ s
answer_left s running now d stage.Uninitialized fenced = refl
answer_left s running now d stage.Inactive fenced = refl
answer_left s running now d stage.WaitForControllerQuorum fenced = refl
answer_left s running now d stage.WaitForBrokers fenced = refl
answer_left s running now d stage.ListBrokers fenced = refl
answer_left s running now d stage.ReadControlZnodes fenced = refl
answer_left s running now d (stage.ClaimLeadership seen) fenced = claim_left s seen d (claim_ops seen d now) (multi s.tree (claim_ops seen d now)) fenced
answer_left s running now d (stage.ScanForMigration rows) fenced = refl
answer_left s running now d (stage.BeginMigration rows) fenced = begin_left s now d (translate rows) fenced
answer_left s running now d (stage.AppendRecords records) fenced = append_left s (after_records records) d (append s.log (epoch_or_zero d.epoch) now (next_records records)) fenced
answer_left s running now d stage.ReadLogForResync fenced = refl
answer_left s running now d (stage.ScanForResync target rows) fenced = refl
answer_left s running now d (stage.WriteResync target ops) fenced = write_left s now d d.claim target (λ rest. stage.WriteResync target rest) stage.KraftControllerToBrokerComm fenced
answer_left s running now d stage.KraftControllerToBrokerComm fenced = refl
answer_left s running now d stage.DualWrite fenced = refl
answer_left s running now d (stage.WriteDelta target ops) fenced = write_left s now d d.claim target (λ rest. stage.WriteDelta target rest) stage.DualWrite fenced

-- a reply that is lost or expired isn't such
heard : (h : Hearing) (answer : Driver × Reply) (r : Request) (d : Driver) → IsOfFence (driver_after h answer r d).1 → IsOfFence answer.1
heard hears_answer answer r d fenced = fenced
heard hears_nothing answer r d fenced = absurd fenced
heard hears_expiry answer r d fenced = absurd fenced

pub fenced_reply : (p : Plan) (s : Shared) (running : List ℤ) (now : ℤ) (d : Driver) → IsOfFence (planned_step p s running now d).reply → (planned_step p s running now d).shared ≡ s
unfolding planned_step
fenced_reply p s running now d fenced =
    let r = request_at s now d d.stage in
    either_same (reaches_store p r) (shared_after s (epoch_or_zero d.epoch) now r) s
    (answer_left s running now d d.stage (heard (hearing p s (epoch_or_zero d.epoch) now r) (after_answer s running now d d.stage) r d fenced))

-- ---- events of controllers that don't lead

refused_leaves : (w new : World) (reply : Answer) (refusal : Option Answer) → refusal ≢ None → (outcome_unless w refusal new reply).0 ≡ w
refused_leaves w new reply (Some a) some = refl
refused_leaves w new reply None some = absurd (some refl)

first_refuses : (a b : Option Answer) → a ≢ None → first_of a b ≢ None
first_refuses (Some x) b some is = absurd (cc)
first_refuses None b some is = absurd (some refl)

pub leader_alone : (w : World) (id now : ℤ) (records : List MetaRecord) (broker : ℤ) (migrating : Bool) → leader_refusal w id ≢ None
    → ((next w (event.Change id records now)).0 ≡ w) × ((next w (event.Register id broker migrating now)).0 ≡ w) × ((next w (event.Finalise id now)).0 ≡ w)
unfolding next
leader_alone w id now records broker migrating some = (
  refused_leaves w (changed_world w records now) (answer.Appended (end_of (changed_log w.shared.log records now))) (change_refusal w id records) (first_refuses (leader_refusal w id) _ some),
  refused_leaves w (changed_world w (registration broker migrating) now) (answer.Appended (end_of (changed_log w.shared.log (registration broker migrating) now))) (register_refusal w id (registration broker migrating)) (first_refuses (leader_refusal w id) _ some),
  refused_leaves w (changed_world w final_records now) (answer.Appended (end_of (changed_log w.shared.log final_records now))) (finalise_refusal w id) (first_refuses (leader_refusal w id) _ some),
)
