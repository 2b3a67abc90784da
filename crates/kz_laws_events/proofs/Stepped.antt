-- A step that makes no append, under each plan.
use Rattle.std.proofs.Common.{◌≡◌, ◌≢◌, ℤ, Bool, true, false, if◌then◌else◌, List, Option, Some, None, refl, sym, ap, ◌∙◌, subst}
use Rattle.std.specs.Prelude.{Result, Ok, Err}
use Rattle.kz_types.specs.declared.tree.Op.{Op}
use Rattle.kz_types.specs.declared.driver.ClaimSeen.{ClaimSeen}
use Rattle.kz_types.specs.declared.driver.Stage.{Stage}
use Rattle.kz_types.specs.declared.driver.Stage.TheVariants as stage
use Rattle.kz_types.specs.declared.machine.DriverState.TheVariants as state
use Rattle.kz_types.specs.declared.machine.Recorded.{Recorded}
use Rattle.kz_types.specs.declared.machine.Reply.{Reply}
use Rattle.kz_types.specs.declared.machine.Reply.TheVariants as reply
use Rattle.kz_types.specs.declared.fault.TreeFault.{TreeFault}
use Rattle.kz_types.specs.declared.fault.TreeFault.TheVariants as tree_fault
use Rattle.kz_types.specs.declared.plan.Plan.{Plan}
use Rattle.kz_types.specs.declared.plan.Plan.TheVariants as plan
use Rattle.kz_spec_data.specs.Tree.{Tree, multi}
use Rattle.kz_spec_machine.specs.Driver.{Shared, Driver, resigned_driver, begins_again, epoch_or_zero, claimed_version, claim_ops, remaining_at, write_ops, Request, nothing, write, write_request, request_at, with_tree, shared_after, after_claim, is_claim_refused, after_write, writes, after_answer, without_answer, Hearing, hears_answer, hears_nothing, hears_expiry, hearing, reaches_store, driver_after, planned_step}
use Rattle.kz_spec_machine.specs.Sound.{IsTime, IsSharedSound, WasElected, is_filling, IsSoundDriver}
use Rattle.kz_laws_machine.proofs.Claimed.{others_claimed}
use Rattle.kz_laws_machine.proofs.Written.{one_current, others_written}
use Rattle.kz_laws_events.specs.Steps.{IsReading, WritesTo, WriteLeads, AppendsNothing, IsApartFrom, StepKeeps}
use Rattle.kz_laws_events.proofs.Tests.{own_epoch}
use Rattle.kz_laws_events.proofs.Ways.{lasts_of, resigned, either}
use Rattle.kz_laws_events.proofs.Unheard.{again_at, unheard_at}
use Rattle.kz_laws_events.proofs.Heard.{read_at}
use Rattle.kz_laws_events.proofs.Claiming.{claim_leads, claim_lost}
use Rattle.kz_laws_events.proofs.Writing.{write_leads}
use Rattle.kz_laws_events.proofs.Written.{WritesFrom, resync_from, delta_from, taken_driver, write_keeps, write_lost}

-- ---- what another driver keeps

others_at_claim : (s : Shared) (running : List ℤ) (now : ℤ) (d : Driver) (seen : ClaimSeen) (new : Tree) → IsTime now → IsSharedSound s → IsSoundDriver s d → d.stage ≡ stage.ClaimLeadership seen → multi s.tree (claim_ops seen d now) ≡ Ok new
    → (f : Driver) → IsApartFrom d f → IsSoundDriver s f → IsSoundDriver (record s { tree = new }) f
others_at_claim s running now d seen new time kept fine at is f apart old =
    let elected : d.epoch ≢ None = subst (WasElected d.epoch) at fine.elected in
    others_claimed s new (claimed_version seen.epoch) (epoch_or_zero d.epoch) f (claim_leads s running now d seen new time kept fine at is).effect (λ same. apart elected (sym (own_epoch d.epoch elected) ∙ sym same)) old

others_at_write : (s : Shared) (d : Driver) (new : Tree) → IsSoundDriver s d → WriteLeads s d new → (f : Driver) → IsApartFrom d f → IsSoundDriver s f → IsSoundDriver (record s { tree = new }) f
others_at_write s d new fine leads f apart old = others_written s new f leads.effect (λ current. one_current s d f fine old apart leads.current current) old

-- ---- a step by its parts

-- what is kept where nothing shared changes
same_shared : (s : Shared) (d e : Driver) → IsSharedSound s → IsSoundDriver s e → StepKeeps s d s e
same_shared s d e kept own = record { shared = kept; driver = own; others = λ f apart old. old }

-- a request that changes nothing leaves all, whatever becomes of it
unmade : (b : Bool) (x s : Shared) → x ≡ s → (if b then x else s) ≡ s
unmade true x s is = is
unmade false x s is = refl

heard_or_not : (h : Hearing) (answer : Driver × Reply) (r : Request) (d : Driver) (P : Driver → Type 0) → P answer.0 → P (without_answer r d) → P (driver_after h answer r d).0
heard_or_not hears_answer answer r d P heard unheard = heard
heard_or_not hears_nothing answer r d P heard unheard = unheard
heard_or_not hears_expiry answer r d P heard unheard = unheard

reading_request : (s : Shared) (epoch now : ℤ) (d : Driver) (x : Stage) → IsReading x → shared_after s epoch now (request_at s now d x) ≡ s
reading_request s epoch now d stage.Uninitialized reads = refl
reading_request s epoch now d stage.Inactive reads = refl
reading_request s epoch now d stage.WaitForControllerQuorum reads = refl
reading_request s epoch now d stage.WaitForBrokers reads = refl
reading_request s epoch now d stage.ListBrokers reads = refl
reading_request s epoch now d stage.ReadControlZnodes reads = refl
reading_request s epoch now d (stage.ClaimLeadership seen) reads = absurd reads
reading_request s epoch now d (stage.ScanForMigration rows) reads = refl
reading_request s epoch now d (stage.BeginMigration rows) reads = absurd reads
reading_request s epoch now d (stage.AppendRecords records) reads = absurd reads
reading_request s epoch now d stage.ReadLogForResync reads = refl
reading_request s epoch now d (stage.ScanForResync target rows) reads = refl
reading_request s epoch now d (stage.WriteResync target ops) reads = absurd reads
reading_request s epoch now d stage.KraftControllerToBrokerComm reads = refl
reading_request s epoch now d stage.DualWrite reads = refl
reading_request s epoch now d (stage.WriteDelta target ops) reads = absurd reads

-- ---- a claim

claim_refused : (s : Shared) (d : Driver) (seen : ClaimSeen) (ops : List Op) (e : TreeFault) → IsSoundDriver s d → IsSoundDriver s (begins_again d) → IsSoundDriver s (after_claim seen d ops (Err e)).0
claim_refused s d seen ops (tree_fault.Refused index code) fine again = again
claim_refused s d seen ops (tree_fault.Limit index number) fine again = fine
claim_refused s d seen ops tree_fault.NoMemory fine again = fine
claim_refused s d seen ops tree_fault.Device fine again = fine
claim_refused s d seen ops tree_fault.Down fine again = fine
claim_refused s d seen ops (tree_fault.Full length) fine again = fine

-- what is kept by a claim that is delivered, and by one whose answer is lost
record Both (s : Shared) (d : Driver) (new : Shared) (e : Driver) : Type 0 where
  heard : StepKeeps s d new e
  lost : StepKeeps s d new (begins_again d)

claim_by : (s : Shared) (running : List ℤ) (now : ℤ) (d : Driver) (seen : ClaimSeen) (r : Result Tree TreeFault) → multi s.tree (claim_ops seen d now) ≡ r → IsTime now → IsSharedSound s → IsSoundDriver s d → IsSoundDriver s (begins_again d) → d.stage ≡ stage.ClaimLeadership seen
    → Both s d (with_tree s r) (after_claim seen d (claim_ops seen d now) r).0
claim_by s running now d seen (Ok t) is time kept fine again at =
    let k = claim_leads s running now d seen t time kept fine at is in
    let others = others_at_claim s running now d seen t time kept fine at is in
    record {
      heard = record { shared = k.shared; driver = subst (λ r. IsSoundDriver (record s { tree = t }) (after_claim seen d (claim_ops seen d now) r).0) is k.driver; others = others };
      lost = record { shared = k.shared; driver = claim_lost s now d seen t time kept fine at is; others = others };
    }
claim_by s running now d seen (Err e) is time kept fine again at = record { heard = same_shared s d _ kept (claim_refused s d seen (claim_ops seen d now) e fine again); lost = same_shared s d (begins_again d) kept again }

-- ---- a write

write_refused : (s : Shared) (d : Driver) (claim : ℤ) (ops : List Op) (target : Recorded) (more : List Op → Stage) (last : Stage) (e : TreeFault) → IsSoundDriver s d → IsSoundDriver s (begins_again d) → IsSoundDriver s (after_write claim ops target more last d (Err e)).0
write_refused s d claim ops target more last (tree_fault.Refused index code) fine again = either (IsSoundDriver s) (is_claim_refused index code) (resigned_driver d, reply.FencedWrite claim) (begins_again d, reply.Moved state.BecomeController) (λ fenced. resigned s d (lasts_of s d fine)) (λ other. again)
write_refused s d claim ops target more last (tree_fault.Limit index number) fine again = fine
write_refused s d claim ops target more last tree_fault.NoMemory fine again = fine
write_refused s d claim ops target more last tree_fault.Device fine again = fine
write_refused s d claim ops target more last tree_fault.Down fine again = fine
write_refused s d claim ops target more last (tree_fault.Full length) fine again = fine

write_by : (s : Shared) (running : List ℤ) (now : ℤ) (d : Driver) (claim : ℤ) (target : Recorded) (ops : List Op) (more : List Op → Stage) (last : Stage) (r : Result Tree TreeFault) → multi s.tree (write_ops claim (remaining_at s.tree s.log target.offset) target) ≡ r
    → IsSharedSound s → IsSoundDriver s d → IsSoundDriver s (begins_again d) → WritesTo d.stage target ops → is_filling d.stage ≡ false → d.claim ≡ Some claim
    → ((t : Tree) → multi s.tree (write_ops claim (remaining_at s.tree s.log target.offset) target) ≡ Ok t → IsSoundDriver (record s { tree = t }) (after_write claim (remaining_at s.tree s.log target.offset) target more last d (Ok t)).0)
    → Both s d (with_tree s r) (after_write claim (remaining_at s.tree s.log target.offset) target more last d r).0
write_by s running now d claim target ops more last (Ok t) is kept fine again at settled claimed own =
    let leads = write_leads s d claim target ops t kept fine at claimed is in
    let shared = (write_keeps s running now d claim target ops t kept fine at claimed is).shared in
    let others = others_at_write s d t fine leads in
    record {
      heard = record { shared = shared; driver = own t is; others = others };
      lost = record { shared = shared; driver = write_lost s d claim target ops t kept fine at settled claimed is; others = others };
    }
write_by s running now d claim target ops more last (Err e) is kept fine again at settled claimed own =
    record { heard = same_shared s d _ kept (write_refused s d claim (remaining_at s.tree s.log target.offset) target more last e fine again); lost = same_shared s d (begins_again d) kept again }

-- ---- under each plan

-- a request that writes to the tree
planned_write : (p : Plan) (s : Shared) (epoch now : ℤ) (d : Driver) (answer : Driver × Reply) (ops : List Op) → IsSharedSound s → IsSoundDriver s (begins_again d) → Both s d (with_tree s (multi s.tree ops)) answer.0
    → StepKeeps s d (if reaches_store p (write ops) then shared_after s epoch now (write ops) else s) (driver_after (hearing p s epoch now (write ops)) answer (write ops) d).0
planned_write plan.Deliver s epoch now d answer ops kept again both = both.heard
planned_write plan.LostBefore s epoch now d answer ops kept again both = same_shared s d (begins_again d) kept again
planned_write plan.LostAfter s epoch now d answer ops kept again both = both.lost
planned_write plan.Expired s epoch now d answer ops kept again both = same_shared s d (begins_again d) kept again

-- a request that changes nothing
planned_reading : (p : Plan) (s : Shared) (running : List ℤ) (now : ℤ) (d : Driver) (x : Stage) → IsReading x → d.stage ≡ x → IsSharedSound s → IsSoundDriver s d
    → StepKeeps s d (if reaches_store p (request_at s now d x) then shared_after s (epoch_or_zero d.epoch) now (request_at s now d x) else s)
    (driver_after (hearing p s (epoch_or_zero d.epoch) now (request_at s now d x)) (after_answer s running now d x) (request_at s now d x) d).0
planned_reading p s running now d x reads is kept fine =
    let r = request_at s now d x in
    let h = hearing p s (epoch_or_zero d.epoch) now r in
    let answer = after_answer s running now d x in
    subst (λ (new : Shared). StepKeeps s d new (driver_after h answer r d).0) (sym (unmade (reaches_store p r) (shared_after s (epoch_or_zero d.epoch) now r) s (reading_request s (epoch_or_zero d.epoch) now d x reads)))
    (same_shared s d (driver_after h answer r d).0 kept (heard_or_not h answer r d (IsSoundDriver s) (read_at s running now d x reads is kept fine) (unheard_at s now d x is fine)))

-- a write under the driver's claim, if it has one
planned_under : (p : Plan) (s : Shared) (running : List ℤ) (now : ℤ) (d : Driver) (m : Option ℤ) (target : Recorded) (ops : List Op) (more : List Op → Stage) (last : Stage) → WritesFrom target more last → d.claim ≡ m → IsSharedSound s → IsSoundDriver s d → IsSoundDriver s (begins_again d)
    → WritesTo d.stage target ops → is_filling d.stage ≡ false
    → StepKeeps s d (if reaches_store p (write_request m (remaining_at s.tree s.log target.offset) target) then shared_after s (epoch_or_zero d.epoch) now (write_request m (remaining_at s.tree s.log target.offset) target) else s)
    (driver_after (hearing p s (epoch_or_zero d.epoch) now (write_request m (remaining_at s.tree s.log target.offset) target)) (writes s.tree m (remaining_at s.tree s.log target.offset) target more last d) (write_request m (remaining_at s.tree s.log target.offset) target) d).0
planned_under p s running now d None target ops more last from claimed kept fine again at settled =
    subst (λ (new : Shared). StepKeeps s d new (begins_again d)) (sym (unmade (reaches_store p nothing) s s refl)) (same_shared s d (begins_again d) kept again)
planned_under p s running now d (Some claim) target ops more last from claimed kept fine again at settled =
    let rest = remaining_at s.tree s.log target.offset in
    planned_write p s (epoch_or_zero d.epoch) now d (writes s.tree (Some claim) rest target more last d) (write_ops claim rest target) kept again
    (write_by s running now d claim target ops more last (multi s.tree (write_ops claim rest target)) refl kept fine again at settled claimed
    (λ t is. taken_driver s d claim target ops t more last from kept fine at settled claimed is))

-- ---- every stage

step_at : (p : Plan) (s : Shared) (running : List ℤ) (now : ℤ) (d : Driver) (x : Stage) → IsTime now → d.stage ≡ x → AppendsNothing x → IsSharedSound s → IsSoundDriver s d
    → StepKeeps s d (if reaches_store p (request_at s now d x) then shared_after s (epoch_or_zero d.epoch) now (request_at s now d x) else s)
    (driver_after (hearing p s (epoch_or_zero d.epoch) now (request_at s now d x)) (after_answer s running now d x) (request_at s now d x) d).0
step_at p s running now d stage.Uninitialized time is quiet kept fine = planned_reading p s running now d stage.Uninitialized tt is kept fine
step_at p s running now d stage.Inactive time is quiet kept fine = planned_reading p s running now d stage.Inactive tt is kept fine
step_at p s running now d stage.WaitForControllerQuorum time is quiet kept fine = planned_reading p s running now d stage.WaitForControllerQuorum tt is kept fine
step_at p s running now d stage.WaitForBrokers time is quiet kept fine = planned_reading p s running now d stage.WaitForBrokers tt is kept fine
step_at p s running now d stage.ListBrokers time is quiet kept fine = planned_reading p s running now d stage.ListBrokers tt is kept fine
step_at p s running now d stage.ReadControlZnodes time is quiet kept fine = planned_reading p s running now d stage.ReadControlZnodes tt is kept fine
step_at p s running now d (stage.ClaimLeadership seen) time is quiet kept fine =
    let ops = claim_ops seen d now in
    let again = again_at s d (stage.ClaimLeadership seen) is (λ h. h) (λ h. h) refl fine in
    planned_write p s (epoch_or_zero d.epoch) now d (after_claim seen d ops (multi s.tree ops)) ops kept again (claim_by s running now d seen (multi s.tree ops) refl time kept fine again is)
step_at p s running now d (stage.ScanForMigration rows) time is quiet kept fine = planned_reading p s running now d (stage.ScanForMigration rows) tt is kept fine
step_at p s running now d (stage.BeginMigration rows) time is quiet kept fine = absurd quiet
step_at p s running now d (stage.AppendRecords records) time is quiet kept fine = absurd quiet
step_at p s running now d stage.ReadLogForResync time is quiet kept fine = planned_reading p s running now d stage.ReadLogForResync tt is kept fine
step_at p s running now d (stage.ScanForResync target rows) time is quiet kept fine = planned_reading p s running now d (stage.ScanForResync target rows) tt is kept fine
step_at p s running now d (stage.WriteResync target ops) time is quiet kept fine =
    planned_under p s running now d d.claim target ops (λ rest. stage.WriteResync target rest) stage.KraftControllerToBrokerComm (resync_from target) refl kept fine (again_at s d (stage.WriteResync target ops) is (λ h. h) (λ h. h) refl fine)
    (subst (λ (y : Stage). WritesTo y target ops) (sym is) (refl, refl)) (ap is_filling is)
step_at p s running now d stage.KraftControllerToBrokerComm time is quiet kept fine = planned_reading p s running now d stage.KraftControllerToBrokerComm tt is kept fine
step_at p s running now d stage.DualWrite time is quiet kept fine = planned_reading p s running now d stage.DualWrite tt is kept fine
step_at p s running now d (stage.WriteDelta target ops) time is quiet kept fine =
    planned_under p s running now d d.claim target ops (λ rest. stage.WriteDelta target rest) stage.DualWrite (delta_from target) refl kept fine (again_at s d (stage.WriteDelta target ops) is (λ h. h) (λ h. h) refl fine)
    (subst (λ (y : Stage). WritesTo y target ops) (sym is) (refl, refl)) (ap is_filling is)

pub step_keeps : (p : Plan) (s : Shared) (running : List ℤ) (now : ℤ) (d : Driver) → IsTime now → AppendsNothing d.stage → IsSharedSound s → IsSoundDriver s d → StepKeeps s d (planned_step p s running now d).shared (planned_step p s running now d).driver
unfolding planned_step
step_keeps p s running now d time quiet kept fine = step_at p s running now d d.stage time refl quiet kept fine
