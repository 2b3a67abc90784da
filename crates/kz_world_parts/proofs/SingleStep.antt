-- A step of a sound driver is the machine's, or it failed.
use Rattle.std.proofs.Common.{◌≡◌, ℤ, Bool, true, false, if◌then◌else◌, List, ◌∷◌, Option, refl, ◌∙◌, subst}
use Rattle.kz_types.specs.declared.plan.Plan.{Plan}
use Rattle.kz_types.specs.declared.machine.Reply.{Reply}
use Rattle.kz_spec_data.specs.Tree.{Tree}
use Rattle.kz_spec_data.specs.Log.{Log}
use Rattle.kz_spec_data.specs.Requests.{Disk}
use Rattle.kz_spec_machine.specs.Driver.{Shared, Driver, Request, is_of_log, epoch_or_zero, planned_step}
use Rattle.kz_spec_machine.specs.Machine.{pair_of, step_pairs}
use Rattle.kz_spec_machine.specs.Failures.{is_failed_step}
use Rattle.kz_connection.specs.Connections.{Wired}
use Rattle.kz_driver.specs.Disks.{Disks, Payloads}
use Rattle.kz_driver.specs.Steps.{shared_over, plan_over, made_request, outcome_of, IsStep, LeavesAll, StepDisks, StopLeaves, StepEnd}
use Rattle.kz_driver.proofs.Fences.{holds_at}
use Rattle.kz_world_parts.specs.Pairs.{IsSoundPair}
use Rattle.kz_world_parts.specs.TurnStops.{AreUp, LeavesOneOf}
use Rattle.kz_world_parts.specs.Steps.{StepEnds}
use Rattle.kz_world_parts.proofs.Replies.{failed_by_outcome, on_machine, on_failure}
use Rattle.kz_world_parts.proofs.Requests.{request_keeps_up}
use Rattle.kz_world_parts.proofs.TurnStops.{Settled, failed_step_leaves}

-- ---- the plan

same_plan : (b : Bool) (p : Plan) → (if b then p else p) ≡ p
same_plan true p = refl
same_plan false p = refl

-- Where both connections have the same plan, every request fares by it.
over_plans : {T L : Type 0} (holds : Plan → Wired T → Wired L → Type 0) (request : Wired T → Wired L → Request) (p : Plan) (tree planned_tree : Wired T) (log planned_log : Wired L) → planned_tree ≡ record tree { plan = p } → planned_log ≡ record log { plan = p }
    → holds (plan_over planned_tree planned_log (request planned_tree planned_log)) planned_tree planned_log → holds p (record tree { plan = p }) (record log { plan = p })
over_plans {T} {L} holds request p tree planned_tree log planned_log of_tree of_log h =
    let over_tree = subst (λ (t : Wired T). holds (plan_over t planned_log (request t planned_log)) t planned_log) of_tree h in
    let over_log = subst (λ (l : Wired L). holds (plan_over (record tree { plan = p }) l (request (record tree { plan = p }) l)) (record tree { plan = p }) l) of_log over_tree in
    subst (λ (x : Plan). holds x (record tree { plan = p }) (record log { plan = p })) (same_plan (is_of_log (request (record tree { plan = p }) (record log { plan = p }))) p) over_log

-- What a step says of the stores below two connections that were given this plan, at this time.
pub end_by_plan : {T L : Type 0} (tree_of : T → Tree) (log_of : L → Log) (tree_disk : T → Disk) (log_disk : L → Disk) (tree_left : T → Option Tree → Type 0) (log_left : L → Option Log → Type 0) (payloads : Payloads) (ids running : List ℤ) (now at : ℤ) (d e : Driver) (told : Reply) (p : Plan)
    (tree planned_tree new_tree : Wired T) (log planned_log new_log : Wired L) → at ≡ now → planned_tree ≡ record tree { plan = p } → planned_log ≡ record log { plan = p }
    → StepEnd tree_of log_of tree_disk log_disk tree_left log_left payloads ids running at d e told (plan_over planned_tree planned_log (made_request (shared_over tree_of log_of ids planned_tree planned_log) at d d.stage)) planned_tree new_tree planned_log new_log
    → StepEnd tree_of log_of tree_disk log_disk tree_left log_left payloads ids running now d e told p (record tree { plan = p }) new_tree (record log { plan = p }) new_log
end_by_plan {T} {L} tree_of log_of tree_disk log_disk tree_left log_left payloads ids running now at d e told p tree planned_tree new_tree log planned_log new_log same of_tree of_log end =
    subst (λ (n : ℤ). StepEnd tree_of log_of tree_disk log_disk tree_left log_left payloads ids running n d e told p (record tree { plan = p }) new_tree (record log { plan = p }) new_log) same
    (over_plans (λ x t l. StepEnd tree_of log_of tree_disk log_disk tree_left log_left payloads ids running at d e told x t new_tree l new_log) (λ t l. made_request (shared_over tree_of log_of ids t l) at d d.stage) p tree planned_tree log planned_log of_tree of_log end)

-- ---- how it ends

pub step_ends : (p : Plan) (s new : Shared) (running : List ℤ) (now : ℤ) (d after : Driver) (told : Reply) → IsStep p s running now d told new after → LeavesAll told s d new after → IsSoundPair s now d → StepEnds p s running now d told new after
step_ends p s new running now d after told made failed sound = record {
  done = λ fine. on_machine (outcome_of told) (planned_step p s running now d ≡ record { shared = new; driver = after; reply = told }) (failed_by_outcome told ∙ fine) (made (holds_at s d sound.driver));
  failed = λ fails. on_failure (outcome_of told) ((new ≡ s) × (after ≡ d)) (failed_by_outcome told ∙ fails) failed;
}

-- ---- what a stop leaves

same_settled : (s new : Shared) (disks : Disks) (tree_left : Option Tree → Type 0) (log_left : Option Log → Type 0) → new ≡ s → Settled new disks tree_left log_left → Settled s disks tree_left log_left
same_settled s new disks tree_left log_left same h = subst (λ (x : Shared). Settled x disks tree_left log_left) same h

pub step_leaves : (p : Plan) (s new : Shared) (running : List ℤ) (now : ℤ) (d after : Driver) (told : Reply) (payloads : Payloads) (old disks : Disks) (tree_left : Option Tree → Type 0) (log_left : Option Log → Type 0) → LeavesAll told s d new after → StepDisks s now d payloads p told old disks → StopLeaves p s running now d told tree_left log_left
    → Settled new disks tree_left log_left → IsSoundPair s now d → AreUp old → is_failed_step told ≡ true → LeavesOneOf (pair_of s ∷ step_pairs p s running now d) tree_left log_left
step_leaves p s new running now d after told payloads old disks tree_left log_left failed moves stop settled sound up fails =
    let same : new ≡ s = (on_failure (outcome_of told) ((new ≡ s) × (after ≡ d)) (failed_by_outcome told ∙ fails) failed).0 in
    failed_step_leaves p s running now d (outcome_of told) old disks tree_left log_left
    (request_keeps_up s (epoch_or_zero d.epoch) now payloads p (made_request s now d d.stage) (outcome_of told) old disks moves.request)
    (stop (holds_at s d sound.driver)) up (same_settled s new disks tree_left log_left same settled)
