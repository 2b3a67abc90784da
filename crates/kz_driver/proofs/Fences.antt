-- A driver that is sound holds what remains to be written, and a fenced one leaves what is shared.
use Rattle.std.proofs.Common.{◌≡◌, ◌≢◌, ◌⊎◌, inl, inr, ℤ, pos, ◌≤ℤ◌, Bool, true, false, List, Option, Some, None, option_map, Result, Ok, Err, refl, sym, ap, ◌∙◌, subst}
use Rattle.std.specs.Ordering.{int_eq}
use Rattle.std.proofs.lemmas.Bool.{false≢true}
use Rattle.std.proofs.lemmas.Bool.Decides.{Decides-int_eq}
use Rattle.kz_types.specs.declared.plan.Plan.{Plan}
use Rattle.kz_types.specs.declared.tree.Row.{Row}
use Rattle.kz_types.specs.declared.driver.Stage.{Stage}
use Rattle.kz_types.specs.declared.driver.Stage.TheVariants as stage
use Rattle.kz_types.specs.declared.machine.Reply.{Reply}
use Rattle.kz_spec_data.specs.Control.{epoch_path}
use Rattle.kz_spec_data.specs.Tree.{row_at, check_refusal}
use Rattle.kz_spec_machine.specs.Driver.{Shared, Driver, StepResult, planned_step}
use Rattle.kz_spec_machine.specs.Sound.{IsBelowShown, shown_in, claim_version, IsCurrent, IsClaimOf, Claims, AtStage, IsSoundDriver}
use Rattle.kz_laws_machine.proofs.FenceDrivers.{check_refused}
use Rattle.kz_laws_machine.specs.Fence.{IsOfFence, FencedDriversLeave, FencedRepliesLeave}
use Rattle.kz_requests.specs.declared.fault.StepFault.{StepFault}
use Rattle.kz_requests.specs.declared.fault.StepFault.TheVariants as step_fault
use Rattle.kz_driver.specs.Steps.{AreRemaining, HoldsRemaining, outcome_of, OnMachine, OnFailure, IsStep, LeavesAll, IsFenced}

-- a check of a version that isn't negative passes only at that version
current_by : (v : ℤ) (m : Option Row) → pos 0 ≤ℤ v → check_refusal v m ≡ None → Some v ≡ option_map (λ (r : Row). r.version) m
current_by v None low passes = absurd (cc)
current_by v (Some r) low passes = by_version (int_eq v r.version) refl
  where
    by_version : (b : Bool) → int_eq v r.version ≡ b → Some v ≡ Some r.version
    by_version true same = ap (λ (x : ℤ). Some x) ((Decides-int_eq v r.version).0 same)
    by_version false other =
        let refused = check_refused v r low (λ same. false≢true (sym other ∙ (Decides-int_eq v r.version).1 same)) in
        absurd (cc)

at_stage_remaining : (s : Shared) (d : Driver) (x : Stage) → AtStage s.tree s.log d x → IsCurrent s.tree d.claim → AreRemaining s x
at_stage_remaining s d (stage.WriteResync target ops) at current = (at.2 current).remaining
at_stage_remaining s d (stage.WriteDelta target ops) at current = (at.2 current).remaining
at_stage_remaining s d x at current = tt

-- a driver that is sound holds what remains
pub holds_at : (s : Shared) (d : Driver) → IsSoundDriver s d → HoldsRemaining s d
holds_at s d sound claim is passes =
    let claims : IsClaimOf s.log.epoch (claim_version s.tree) (shown_in s.tree) d.epoch claim = subst (λ (c : Option ℤ). Claims s.log.epoch (claim_version s.tree) (shown_in s.tree) d.epoch c) is sound.claims in
    let current : IsCurrent s.tree d.claim = (is ∙ current_by claim (row_at epoch_path s.tree.rows) claims.least passes, λ none. absurd (let both : Some claim ≡ None = sym is ∙ none in cc)) in
    at_stage_remaining s d d.stage sound.stage current

-- A fenced driver, and one that learns of it, leaves what is shared.
pub fenced : (p : Plan) (s new : Shared) (running : List ℤ) (now : ℤ) (d e : Driver) (told : Reply) → FencedDriversLeave → FencedRepliesLeave → IsStep p s running now d told new e → LeavesAll told s d new e → IsFenced s d told new
fenced p s new running now d e told drivers replies step failed sound cause = by_outcome (outcome_of told) (step (holds_at s d sound)) failed
  where
    made : planned_step p s running now d ≡ record { shared = new; driver = e; reply = told } → (IsBelowShown (shown_in s.tree) d.epoch ⊎ IsOfFence told) → new ≡ s
    made is (inl below) = sym (ap (λ (x : StepResult). x.shared) is) ∙ drivers p s running now d sound below
    made is (inr of) = sym (ap (λ (x : StepResult). x.shared) is) ∙ replies p s running now d (subst (λ (r : Reply). IsOfFence r) (sym (ap (λ (x : StepResult). x.reply) is)) of)

    by_outcome : (x : Result Reply StepFault) → OnMachine x (planned_step p s running now d ≡ record { shared = new; driver = e; reply = told }) → OnFailure x ((new ≡ s) × (e ≡ d)) → new ≡ s
    by_outcome (Ok t) is leaves = made is cause
    by_outcome (Err step_fault.Lost) is leaves = made is cause
    by_outcome (Err step_fault.Expired) is leaves = made is cause
    by_outcome (Err (step_fault.Tree f)) is leaves = leaves.0
    by_outcome (Err (step_fault.Log f)) is leaves = leaves.0
    by_outcome (Err step_fault.NoMemory) is leaves = leaves.0
