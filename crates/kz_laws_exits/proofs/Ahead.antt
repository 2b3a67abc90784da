-- A current driver that writes in dual write will record a later offset than the tree records.
use Rattle.std.proofs.Common.{◌≡◌, ℤ, Bool, true, false, if◌then◌else◌, List, Option, Some, None, option_map, Result, Ok, Err, refl, sym, ap, ◌∙◌, subst, arith}
use Rattle.std.specs.Prelude.{◌<ℤ◌, ◌≤ℤ◌}
use Rattle.std.specs.Ordering.{int_eq}
use Rattle.std.proofs.lemmas.Int.{ints}
use Rattle.kz_types.specs.declared.driver.Stage.{Stage}
use Rattle.kz_types.specs.declared.driver.Stage.TheVariants as stage
use Rattle.kz_types.specs.declared.fault.TreeFault.{TreeFault}
use Rattle.kz_types.specs.declared.fault.TreeFault.TheVariants as tree_fault
use Rattle.kz_types.specs.declared.machine.DriverState.TheVariants as state
use Rattle.kz_types.specs.declared.machine.Recorded.{Recorded}
use Rattle.kz_types.specs.declared.machine.Reply.TheVariants as reply
use Rattle.kz_types.specs.declared.plan.Plan.{Plan}
use Rattle.kz_types.specs.declared.plan.Plan.TheVariants as plan
use Rattle.kz_types.specs.declared.tree.Op.{Op}
use Rattle.kz_spec_data.specs.Tree.{Tree, multi, migration_record}
use Rattle.kz_spec_data.specs.Log.{end_of, image_at, image_of}
use Rattle.kz_spec_data.specs.Difference.{diff, after_chunk}
use Rattle.kz_spec_data.specs.Rendering.{render}
use Rattle.kz_spec_machine.specs.Driver.{Shared, Driver, epoch_or_zero, remaining_at, is_last_write, write_ops, write_request, Request, read_log, request_at, with_tree, shared_after, reaches_store, target_of, driver_at_log_end, is_recorded_at, resigned_driver, begins_again, is_claim_refused, after_write, writes, after_answer, hearing, driver_after, planned_step}
use Rattle.kz_spec_machine.specs.Sound.{claim_version, IsCurrent, IsAtRest, AtStage, IsSharedSound, IsSoundDriver}
use Rattle.kz_laws_machine.proofs.Multi.{write_keeps_version}
use Rattle.kz_laws_machine.proofs.Beside.{write_keeps_recorded}
use Rattle.kz_laws_events.proofs.Targets.{view_within}
use Rattle.kz_laws_events.proofs.Ways.{either}
use Rattle.kz_laws_events.proofs.Succession.{HoldsOfNothing, Leads, step_leads}
use Rattle.kz_laws_exits.specs.Ends.{IsAhead}

nothing_ahead : (t : Tree) → HoldsOfNothing (IsAhead t)
nothing_ahead t claim (stage.WriteDelta target ops) nothing = absurd nothing
nothing_ahead t claim x nothing = tt

-- another tree with the same version and record
pub same_ahead : (t new : Tree) (claim : Option ℤ) (x : Stage) → claim_version new ≡ claim_version t → migration_record new ≡ migration_record t → IsAhead t claim x → IsAhead new claim x
same_ahead t new claim (stage.WriteDelta target ops) version recorded ahead = λ current r found. ahead (current.0 ∙ version, current.1) r (sym recorded ∙ found)
same_ahead t new claim x version recorded ahead = tt

-- a claim that isn't current
pub past_ahead : (t : Tree) (claim : Option ℤ) (x : Stage) → (IsCurrent t claim → ⊥) → IsAhead t claim x
past_ahead t claim (stage.WriteDelta target ops) past = λ current r found. absurd (past current)
past_ahead t claim x past = tt

-- ---- a driver at rest that has more to write

pub less_by : (a b : ℤ) → a ≤ℤ b → int_eq a b ≡ false → a <ℤ b
less_by a b low differ = grind (arith, ints)

same_offset : (m : Option Recorded) (own : Option ℤ) (position : ℤ) (r : Recorded) → option_map (λ (x : Recorded). x.offset) m ≡ own → own ≡ Some position → m ≡ Some r → r.offset ≡ position
same_offset m own position r same view found = cc

not_recorded : (own : Option ℤ) (position end : ℤ) → own ≡ Some position → is_recorded_at own end ≡ false → int_eq position end ≡ false
not_recorded own position end is new = sym (ap (λ (m : Option ℤ). is_recorded_at m end) is) ∙ new

new_ahead : (s : Shared) (d : Driver) → d.stage ≡ stage.DualWrite → IsSharedSound s → IsSoundDriver s d → is_recorded_at d.recorded (end_of s.log) ≡ false → IsCurrent s.tree d.claim → (r : Recorded) → migration_record s.tree ≡ Some r → r.offset <ℤ end_of s.log
new_ahead s d at kept fine new current r found =
    let held : AtStage s.tree s.log d stage.DualWrite = subst (AtStage s.tree s.log d) at fine.stage in
    let rest : IsAtRest s.tree d.view d.recorded = held.1 current in
    let is = same_offset (migration_record s.tree) d.recorded d.view.position r rest.same rest.view found in
    subst (λ (o : ℤ). o <ℤ end_of s.log) (sym is)
    (less_by d.view.position (end_of s.log) (view_within s.log d.view kept.log fine.views.view) (not_recorded d.recorded d.view.position (end_of s.log) rest.view new))

-- ---- a driver that writes

-- the tree after its request and the driver, ahead
abbrev AheadAfter : Shared → Driver → Type 0
AheadAfter s e = IsAhead s.tree e.claim e.stage

more_ahead : (s : Shared) (d : Driver) (claim : ℤ) (target : Recorded) (ops rest : List Op) (new : Tree) → multi s.tree (write_ops claim (remaining_at s.tree s.log target.offset) target) ≡ Ok new → is_last_write (remaining_at s.tree s.log target.offset) ≡ false → IsAhead s.tree d.claim (stage.WriteDelta target ops)
    → IsAhead new d.claim (stage.WriteDelta target rest)
more_ahead s d claim target ops rest new is more ahead =
    let i = image_at s.log target.offset in
    λ current r found. ahead (current.0 ∙ write_keeps_version s.tree new i claim target is, current.1) r (sym (write_keeps_recorded s.tree new i claim target more is) ∙ found)

own_still : (s : Shared) (d : Driver) (target : Recorded) (ops : List Op) → d.stage ≡ stage.WriteDelta target ops → IsAhead s.tree d.claim (stage.WriteDelta target ops) → AheadAfter s d
own_still s d target ops at ahead = subst (IsAhead s.tree d.claim) (sym at) ahead

abbrev Written : Plan → Shared → ℤ → Driver → Recorded → Option ℤ → Type 0
Written p s now d target m =
    AheadAfter (if reaches_store p (write_request m (remaining_at s.tree s.log target.offset) target) then shared_after s (epoch_or_zero d.epoch) now (write_request m (remaining_at s.tree s.log target.offset) target) else s)
    (driver_after (hearing p s (epoch_or_zero d.epoch) now (write_request m (remaining_at s.tree s.log target.offset) target)) (writes s.tree m (remaining_at s.tree s.log target.offset) target (λ rest. stage.WriteDelta target rest) stage.DualWrite d)
    (write_request m (remaining_at s.tree s.log target.offset) target) d).0

heard_ahead : (s : Shared) (d : Driver) (claim : ℤ) (target : Recorded) (ops : List Op) (r : Result Tree TreeFault) → multi s.tree (write_ops claim (remaining_at s.tree s.log target.offset) target) ≡ r → d.stage ≡ stage.WriteDelta target ops → IsAhead s.tree d.claim (stage.WriteDelta target ops)
    → AheadAfter (with_tree s r) (after_write claim (remaining_at s.tree s.log target.offset) target (λ rest. stage.WriteDelta target rest) stage.DualWrite d r).0
heard_ahead s d claim target ops (Ok new) is at ahead = by_last (is_last_write (remaining_at s.tree s.log target.offset)) refl
  where
    by_last : (b : Bool) → is_last_write (remaining_at s.tree s.log target.offset) ≡ b
        → AheadAfter (record s { tree = new }) (after_write claim (remaining_at s.tree s.log target.offset) target (λ rest. stage.WriteDelta target rest) stage.DualWrite d (Ok new)).0
    by_last true last = rw last tt
    by_last false more = rw more (more_ahead s d claim target ops (after_chunk (remaining_at s.tree s.log target.offset)) new is more ahead)
heard_ahead s d claim target ops (Err (tree_fault.Refused index code)) is at ahead =
    either (AheadAfter s) (is_claim_refused index code) (resigned_driver d, reply.FencedWrite claim) (begins_again d, reply.Moved state.BecomeController) (λ fenced. tt) (λ other. tt)
heard_ahead s d claim target ops (Err (tree_fault.Limit index number)) is at ahead = own_still s d target ops at ahead
heard_ahead s d claim target ops (Err tree_fault.NoMemory) is at ahead = own_still s d target ops at ahead
heard_ahead s d claim target ops (Err tree_fault.Device) is at ahead = own_still s d target ops at ahead
heard_ahead s d claim target ops (Err tree_fault.Down) is at ahead = own_still s d target ops at ahead
heard_ahead s d claim target ops (Err (tree_fault.Full length)) is at ahead = own_still s d target ops at ahead

write_ahead : (p : Plan) (s : Shared) (now : ℤ) (d : Driver) (target : Recorded) (ops : List Op) (m : Option ℤ) → d.stage ≡ stage.WriteDelta target ops → IsAhead s.tree d.claim (stage.WriteDelta target ops) → Written p s now d target m
write_ahead plan.Deliver s now d target ops None at ahead = tt
write_ahead plan.LostBefore s now d target ops None at ahead = tt
write_ahead plan.LostAfter s now d target ops None at ahead = tt
write_ahead plan.Expired s now d target ops None at ahead = tt
write_ahead plan.Deliver s now d target ops (Some claim) at ahead = heard_ahead s d claim target ops (multi s.tree (write_ops claim (remaining_at s.tree s.log target.offset) target)) refl at ahead
write_ahead plan.LostBefore s now d target ops (Some claim) at ahead = tt
write_ahead plan.LostAfter s now d target ops (Some claim) at ahead = tt
write_ahead plan.Expired s now d target ops (Some claim) at ahead = tt

-- ---- a step

-- what is so after a step at this stage
abbrev OwnAhead : Plan → Shared → List ℤ → ℤ → Driver → Stage → Type 0
OwnAhead p s running now d x = AheadAfter (if reaches_store p (request_at s now d x) then shared_after s (epoch_or_zero d.epoch) now (request_at s now d x) else s)
    (driver_after (hearing p s (epoch_or_zero d.epoch) now (request_at s now d x)) (after_answer s running now d x) (request_at s now d x) d).0

delta_step : (p : Plan) (s : Shared) (running : List ℤ) (now : ℤ) (d : Driver) (target : Recorded) (ops : List Op) → d.stage ≡ stage.WriteDelta target ops → IsAhead s.tree d.claim d.stage → AheadAfter (planned_step p s running now d).shared (planned_step p s running now d).driver
unfolding planned_step
delta_step p s running now d target ops at ahead =
    subst (OwnAhead p s running now d) (sym at) (write_ahead p s now d target ops d.claim at (subst (IsAhead s.tree d.claim) at ahead))

either_tree : (b : Bool) (s : Shared) → (if b then s else s).tree ≡ s.tree
either_tree true s = refl
either_tree false s = refl

reads_same : (p : Plan) (s : Shared) (now : ℤ) (epoch : ℤ) (r : Request) → r ≡ read_log → (if reaches_store p r then shared_after s epoch now r else s).tree ≡ s.tree
reads_same p s now epoch r is = ap (λ (q : Request). (if reaches_store p q then shared_after s epoch now q else s).tree) is ∙ either_tree (reaches_store p read_log) s

rest_same : (p : Plan) (s : Shared) (running : List ℤ) (now : ℤ) (d : Driver) → d.stage ≡ stage.DualWrite → (planned_step p s running now d).shared.tree ≡ s.tree
unfolding planned_step
rest_same p s running now d at = reads_same p s now (epoch_or_zero d.epoch) (request_at s now d d.stage) (ap (request_at s now d) at)

other_step : (p : Plan) (s : Shared) (running : List ℤ) (now : ℤ) (d : Driver) (x : Stage) → d.stage ≡ x → Leads (IsAhead (planned_step p s running now d).shared.tree) s d x → IsAhead (planned_step p s running now d).shared.tree d.claim x → AheadAfter (planned_step p s running now d).shared (planned_step p s running now d).driver
other_step p s running now d x at leads own =
    let t = (planned_step p s running now d).shared.tree in
    step_leads (IsAhead t) p s running now d (nothing_ahead t) (subst (Leads (IsAhead t) s d) (sym at) leads) (subst (IsAhead t d.claim) (sym at) own)

ahead_by : (p : Plan) (s : Shared) (running : List ℤ) (now : ℤ) (d : Driver) (x : Stage) → d.stage ≡ x → IsSharedSound s → IsSoundDriver s d → IsAhead s.tree d.claim d.stage → AheadAfter (planned_step p s running now d).shared (planned_step p s running now d).driver
ahead_by p s running now d (stage.WriteDelta target ops) at kept fine ahead = delta_step p s running now d target ops at ahead
ahead_by p s running now d stage.DualWrite at kept fine ahead =
    let same = rest_same p s running now d at in
    other_step p s running now d stage.DualWrite at
    (λ new. subst (λ (t : Tree). IsAhead t d.claim (stage.WriteDelta (target_of (driver_at_log_end s.log d)) (diff (render d.view.image) (render (image_of s.log))))) (sym same) (new_ahead s d at kept fine new)) tt
ahead_by p s running now d (stage.BeginMigration rows) at kept fine ahead = other_step p s running now d (stage.BeginMigration rows) at (λ records. tt) tt
ahead_by p s running now d (stage.AppendRecords records) at kept fine ahead = other_step p s running now d (stage.AppendRecords records) at (λ rest. tt) tt
ahead_by p s running now d (stage.ScanForResync target rows) at kept fine ahead = other_step p s running now d (stage.ScanForResync target rows) at (λ ops. tt) tt
ahead_by p s running now d (stage.WriteResync target ops) at kept fine ahead = other_step p s running now d (stage.WriteResync target ops) at (λ rest. tt) tt
ahead_by p s running now d x at kept fine ahead = other_step p s running now d x at tt tt

pub own_ahead : (p : Plan) (s : Shared) (running : List ℤ) (now : ℤ) (d : Driver) → IsSharedSound s → IsSoundDriver s d → IsAhead s.tree d.claim d.stage → IsAhead (planned_step p s running now d).shared.tree (planned_step p s running now d).driver.claim (planned_step p s running now d).driver.stage
own_ahead p s running now d kept fine ahead = ahead_by p s running now d d.stage refl kept fine ahead
