use Rattle.std.proofs.Common.{◌≡◌, true, ◌<◌, ◌∷◌, length, Err, refl, sym, ap, subst, ◌∙◌, arith, w32, w64, to_z, of_z}
use Rattle.std.specs.Prelude.{slice_get}
use Rattle.std.proofs.lemmas.Int.{to_z-of_z}
use Rattle.kz_types.specs.declared.machine.Event.TheVariants as event
use Rattle.kz_spec_machine.specs.Machine.{running_refusal, running_ids, driver_of, pair_of, step_pairs, event_pairs}
use Rattle.kz_spec_machine.specs.Failures.{is_failed_step}
use Rattle.kz_world_parts.specs.Disks.{payloads_of}
use Rattle.kz_world_parts.specs.TurnDisks.{StepRequestDisks}
use Rattle.kz_world_parts.specs.Pairs.{IsSoundPair}
use Rattle.kz_world_parts.specs.TurnStops.{AreUp, LeavesOneOf}
use Rattle.kz_world_parts.specs.declared.faults.EventFault.TheVariants as event_fault
use Rattle.kz_world_parts.specs.EventDisks.{disks_in}
use Rattle.kz_world_parts.specs.Turns.{IsStepped}
use Rattle.kz_world_parts.specs.Worlds.{world_of_parts, world_of}
use Rattle.kz_world.proofs.Runs.{step_outcome, step_disks, step_stop, step_refused, step_of_none}
use Rattle.kz_world_parts.proofs.EventStops.{still_failure}
use Rattle.kz_world.proofs.single_steps.step_of.Goals as goal

pub returns-in-Some-clause-ok : goal.returns-in-Some-clause-ok
returns-in-Some-clause-ok g c = λ sound.
    let w = world_of g.T.ZTree.tree g.L.MetaLog.log c.args.parts.now in
    let id_is = to_z-of_z w32 c.args.id c.ranges.id in
    step_refused w c.args.id c.args.now c.args.plan c.in-Some.refusal (ap (running_refusal w) (sym id_is) ∙ sym c.running_refusal.ensures.refusal ∙ c.in-Some.is) c.in-Some.ensures.no_failure

pub returns-in_default-place_of-clause-ok : goal.returns-in_default-place_of-clause-ok
returns-in_default-place_of-clause-ok g c = λ sound.
    let w = world_of g.T.ZTree.tree g.L.MetaLog.log c.args.parts.now in
    let ds = c.args.parts.now.drivers.items in
    let id_is = to_z-of_z w32 c.args.id c.ranges.id in
    let runs = ap (running_refusal w) (sym id_is) ∙ sym c.running_refusal.ensures.refusal ∙ c.in_default.is in
    let none = ap (λ i. driver_of i ds) (sym id_is) ∙ ap (driver_of (to_z w32 (of_z w32 c.args.id))) (sym c.deref.ensures.value) ∙ c.in_default-place_of.ensures in
    step_of_none w c.args.id c.args.now c.args.plan runs none

pub returns-in_default-peers-clause-stop : goal.returns-in_default-peers-clause-stop
returns-in_default-peers-clause-stop g c = λ sound.
    let p = c.args.parts.now in
    let w = world_of g.T.ZTree.tree g.L.MetaLog.log p in
    let disks = disks_in g.T.ZTree.disk g.L.MetaLog.disk (world_of_parts p) in
    still_failure w w (event_pairs w (event.Step c.args.id c.args.now c.args.plan)) (Err event_fault.NoMemory) disks disks (g.T.ZTree.left p.tree.inner) (g.L.MetaLog.left p.log.inner) refl refl
    (record { tree = g.met.T.ZTree.settled p.tree.inner; log = g.met.L.MetaLog.settled p.log.inner })

pub returns-clause-ok : goal.returns-clause-ok
returns-clause-ok g c =
    let w = world_of g.T.ZTree.tree g.L.MetaLog.log c.args.parts.now in
    let ds = c.args.parts.now.drivers.items in
    let at = c.in-Some-place_of.at in
    let id_is = to_z-of_z w32 c.args.id c.ranges.id in
    let now_is = to_z-of_z w64 c.args.now c.ranges.now in
    let runs = ap (running_refusal w) (sym id_is) ∙ sym c.running_refusal.ensures.refusal ∙ c.in_default.is in
    let len = ap length c.deref.ensures.value in
    let here : at < length ds = omega (arith, c.in-Some-place_of.ensures.0, len) in
    let found = ap (λ i. driver_of i ds) (sym id_is) ∙ ap (driver_of (to_z w32 (of_z w32 c.args.id))) (sym c.deref.ensures.value) ∙ c.in-Some-place_of.ensures.1 ∙ ap (λ xs. slice_get xs at) c.deref.ensures.value in
    let new = world_of g.T.ZTree.tree g.L.MetaLog.log c.step_at.new.parts in
    let plan = c.args.plan in
    let told = c.step_at.result in
    step_outcome w c.args.id c.args.now plan at new told runs here found c.requires.time
    (λ d is. subst (λ x. IsSoundPair w.shared x d → IsStepped plan w x d new told) now_is (c.step_at.ensures.ends d is))

pub returns-clause-disks : goal.returns-clause-disks
returns-clause-disks g c =
    let w = world_of g.T.ZTree.tree g.L.MetaLog.log c.args.parts.now in
    let ds = c.args.parts.now.drivers.items in
    let at = c.in-Some-place_of.at in
    let id_is = to_z-of_z w32 c.args.id c.ranges.id in
    let now_is = to_z-of_z w64 c.args.now c.ranges.now in
    let runs = ap (running_refusal w) (sym id_is) ∙ sym c.running_refusal.ensures.refusal ∙ c.in_default.is in
    let len = ap length c.deref.ensures.value in
    let here : at < length ds = omega (arith, c.in-Some-place_of.ensures.0, len) in
    let found = ap (λ i. driver_of i ds) (sym id_is) ∙ ap (driver_of (to_z w32 (of_z w32 c.args.id))) (sym c.deref.ensures.value) ∙ c.in-Some-place_of.ensures.1 ∙ ap (λ xs. slice_get xs at) c.deref.ensures.value in
    let payloads = payloads_of g.T.ZTree.payload_bytes g.L.MetaLog.payload_bytes in
    let disks = disks_in g.T.ZTree.disk g.L.MetaLog.disk in
    let p = world_of_parts c.args.parts.now in
    let q = world_of_parts c.step_at.new.parts in
    let plan = c.args.plan in
    let told = c.step_at.result in
    step_disks w c.args.id c.args.now plan told at payloads (disks p) (disks q) runs here found
    (λ d is. subst (λ x. StepRequestDisks plan w.shared x d payloads told (disks p) (disks q)) now_is (c.step_at.ensures.disks d is))

pub returns-clause-stop : goal.returns-clause-stop
returns-clause-stop g c =
    let w = world_of g.T.ZTree.tree g.L.MetaLog.log c.args.parts.now in
    let ds = c.args.parts.now.drivers.items in
    let at = c.in-Some-place_of.at in
    let id_is = to_z-of_z w32 c.args.id c.ranges.id in
    let now_is = to_z-of_z w64 c.args.now c.ranges.now in
    let runs = ap (running_refusal w) (sym id_is) ∙ sym c.running_refusal.ensures.refusal ∙ c.in_default.is in
    let len = ap length c.deref.ensures.value in
    let here : at < length ds = omega (arith, c.in-Some-place_of.ensures.0, len) in
    let found = ap (λ i. driver_of i ds) (sym id_is) ∙ ap (driver_of (to_z w32 (of_z w32 c.args.id))) (sym c.deref.ensures.value) ∙ c.in-Some-place_of.ensures.1 ∙ ap (λ xs. slice_get xs at) c.deref.ensures.value in
    let p = c.args.parts.now in
    let q = c.step_at.new.parts in
    let old = disks_in g.T.ZTree.disk g.L.MetaLog.disk (world_of_parts p) in
    let left = g.T.ZTree.left q.tree.inner in
    let log_left = g.L.MetaLog.left q.log.inner in
    let plan = c.args.plan in
    let told = c.step_at.result in
    step_stop w c.args.id c.args.now plan told at old left log_left runs here found c.requires.time
    (λ d is. subst (λ x. IsSoundPair w.shared x d → AreUp old → is_failed_step told ≡ true → LeavesOneOf (pair_of w.shared ∷ step_pairs plan w.shared (running_ids ds) x d) left log_left) now_is (c.step_at.ensures.stop d is))
