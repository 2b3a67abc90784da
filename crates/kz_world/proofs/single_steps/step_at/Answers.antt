use Rattle.std.proofs.Common.{◌≡◌, true, sym, ap, subst, ◌∙◌, w64, to_z, of_z, List, ℤ, ◌∷◌}
use Rattle.std.proofs.lemmas.Int.{to_z-of_z}
use Rattle.std.proofs.lemmas.Option.{get_or_from_slice_get}
use Rattle.kz_spec_data.specs.Log.{IsViewOf}
use Rattle.kz_spec_machine.specs.Driver.{Shared, Driver}
use Rattle.kz_spec_machine.specs.Machine.{running_ids, pair_of, step_pairs}
use Rattle.kz_spec_machine.specs.Failures.{is_failed_step}
use Rattle.kz_world_parts.specs.Disks.{Disks, disks_of, payloads_of}
use Rattle.kz_world_parts.specs.Drivers.{shared_of}
use Rattle.kz_world_parts.specs.TurnDisks.{StepRequestDisks}
use Rattle.kz_world_parts.specs.Pairs.{IsSoundPair}
use Rattle.kz_world_parts.specs.Steps.{StepEnds}
use Rattle.kz_world_parts.specs.TurnStops.{AreUp, LeavesOneOf}
use Rattle.kz_world_parts.specs.EventDisks.{disks_in}
use Rattle.kz_world_parts.specs.Worlds.{world_of_parts, world_of}
use Rattle.kz_world_parts.proofs.Listings.{get_here}
use Rattle.kz_world.proofs.Runs.{step_told}
use Rattle.kz_world_parts.proofs.Views.{view_at, kept_turned}
use Rattle.kz_world.proofs.single_steps.step_at.Goals as goal

pub step-requires-clause-view : goal.step-requires-clause-view
step-requires-clause-view g c =
    let ds = c.args.parts.now.drivers.items in
    let d = c.index_mut.result.now in
    view_at (g.L.MetaLog.log c.args.parts.now.log.inner) ds c.args.at d c.requires.kept.each (get_here ds c.args.at d c.requires.within c.index_mut.ensures.value)

pub step-requires-clause-latest : goal.step-requires-clause-latest
step-requires-clause-latest g c =
    let l = g.L.MetaLog.log c.args.parts.now.log.inner in
    subst (IsViewOf l) (sym c.view.ensures) c.requires.kept.own

pub returns-clause-kept : goal.returns-clause-kept
returns-clause-kept g c =
    let p = c.args.parts.now in
    let log = g.L.MetaLog.log in
    let ds = p.drivers.items in
    let d = c.index_mut.result.now in
    let t = c.step.new.tree in
    let l = c.step.new.log in
    let views = c.step.ensures.views in
    kept_turned p.tree.plan p.log.plan t.plan l.plan (log p.log.inner) (log l.inner) p.view ds c.args.at d c.step.new.driver c.step.ensures.delivers.0 c.step.ensures.delivers.1
    (get_here ds c.args.at d c.requires.within c.index_mut.ensures.value) views.same_id views.views views.own_view c.requires.kept

pub returns-clause-ends : goal.returns-clause-ends
returns-clause-ends g c = λ d at_is pair.
    let tree = g.T.ZTree.tree in
    let log = g.L.MetaLog.log in
    let p = c.args.parts.now in
    let ds = p.drivers.items in
    let at = c.args.at in
    let now = c.args.now in
    let n = to_z w64 (of_z w64 now) in
    let told = c.step.result in
    let e = c.step.new.driver in
    let plan = c.args.plan in
    let running = c.args.peers.now.running in
    let first = c.index_mut.result.now in
    let first_is : first ≡ d = c.index_mut.ensures.value ∙ get_or_from_slice_get ds at d first at_is in
    let old : List ℤ → Shared = λ is. shared_of (tree p.tree.inner) (log p.log.inner) is in
    let new : List ℤ → Shared = λ is. shared_of (tree c.step.new.tree.inner) (log c.step.new.log.inner) is in
    let by_ids = subst (λ (is : List ℤ). IsSoundPair (old is) n first → StepEnds plan (old is) running n first told (new is) e) c.requires.declared c.step.ensures.ends in
    let by_driver = subst (λ (x : Driver). IsSoundPair (old p.declared) n x → StepEnds plan (old p.declared) running n x told (new p.declared) e) first_is by_ids in
    let by_now = subst (λ x. IsSoundPair (old p.declared) x d → StepEnds plan (old p.declared) running x d told (new p.declared) e) (to_z-of_z w64 now c.ranges.now) by_driver in
    step_told plan (world_of tree log p) now d at running (new p.declared) e told c.requires.kept.distinct at_is c.requires.running (c.step.ensures.views.same_id ∙ ap (λ (x : Driver). x.id) first_is) (by_now pair)

pub returns-clause-disks : goal.returns-clause-disks
returns-clause-disks g c = λ d at_is.
    let tree = g.T.ZTree.tree in
    let log = g.L.MetaLog.log in
    let p = c.args.parts.now in
    let ds = p.drivers.items in
    let now = c.args.now in
    let n = to_z w64 (of_z w64 now) in
    let told = c.step.result in
    let plan = c.args.plan in
    let first = c.index_mut.result.now in
    let first_is : first ≡ d = c.index_mut.ensures.value ∙ get_or_from_slice_get ds c.args.at d first at_is in
    let payloads = payloads_of g.T.ZTree.payload_bytes g.L.MetaLog.payload_bytes in
    let before = disks_in g.T.ZTree.disk g.L.MetaLog.disk (world_of_parts p) in
    let after : Disks = disks_of (g.T.ZTree.disk c.step.new.tree.inner) (g.L.MetaLog.disk c.step.new.log.inner) in
    let old : List ℤ → Shared = λ is. shared_of (tree p.tree.inner) (log p.log.inner) is in
    let by_ids = subst (λ (is : List ℤ). StepRequestDisks plan (old is) n first payloads told before after) c.requires.declared c.step.ensures.disks in
    let by_driver = subst (λ (x : Driver). StepRequestDisks plan (old p.declared) n x payloads told before after) first_is by_ids in
    subst (λ x. StepRequestDisks plan (old p.declared) x d payloads told before after) (to_z-of_z w64 now c.ranges.now) by_driver

pub returns-clause-stop : goal.returns-clause-stop
returns-clause-stop g c = λ d at_is pair up fails.
    let tree = g.T.ZTree.tree in
    let log = g.L.MetaLog.log in
    let p = c.args.parts.now in
    let ds = p.drivers.items in
    let now = c.args.now in
    let n = to_z w64 (of_z w64 now) in
    let plan = c.args.plan in
    let first = c.index_mut.result.now in
    let first_is : first ≡ d = c.index_mut.ensures.value ∙ get_or_from_slice_get ds c.args.at d first at_is in
    let before = disks_in g.T.ZTree.disk g.L.MetaLog.disk (world_of_parts p) in
    let left = g.T.ZTree.left c.step.new.tree.inner in
    let log_left = g.L.MetaLog.left c.step.new.log.inner in
    let old : List ℤ → Shared = λ is. shared_of (tree p.tree.inner) (log p.log.inner) is in
    let Leaves : List ℤ → List ℤ → ℤ → Driver → Type 0 = λ is running x f.
    IsSoundPair (old is) x f → AreUp before → is_failed_step c.step.result ≡ true → LeavesOneOf (pair_of (old is) ∷ step_pairs plan (old is) running x f) left log_left in
    let by_ids = subst (λ (is : List ℤ). Leaves is c.args.peers.now.running n first) c.requires.declared c.step.ensures.stop in
    let by_running = subst (λ (is : List ℤ). Leaves p.declared is n first) c.requires.running by_ids in
    let by_driver = subst (λ (x : Driver). Leaves p.declared (running_ids ds) n x) first_is by_running in
    let by_now = subst (λ x. Leaves p.declared (running_ids ds) x d) (to_z-of_z w64 now c.ranges.now) by_driver in
    by_now pair up fails
