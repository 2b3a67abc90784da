use Rattle.std.proofs.Common.{◌≡◌, true, Err, Ok, refl, sym, ap, subst, ◌∙◌, w64, to_z, of_z, List, [], ℤ}
use Rattle.std.specs.List.{list_any}
use Rattle.std.proofs.lemmas.Int.{to_z-of_z}
use Rattle.std.proofs.lemmas.Option.{get_or_from_slice_get}
use Rattle.kz_types.specs.declared.machine.Reply.{Reply}
use Rattle.kz_types.specs.declared.machine.Answer.TheVariants as answer
use Rattle.kz_spec_data.specs.Image.{Image}
use Rattle.kz_spec_data.specs.Log.{View, IsViewOf, image_of}
use Rattle.kz_spec_machine.specs.Driver.{Shared, Driver}
use Rattle.kz_spec_machine.specs.Machine.{World, running_ids, work}
use Rattle.kz_spec_machine.specs.Failures.{is_failed_step}
use Rattle.kz_world_parts.specs.Disks.{Disks, disks_of, payloads_of}
use Rattle.kz_world_parts.specs.Drivers.{shared_of}
use Rattle.kz_world_parts.specs.TurnDisks.{TurnDisks}
use Rattle.kz_world_parts.specs.Pairs.{IsSoundPair}
use Rattle.kz_world_parts.specs.Steps.{TurnEnds}
use Rattle.kz_world_parts.specs.TurnStops.{AreUp, LeavesOneOf, last_step_pairs}
use Rattle.kz_world_parts.specs.Starts.{TurnStart, most_from, start_of}
use Rattle.kz_world_parts.proofs.Starts.{most_is_work}
use Rattle.kz_world_parts.specs.declared.faults.EventFault.TheVariants as event_fault
use Rattle.kz_world_parts.specs.EventDisks.{disks_in}
use Rattle.kz_world_parts.specs.Turns.{IsTurned}
use Rattle.kz_world_parts.specs.Worlds.{world_of_parts, world_of}
use Rattle.kz_world_parts.proofs.Listings.{get_here}
use Rattle.kz_world.proofs.Runs.{turn_told}
use Rattle.kz_world_parts.proofs.EventStops.{still_failure}
use Rattle.kz_world_parts.proofs.Views.{view_at, kept_turned}
use Rattle.kz_world.proofs.turns.turn_at.Goals as goal

most_told : (s : Shared) (d : Driver) (start : TurnStart) (i : Image) → start ≡ start_of s d → i ≡ image_of s.log → most_from start i ≡ work s d
most_told s d start i from is = ap (λ x. most_from x i) from ∙ ap (most_from (start_of s d)) is ∙ most_is_work s d

pub turn-requires-clause-view : goal.turn-requires-clause-view
turn-requires-clause-view g c =
    let ds = c.args.parts.now.drivers.items in
    let d = c.index_mut.result.now in
    view_at (g.L.MetaLog.log c.args.parts.now.log.inner) ds c.args.at d c.requires.kept.each (get_here ds c.args.at d c.requires.within c.index_mut.ensures.value)

pub turn-requires-clause-latest : goal.turn-requires-clause-latest
turn-requires-clause-latest g c =
    let l = g.L.MetaLog.log c.args.parts.now.log.inner in
    subst (IsViewOf l) (sym c.view.ensures) c.requires.kept.own

pub returns-in-Ok-clause-kept : goal.returns-in-Ok-clause-kept
returns-in-Ok-clause-kept g c =
    let p = c.args.parts.now in
    let log = g.L.MetaLog.log in
    let ds = p.drivers.items in
    let d = c.index_mut.result.now in
    let t = c.turn.new.tree in
    let l = c.turn.new.log in
    let views = c.turn.ensures.views in
    kept_turned p.tree.plan p.log.plan t.plan l.plan (log p.log.inner) (log l.inner) p.view ds c.args.at d c.turn.new.driver c.turn.ensures.delivers.0 c.turn.ensures.delivers.1
    (get_here ds c.args.at d c.requires.within c.index_mut.ensures.value) views.same_id views.views views.own_view c.requires.kept

pub returns-in-Ok-clause-ok : goal.returns-in-Ok-clause-ok
returns-in-Ok-clause-ok g c = λ d at_is pair.
    let tree = g.T.ZTree.tree in
    let log = g.L.MetaLog.log in
    let p = c.args.parts.now in
    let ds = p.drivers.items in
    let at = c.args.at in
    let now = c.args.now in
    let n = to_z w64 (of_z w64 now) in
    let replies = c.in-Ok.replies.items in
    let e = c.turn.new.driver in
    let most = most_from c.args.start.now c.view.result.now.image in
    let running = c.args.peers.now.running in
    let first = c.index_mut.result.now in
    let first_is : first ≡ d = c.index_mut.ensures.value ∙ get_or_from_slice_get ds at d first at_is in
    let old : List ℤ → Shared = λ is. shared_of (tree p.tree.inner) (log p.log.inner) is in
    let new : List ℤ → Shared = λ is. shared_of (tree c.turn.new.tree.inner) (log c.turn.new.log.inner) is in
    let by_ids = subst (λ (is : List ℤ). IsSoundPair (old is) n first → TurnEnds most (old is) running n first replies (new is) e) c.requires.declared c.in-Ok.ensures.ends in
    let by_driver = subst (λ (x : Driver). IsSoundPair (old p.declared) n x → TurnEnds most (old p.declared) running n x replies (new p.declared) e) first_is by_ids in
    let by_now = subst (λ x. IsSoundPair (old p.declared) x d → TurnEnds most (old p.declared) running x d replies (new p.declared) e) (to_z-of_z w64 now c.ranges.now) by_driver in
    let after : World = record { shared = new p.declared; drivers = Rattle.std.proofs.Common.set ds at e } in
    subst (λ (rs : List Reply). IsTurned (world_of tree log p) now d after (answer.Turn rs)) (sym c.from_vec.ensures)
    (turn_told (world_of tree log p) now d at most running (new p.declared) e replies c.requires.kept.distinct at_is (most_told (world_of tree log p).shared d c.args.start.now c.view.result.now.image (c.requires.start d at_is) (ap (λ (v : View). v.image) c.view.ensures ∙ c.requires.image)) c.requires.running (c.turn.ensures.views.same_id ∙ ap (λ (x : Driver). x.id) first_is) (by_now pair))

pub returns-in-Ok-clause-disks : goal.returns-in-Ok-clause-disks
returns-in-Ok-clause-disks g c = λ d at_is pair.
    let tree = g.T.ZTree.tree in
    let log = g.L.MetaLog.log in
    let p = c.args.parts.now in
    let ds = p.drivers.items in
    let at = c.args.at in
    let now = c.args.now in
    let n = to_z w64 (of_z w64 now) in
    let replies = c.in-Ok.replies.items in
    let first = c.index_mut.result.now in
    let first_is : first ≡ d = c.index_mut.ensures.value ∙ get_or_from_slice_get ds at d first at_is in
    let payloads = payloads_of g.T.ZTree.payload_bytes g.L.MetaLog.payload_bytes in
    let before = disks_in g.T.ZTree.disk g.L.MetaLog.disk (world_of_parts p) in
    let after : Disks = disks_of (g.T.ZTree.disk c.turn.new.tree.inner) (g.L.MetaLog.disk c.turn.new.log.inner) in
    let old : List ℤ → Shared = λ is. shared_of (tree p.tree.inner) (log p.log.inner) is in
    let Moves : List ℤ → List ℤ → ℤ → Driver → Type 0 = λ is running x f. IsSoundPair (old is) x f → TurnDisks (old is) running x f payloads replies before after in
    let by_ids = subst (λ (is : List ℤ). Moves is c.args.peers.now.running n first) c.requires.declared c.in-Ok.ensures.disks in
    let by_running = subst (λ (is : List ℤ). Moves p.declared is n first) c.requires.running by_ids in
    let by_driver = subst (λ (x : Driver). Moves p.declared (running_ids ds) n x) first_is by_running in
    let by_now = subst (λ x. Moves p.declared (running_ids ds) x d) (to_z-of_z w64 now c.ranges.now) by_driver in
    (c.requires.up, subst (λ (rs : List Reply). TurnDisks (old p.declared) (running_ids ds) now d payloads rs before after) (sym c.from_vec.ensures) (by_now pair))

pub returns-in-Ok-clause-stop : goal.returns-in-Ok-clause-stop
returns-in-Ok-clause-stop g c = λ d at_is pair up fails.
    let tree = g.T.ZTree.tree in
    let log = g.L.MetaLog.log in
    let p = c.args.parts.now in
    let ds = p.drivers.items in
    let at = c.args.at in
    let now = c.args.now in
    let n = to_z w64 (of_z w64 now) in
    let replies = c.in-Ok.replies.items in
    let first = c.index_mut.result.now in
    let first_is : first ≡ d = c.index_mut.ensures.value ∙ get_or_from_slice_get ds at d first at_is in
    let before = disks_in g.T.ZTree.disk g.L.MetaLog.disk (world_of_parts p) in
    let left = g.T.ZTree.left c.turn.new.tree.inner in
    let log_left = g.L.MetaLog.left c.turn.new.log.inner in
    let old : List ℤ → Shared = λ is. shared_of (tree p.tree.inner) (log p.log.inner) is in
    let Leaves : List ℤ → List ℤ → ℤ → Driver → Type 0 = λ is running x f.
    IsSoundPair (old is) x f → AreUp before → list_any is_failed_step replies ≡ true → LeavesOneOf (last_step_pairs replies (old is) running x f) left log_left in
    let by_ids = subst (λ (is : List ℤ). Leaves is c.args.peers.now.running n first) c.requires.declared c.in-Ok.ensures.stop in
    let by_running = subst (λ (is : List ℤ). Leaves p.declared is n first) c.requires.running by_ids in
    let by_driver = subst (λ (x : Driver). Leaves p.declared (running_ids ds) n x) first_is by_running in
    let by_now = subst (λ x. Leaves p.declared (running_ids ds) x d) (to_z-of_z w64 now c.ranges.now) by_driver in
    subst (λ (rs : List Reply). LeavesOneOf (last_step_pairs rs (old p.declared) (running_ids ds) now d) left log_left) (sym c.from_vec.ensures) (by_now pair up (ap (list_any is_failed_step) (sym c.from_vec.ensures) ∙ fails))

pub returns-in-Err-clause-stop : goal.returns-in-Err-clause-stop
returns-in-Err-clause-stop g c = λ d at_is pair.
    let tree = g.T.ZTree.tree in
    let log = g.L.MetaLog.log in
    let p = c.args.parts.now in
    let w = world_of tree log p in
    let t = c.turn.new.tree in
    let l = c.turn.new.log in
    let disks = disks_of (g.T.ZTree.disk t.inner) (g.L.MetaLog.disk l.inner) in
    let old = disks_in g.T.ZTree.disk g.L.MetaLog.disk (world_of_parts p) in
    let new : World = record { shared = shared_of (tree t.inner) (log l.inner) p.declared; drivers = w.drivers } in
    let same_tree = c.in-Err.ensures.err.1 in
    let same_log = c.in-Err.ensures.err.2 in
    let same : new ≡ w = ap (λ x. record { shared = shared_of (tree x.inner) (log l.inner) p.declared; drivers = w.drivers }) same_tree ∙ ap (λ x. record { shared = shared_of (tree p.tree.inner) (log x.inner) p.declared; drivers = w.drivers }) same_log in
    let same_disks : disks ≡ old = ap (λ x. disks_of (g.T.ZTree.disk x.inner) (g.L.MetaLog.disk l.inner)) same_tree ∙ ap (λ x. disks_of (g.T.ZTree.disk p.tree.inner) (g.L.MetaLog.disk x.inner)) same_log in
    still_failure w new [] (Err event_fault.NoMemory) old disks (g.T.ZTree.left t.inner) (g.L.MetaLog.left l.inner) same same_disks
    (record { tree = g.met.T.ZTree.settled t.inner; log = g.met.L.MetaLog.settled l.inner })
