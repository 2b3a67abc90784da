use Rattle.std.proofs.Common.{◌≡◌, [], Some, Err, refl, sym, ap, subst, ◌∙◌, w64, to_z, of_z}
use Rattle.std.specs.Prelude.{slice_get, IfOk}
use Rattle.std.proofs.lemmas.Int.{to_z-of_z}
use Rattle.kz_spec_machine.specs.Machine.{World}
use Rattle.kz_world_parts.specs.Pairs.{IsSoundPair}
use Rattle.kz_world_parts.specs.declared.faults.EventFault.TheVariants as event_fault
use Rattle.kz_world_parts.specs.EventDisks.{disks_in}
use Rattle.kz_world_parts.specs.Turns.{IsTurned}
use Rattle.kz_world_parts.specs.Worlds.{world_of_parts, world_of}
use Rattle.kz_world_parts.proofs.EventStops.{still_failure, read_failure, turn_later, unmade_turn}
use Rattle.kz_world_parts.proofs.Views.{read_keeps}
use Rattle.kz_world.proofs.turns.prepared_turn.Goals as goal

pub returns-in_default-clause-stop : goal.returns-in_default-clause-stop
returns-in_default-clause-stop g c = λ d at_is pair.
    let p = c.args.parts.now in
    let w = world_of g.T.ZTree.tree g.L.MetaLog.log p in
    let disks = disks_in g.T.ZTree.disk g.L.MetaLog.disk (world_of_parts p) in
    still_failure w w [] (Err event_fault.NoMemory) disks disks (g.T.ZTree.left p.tree.inner) (g.L.MetaLog.left p.log.inner) refl refl
    (record { tree = g.met.T.ZTree.settled p.tree.inner; log = g.met.L.MetaLog.settled p.log.inner })

pub returns-in-Err-clause-stop : goal.returns-in-Err-clause-stop
returns-in-Err-clause-stop g c = λ d at_is pair.
    let p = c.args.parts.now in
    let q = c.turn_start.new.parts in
    let world = world_of g.T.ZTree.tree g.L.MetaLog.log in
    let w = world p in
    let disks = disks_in g.T.ZTree.disk g.L.MetaLog.disk in
    let tree_left = g.T.ZTree.left q.tree.inner in
    let log_left = g.L.MetaLog.left q.log.inner in
    unmade_turn w c.args.now d c.in-Err.fault (disks (world_of_parts p)) tree_left log_left
    (read_failure w (world q) [] (Err c.in-Err.fault) (disks (world_of_parts p)) (disks (world_of_parts q)) tree_left log_left tt c.turn_start.ensures.world c.in-Err.ensures.disks
    (record { tree = g.met.T.ZTree.settled q.tree.inner; log = g.met.L.MetaLog.settled q.log.inner }))

pub returns-clause-ok : goal.returns-clause-ok
returns-clause-ok g c = λ d at_is pair.
    let world = world_of g.T.ZTree.tree g.L.MetaLog.log in
    let w = world c.args.parts.now in
    let m = world c.turn_start.new.parts in
    let new = world c.turn_at.new.parts in
    let now = c.args.now in
    let n = to_z w64 (of_z w64 now) in
    let now_is = to_z-of_z w64 now c.ranges.now in
    let there : slice_get m.drivers c.args.at ≡ Some d = ap (λ (x : World). slice_get x.drivers c.args.at) c.turn_start.ensures.world ∙ at_is in
    let mid_pair = subst (λ x. IsSoundPair m.shared x d) (sym now_is) (subst (λ (x : World). IsSoundPair x.shared now d) (sym c.turn_start.ensures.world) pair) in
    subst (λ (x : World). IfOk c.turn_at.result (IsTurned x now d new)) c.turn_start.ensures.world
    (subst (λ x. IfOk c.turn_at.result (IsTurned m x d new)) now_is (c.turn_at.ensures.ok d there mid_pair))

pub returns-clause-stop : goal.returns-clause-stop
returns-clause-stop g c = λ d at_is pair.
    let disks = disks_in g.T.ZTree.disk g.L.MetaLog.disk in
    let world = world_of g.T.ZTree.tree g.L.MetaLog.log in
    let p = c.args.parts.now in
    let q = c.turn_start.new.parts in
    let r = c.turn_at.new.parts in
    let w = world p in
    let m = world q in
    let now = c.args.now in
    let n = to_z w64 (of_z w64 now) in
    let now_is = to_z-of_z w64 now c.ranges.now in
    let there : slice_get q.drivers.items c.args.at ≡ Some d = ap (λ (x : World). slice_get x.drivers c.args.at) c.turn_start.ensures.world ∙ at_is in
    let same = read_keeps (disks (world_of_parts p)) (disks (world_of_parts q)) c.in-Ok-turn_start.ensures.disks.0.1 c.in-Ok-turn_start.ensures.disks.1 in
    let mid_pair = subst (λ x. IsSoundPair m.shared x d) (sym now_is) (subst (λ (x : World). IsSoundPair x.shared now d) (sym c.turn_start.ensures.world) pair) in
    turn_later w m now n d c.turn_at.result (disks (world_of_parts p)) (disks (world_of_parts q)) (g.T.ZTree.left r.tree.inner) (g.L.MetaLog.left r.log.inner) c.turn_start.ensures.world same now_is (c.turn_at.ensures.stop d there mid_pair)
