use Rattle.std.proofs.Common.{◌∙◌, sym, subst}
use Rattle.kz_types.specs.declared.machine.Event.{Event}
use Rattle.kz_world_parts.specs.EventDisks.{disks_in}
use Rattle.kz_world_parts.specs.EventStops.{EventLeaves}
use Rattle.kz_world_parts.specs.Worlds.{world_of_parts, world_of}
use Rattle.kz_world.proofs.Rollbacks.{rollback_is}
use Rattle.kz_world.proofs.machine.let_happen.Goals as goal

pub returns-then-is_rollback-clause-stop : goal.returns-then-is_rollback-clause-stop
returns-then-is_rollback-clause-stop g c = λ sound.
    let p = c.args.parts.now in
    let q = c.roll_back.new.parts in
    let w = world_of g.T.ZTree.tree g.L.MetaLog.log p in
    let disks = disks_in g.T.ZTree.disk g.L.MetaLog.disk (world_of_parts p) in
    subst (λ (e : Event). EventLeaves w e c.roll_back.result disks (g.T.ZTree.left q.tree.inner) (g.L.MetaLog.left q.log.inner))
    (rollback_is c.args.event.now (sym c.is_rollback.ensures ∙ c.if-is_rollback.true)) c.roll_back.ensures.stop
