use Rattle.std.proofs.Common.{List, sym, subst}
use Rattle.kz_spec_machine.specs.Driver.{Driver}
use Rattle.kz_world_parts.specs.Worlds.{IsKept}
use Rattle.kz_world_parts.proofs.Views.{kept_stopped}
use Rattle.kz_world_parts.proofs.members.stop.Goals as goal

pub returns-in-None-clause-kept : goal.returns-in-None-clause-kept
returns-in-None-clause-kept g c =
    let p = c.args.parts.now in
    let l = g.L.MetaLog.log p.log.inner in
    subst (λ (ds : List Driver). IsKept p.tree.plan p.log.plan l p.view ds) (sym c.stop_drivers.ensures) (kept_stopped p.tree.plan p.log.plan l p.view p.drivers.items _ c.requires)
