use Rattle.std.proofs.Common.{sym, subst}
use Rattle.kz_spec_data.specs.Log.{IsViewOf}
use Rattle.kz_driver.proofs.drive.Driver.step.Goals as goal

pub step_beside-requires-clause-latest : goal.step_beside-requires-clause-latest
step_beside-requires-clause-latest g c =
    let l = g.L.MetaLog.log c.args.log.now.inner in
    subst (IsViewOf l) (sym c.new-latest.ensures) (c.views_stay.ensures.first l (g.met.L.MetaLog.is_log c.args.log.now.inner))
