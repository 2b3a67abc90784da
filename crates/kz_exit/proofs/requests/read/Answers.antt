use Rattle.std.proofs.Common.{sym, subst}
use Rattle.kz_spec_data.specs.Log.{IsViewOf}
use Rattle.kz_log.proofs.Views.{new_is_view}
use Rattle.kz_exit.proofs.requests.read.Goals as goal

pub read_to_end-requires : goal.read_to_end-requires
read_to_end-requires g c =
    let log = g.L.MetaLog.log c.args.log.now in
    subst (IsViewOf log) (sym c.new-view.ensures) (new_is_view log (g.met.L.MetaLog.is_log c.args.log.now))
