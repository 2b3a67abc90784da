use Rattle.std.proofs.Common.{pos}
use Rattle.kz_tests_logs.proofs.views.append.Goals as goal

pub returns : goal.returns
returns g c =
    let before = g.L.MetaLog.log c.args.log.now in
    let after = g.L.MetaLog.log c.append.new.self in
    c.views_stay.ensures.append before after c.args.view.now (pos 1) (pos 6) c.args.items.now (g.met.L.MetaLog.is_log c.args.log.now) c.requires.view c.in-Ok.ensures.ok.0
