use Rattle.kz_spec_data.specs.Log.{new_view}
use Rattle.kz_tests_logs.proofs.views.all_of.Goals as goal

pub returns-clause-fits : goal.returns-clause-fits
returns-clause-fits g c =
    let l = g.L.MetaLog.log c.args.log.now in
    let is_log = g.met.L.MetaLog.is_log c.args.log.now in
    c.views_stay.ensures.fits l new_view c.in-Ok.feed is_log (c.views_stay.ensures.first l is_log) c.in-Ok.ensures.ok
