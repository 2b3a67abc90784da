use Rattle.std.proofs.Common.{rules, ◌≡◌, subst, w64, to_z, of_z}
use Rattle.kz_spec_data.specs.Log.{feed_from}
use Rattle.kz_log.specs.Requests.{IsFeed}
use Rattle.kz_requests.proofs.log_requests.read_feed.Goals as goal

pub returns-in-Ok-clause-ok : goal.returns-in-Ok-clause-ok
returns-in-Ok-clause-ok g c =
    let l = g.L.MetaLog.log c.args.log.now.inner in
    let at : to_z w64 (of_z w64 c.position.result) ≡ c.args.view.now.position = search rules in
    subst (λ p. IsFeed (feed_from l p) c.in-Ok.feed) at c.in-Ok.ensures.ok
