use Rattle.std.proofs.Common.{inr, sym, subst}
use Rattle.kz_spec_data.specs.Log.{IsViewOf}
use Rattle.kz_log.proofs.Views.{feed_fits, read_is_view}
use Rattle.kz_requests.proofs.log_requests.read.Goals as goal

pub advance_beside-requires : goal.advance_beside-requires
advance_beside-requires g c = feed_fits (g.L.MetaLog.log c.args.log.now.inner) c.args.view.now c.in-Ok.feed (g.met.L.MetaLog.is_log c.args.log.now.inner) c.requires.view c.in-Ok.ensures.ok

pub returns-in-Ok-advance_beside-clause-ok : goal.returns-in-Ok-advance_beside-clause-ok
returns-in-Ok-advance_beside-clause-ok g c =
    c.in-Ok-advance_beside.ensures.reads (g.L.MetaLog.log c.args.log.now.inner) (g.met.L.MetaLog.is_log c.args.log.now.inner) c.requires.view c.requires.latest c.in-Ok.ensures.ok

pub returns-in-Ok-advance_beside-clause-view : goal.returns-in-Ok-advance_beside-clause-view
returns-in-Ok-advance_beside-clause-view g c =
    let l = g.L.MetaLog.log c.args.log.now.inner in
    let is = c.in-Ok-advance_beside.ensures.reads l (g.met.L.MetaLog.is_log c.args.log.now.inner) c.requires.view c.requires.latest c.in-Ok.ensures.ok in
    subst (λ m. IsViewOf m c.advance_beside.new.self) (sym c.read_feed.ensures.same) (subst (IsViewOf l) (sym is) (inr (read_is_view l c.args.view.now (g.met.L.MetaLog.is_log c.args.log.now.inner))))
