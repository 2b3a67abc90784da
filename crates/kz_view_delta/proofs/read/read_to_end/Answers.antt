use Rattle.std.proofs.Common.{inr, sym, subst}
use Rattle.kz_spec_data.specs.Log.{IsViewOf}
use Rattle.kz_log.proofs.Views.{read_is_view}
use Rattle.kz_view_delta.proofs.read.read_to_end.Goals as goal

pub returns-clause-ok : goal.returns-clause-ok
returns-clause-ok g c =
    let l = g.L.MetaLog.log c.args.log.now.inner in
    c.in_ok-made.ensures l (g.met.L.MetaLog.is_log c.args.log.now.inner) c.requires.view c.requires.latest c.in_ok-feed.ensures.ok

pub returns-clause-read : goal.returns-clause-read
returns-clause-read g c =
    let l = g.L.MetaLog.log c.args.log.now.inner in
    let log = g.met.L.MetaLog.is_log c.args.log.now.inner in
    record {
      read = record { log = l; is_log = log; view = c.requires.view; feed = c.in_ok-feed.ensures.ok };
      end = c.in_ok-made.ensures l log c.requires.view c.requires.latest c.in_ok-feed.ensures.ok;
    }

pub returns-clause-view : goal.returns-clause-view
returns-clause-view g c =
    let l = g.L.MetaLog.log c.args.log.now.inner in
    let log = g.met.L.MetaLog.is_log c.args.log.now.inner in
    let is = c.in_ok-made.ensures l log c.requires.view c.requires.latest c.in_ok-feed.ensures.ok in
    subst (λ m. IsViewOf m c.in_ok-made.made) (sym c.read_feed.ensures.same) (subst (IsViewOf l) (sym is) (inr (read_is_view l c.args.view.now log)))
