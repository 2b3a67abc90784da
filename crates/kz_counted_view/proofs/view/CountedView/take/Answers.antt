use Rattle.std.proofs.Common.{sym, subst}
use Rattle.kz_log.specs.Views.{Fits}
use Rattle.kz_log.proofs.Views.{feed_fits}
use Rattle.kz_counted_view.proofs.view.CountedView.take.Goals as goal

pub advance-requires : goal.advance-requires
advance-requires c =
    let r = c.requires in
    subst (λ v. Fits v c.args.feed) (sym c.self.view_is) (feed_fits r.log c.args.self.now c.args.feed r.is_log r.view r.feed)
