use Rattle.std.proofs.Common.{sym, subst}
use Rattle.kz_log.specs.Views.{Fits}
use Rattle.kz_log.proofs.Views.{feed_fits}
use Rattle.kz_view_delta.specs.Reads.{Makes}
use Rattle.kz_view_delta.proofs.read.view_after.Goals as goal

pub advance-requires : goal.advance-requires
advance-requires c =
    let r = c.requires in
    let view = c.args.view.now in
    let feed = c.args.feed.now in
    subst (λ v. Fits v c.in_ok-feed.feed) (sym c.in_ok-made.ensures)
    (subst (λ f. Fits view f) (sym c.in_ok-feed.ensures) (feed_fits r.log view feed r.is_log r.view r.feed))

pub returns-clause-read : goal.returns-clause-read
returns-clause-read c =
    let r = c.requires in
    let made : Makes c.args.view.now c.args.feed.now c.advance.new.self =
    subst (λ v. Makes v c.args.feed.now c.advance.new.self) c.in_ok-made.ensures
    (subst (λ f. Makes c.in_ok-made.made f c.advance.new.self) c.in_ok-feed.ensures c.in_ok-advance.ensures.reads) in
    record { read = r; end = made r.log r.is_log r.view r.feed }
