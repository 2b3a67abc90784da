use Rattle.std.proofs.Common.{◌≡◌, inr, sym, subst, w64, to_z, of_z, rules}
use Rattle.kz_spec_data.specs.Log.{feed_from, IsViewOf}
use Rattle.kz_log.specs.Requests.{IsFeed}
use Rattle.kz_log.proofs.Views.{feed_fits, read_is_view}
use Rattle.kz_log.proofs.reading.read_to_end.Goals as goal

pub advance-requires : goal.advance-requires
advance-requires g c =
    let l = g.L.MetaLog.log c.args.log.now in
    let at : to_z w64 (of_z w64 c.position.result) ≡ c.args.view.now.position = search rules in
    feed_fits l c.args.view.now c.in-Ok.feed (g.met.L.MetaLog.is_log c.args.log.now) c.requires (subst (λ p. IsFeed (feed_from l p) c.in-Ok.feed) at c.in-Ok.ensures.ok)

pub returns-in-Ok-advance-clause-ok : goal.returns-in-Ok-advance-clause-ok
returns-in-Ok-advance-clause-ok g c =
    let l = g.L.MetaLog.log c.args.log.now in
    let at : to_z w64 (of_z w64 c.position.result) ≡ c.args.view.now.position = search rules in
    c.in-Ok-advance.ensures.reads l (g.met.L.MetaLog.is_log c.args.log.now) c.requires (subst (λ p. IsFeed (feed_from l p) c.in-Ok.feed) at c.in-Ok.ensures.ok)

pub returns-in-Ok-advance-clause-is_view : goal.returns-in-Ok-advance-clause-is_view
returns-in-Ok-advance-clause-is_view g c =
    let l = g.L.MetaLog.log c.args.log.now in
    let at : to_z w64 (of_z w64 c.position.result) ≡ c.args.view.now.position = search rules in
    let read = subst (λ p. IsFeed (feed_from l p) c.in-Ok.feed) at c.in-Ok.ensures.ok in
    let is = c.in-Ok-advance.ensures.reads l (g.met.L.MetaLog.is_log c.args.log.now) c.requires read in
    subst (λ m. IsViewOf m c.advance.new.self) (sym c.in-Ok.ensures.same) (subst (IsViewOf l) (sym is) (inr (read_is_view l c.args.view.now (g.met.L.MetaLog.is_log c.args.log.now))))
