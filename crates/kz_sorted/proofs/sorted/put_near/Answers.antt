use Rattle.std.proofs.Common.{ℕ, List, Ok, Err, sym, ◌∙◌, subst}
use Rattle.kz_types.specs.Order.{bytes_cmp}
use Rattle.kz_types.specs.Spot.{IsSpot}
use Rattle.kz_types.proofs.Order.{bytes_order}
use Rattle.kz_types.proofs.Spot.{put_by_spot, put_by_gap}
use Rattle.kz_sorted.proofs.sorted.put_near.Goals as goal

pub returns-in-Ok-clause-ok : goal.returns-in-Ok-clause-ok
returns-in-Ok-clause-ok g c =
    let key = g.T.Keyed.key in
    let items = c.args.items.now.items in
    let at_items : IsSpot bytes_cmp key (key c.args.item) c.deref.result.now (Ok c.in-Ok.place) = subst (λ (k : List ℕ). IsSpot bytes_cmp key k c.deref.result.now (Ok c.in-Ok.place)) c.key.ensures c.in-Ok.ensures in
    let at : IsSpot bytes_cmp key (key c.args.item) items (Ok c.in-Ok.place) = subst (λ (xs : List g.row.T.Denot). IsSpot bytes_cmp key (key c.args.item) xs (Ok c.in-Ok.place)) c.deref.ensures.value at_items in
    sym (put_by_spot bytes_order key c.args.item items c.in-Ok.place c.requires at)

pub returns-in_ok-insert-in-Err-clause-ok : goal.returns-in_ok-insert-in-Err-clause-ok
returns-in_ok-insert-in-Err-clause-ok g c =
    let key = g.T.Keyed.key in
    let items = c.args.items.now.items in
    let at_items : IsSpot bytes_cmp key (key c.args.item) c.deref.result.now (Err c.in-Err.place) = subst (λ (k : List ℕ). IsSpot bytes_cmp key k c.deref.result.now (Err c.in-Err.place)) c.key.ensures c.in-Err.ensures in
    let at : IsSpot bytes_cmp key (key c.args.item) items (Err c.in-Err.place) = subst (λ (xs : List g.row.T.Denot). IsSpot bytes_cmp key (key c.args.item) xs (Err c.in-Err.place)) c.deref.ensures.value at_items in
    c.in_ok-insert-in-Err.ensures.items ∙ sym (put_by_gap bytes_order key c.args.item items c.in-Err.place at)
