use Rattle.std.proofs.Common.{List, Ok, Err, Result, ℕ, sym, ◌∙◌, subst}
use Rattle.kz_types.specs.Order.{bytes_cmp}
use Rattle.kz_types.specs.Spot.{IsSpot}
use Rattle.kz_types.proofs.Order.{bytes_order}
use Rattle.kz_types.proofs.Spot.{without_by_spot, without_by_gap}
use Rattle.kz_sorted.proofs.sorted.without.Goals as goal

pub returns-in-Ok : goal.returns-in-Ok
returns-in-Ok g c =
    let key = g.T.Keyed.key in
    let at : IsSpot bytes_cmp key c.args.key.now c.args.items.now.items (Ok c.in-Ok.place) = subst (λ (xs : List g.row.T.Denot). IsSpot bytes_cmp key c.args.key.now xs (Ok c.in-Ok.place)) c.deref.ensures.value c.in-Ok.ensures in
    c.remove-removed.ensures.items ∙ sym (without_by_spot bytes_order key c.args.key.now c.args.items.now.items c.in-Ok.place c.requires at)

pub returns-in_default : goal.returns-in_default
returns-in_default g c =
    let key = g.T.Keyed.key in
    let none : IsSpot bytes_cmp key c.args.key.now c.deref.result.now (Err c.in_default.field-0) = subst (λ (r : Result ℕ ℕ). IsSpot bytes_cmp key c.args.key.now c.deref.result.now r) c.in_default.is c.spot.ensures in
    let at : IsSpot bytes_cmp key c.args.key.now c.args.items.now.items (Err c.in_default.field-0) = subst (λ (xs : List g.row.T.Denot). IsSpot bytes_cmp key c.args.key.now xs (Err c.in_default.field-0)) c.deref.ensures.value none in
    sym (without_by_gap bytes_order key c.args.key.now c.args.items.now.items c.in_default.field-0 at)
