use Rattle.std.proofs.Common.{Some, sym, ap, ◌∙◌}
use Rattle.kz_types.proofs.Order.{bytes_order}
use Rattle.kz_types.proofs.Spot.{find_by_spot, find_by_gap}
use Rattle.kz_sorted.proofs.sorted.find_near.Goals as goal

pub returns-in-Ok : goal.returns-in-Ok
returns-in-Ok g c =
    ap (λ (x : g.row.T.Denot). Some x) c.index-items-at.is
    ∙ sym (find_by_spot bytes_order g.T.Keyed.key c.args.key.now c.args.items.now c.in-Ok.at c.index-items-at.result c.requires c.in-Ok.ensures)

pub returns-in-Err : goal.returns-in-Err
returns-in-Err g c = sym (find_by_gap bytes_order g.T.Keyed.key c.args.key.now c.args.items.now c.in-Err.at c.in-Err.ensures)
