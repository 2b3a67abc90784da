use Rattle.std.proofs.Common.{◌+◌, sym, ◌∙◌}
use Rattle.std.proofs.lemmas.List.{take_rest}
use Rattle.kz_types.proofs.Order.{bytes_order}
use Rattle.kz_sorted.proofs.AfterLemmas.{items_after-found, items_after-gap}
use Rattle.kz_sorted.proofs.block_items.items_after.Goals as goal

pub returns-in-Ok : goal.returns-in-Ok
returns-in-Ok g c = take_rest c.args.items.now (c.in-Ok.place + 1) ∙ sym (items_after-found bytes_order g.T.Keyed.key c.args.key.now c.args.items.now c.in-Ok.place c.requires c.in-Ok.ensures)

pub returns-in-Err : goal.returns-in-Err
returns-in-Err g c = take_rest c.args.items.now c.in-Err.place ∙ sym (items_after-gap bytes_order g.T.Keyed.key c.args.key.now c.args.items.now c.in-Err.place c.in-Err.ensures)
