use Rattle.std.proofs.Common.{◌≡◌, ◌+◌, List, set, insert, take, drop, sym, ap, ◌∙◌, subst, arith}
use Rattle.kz_types.specs.Order.{bytes_cmp}
use Rattle.kz_types.proofs.Order.{bytes_order}
use Rattle.kz_sorted.specs.BlockLists.{items_of, AreBlocks}
use Rattle.kz_sorted.specs.declared.limits.TheConstants.{HALF_BLOCK_ITEMS}
use Rattle.kz_sorted.proofs.ItemsOf.{are_parts}
use Rattle.kz_sorted.proofs.Changes.{read_rises, full_lengths, put_in_two, put_in_two_kept}
use Rattle.kz_sorted.proofs.change.put_in_full_block.Goals as goal

pub items_with-requires : goal.items_with-requires
items_with-requires g c = read_rises bytes_order g.T.Keyed.key c.args.blocks.now.items c.args.place c.index.result.now (are_parts c.args.blocks.now.items c.requires.blocks) c.requires.within c.index.ensures

pub split_off-requires : goal.split_off-requires
split_off-requires g c = omega (arith, c.in_ok-items.items.ok.0, full_lengths bytes_order g.T.Keyed.key c.args.item c.args.blocks.now.items c.args.place c.index.result.now c.in_ok-items.items.items c.requires.within c.requires.full c.index.ensures c.in_ok-items.ensures)

pub returns-clause-ok : goal.returns-clause-ok
returns-clause-ok g c =
    let made : set c.insert.new.self.items (c.args.place + 1) c.in_ok-second.second ≡ set (insert c.args.blocks.now.items c.args.place (take HALF_BLOCK_ITEMS c.in_ok-items.items.items)) (c.args.place + 1) (drop HALF_BLOCK_ITEMS c.in_ok-items.items.items) = cc (c.in_ok-insert.ensures.items, c.in_ok-second.ensures, c.in_ok-first.ensures, c.in_ok-rest.ensures.tail, c.in_ok-rest.ensures.items) in
    ap items_of made ∙ put_in_two bytes_order g.T.Keyed.key c.args.item c.args.blocks.now.items c.args.place c.index.result.now c.in_ok-items.items.items c.requires.within c.requires.block c.index.ensures c.in_ok-items.ensures

pub returns-clause-kept : goal.returns-clause-kept
returns-clause-kept g c =
    let made : set c.insert.new.self.items (c.args.place + 1) c.in_ok-second.second ≡ set (insert c.args.blocks.now.items c.args.place (take HALF_BLOCK_ITEMS c.in_ok-items.items.items)) (c.args.place + 1) (drop HALF_BLOCK_ITEMS c.in_ok-items.items.items) = cc (c.in_ok-insert.ensures.items, c.in_ok-second.ensures, c.in_ok-first.ensures, c.in_ok-rest.ensures.tail, c.in_ok-rest.ensures.items) in
    subst (λ (bs : List (List g.row.T.Denot)). AreBlocks bytes_cmp g.T.Keyed.key bs) (sym made)
    (put_in_two_kept bytes_order g.T.Keyed.key c.args.item c.args.blocks.now.items c.args.place c.index.result.now c.in_ok-items.items.items c.requires.blocks c.requires.within c.requires.block c.requires.full c.index.ensures c.in_ok-items.ensures)
