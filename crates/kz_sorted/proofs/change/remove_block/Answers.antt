use Rattle.std.proofs.Common.{ap, ◌∙◌, sym, subst, List}
use Rattle.kz_types.specs.Order.{bytes_cmp}
use Rattle.kz_types.proofs.Order.{bytes_order}
use Rattle.kz_sorted.specs.BlockLists.{items_of, AreBlocks}
use Rattle.kz_sorted.proofs.Changes.{without_block, without_block_kept}
use Rattle.kz_sorted.proofs.change.remove_block.Goals as goal

pub returns-clause-items : goal.returns-clause-items
returns-clause-items g c =
    ap items_of c.remove-removed.ensures.items ∙ without_block bytes_order g.T.Keyed.key c.args.key.now c.args.blocks.now.items c.args.place c.requires.within c.requires.block c.requires.one c.requires.found

pub returns-clause-kept : goal.returns-clause-kept
returns-clause-kept g c =
    subst (λ (bs : List (List g.row.T.Denot)). AreBlocks bytes_cmp g.T.Keyed.key bs) (sym c.remove-removed.ensures.items)
    (without_block_kept bytes_order g.T.Keyed.key c.args.key.now c.args.blocks.now.items c.args.place c.requires.blocks c.requires.within c.requires.block c.requires.one c.requires.found)
