use Rattle.std.proofs.Common.{List, ap, sym, ◌∙◌, subst}
use Rattle.kz_types.specs.declared.tree.Row.{Row}
use Rattle.kz_types.proofs.Order.{bytes_order}
use Rattle.kz_sorted.specs.BlockLists.{items_of}
use Rattle.kz_sorted.proofs.Changes.{without_block, without_block_kept}
use Rattle.kz_spec_data.specs.Tree.{path_of_row}
use Rattle.kz_row_parts.specs.Numbered.{AreNumbered}
use Rattle.kz_row_parts.proofs.Numbering.{numbers_without}
use Rattle.kz_row_parts.proofs.changes.take_block.Goals as goal

pub returns-clause-ok : goal.returns-clause-ok
returns-clause-ok c = ap items_of c.remove-taken.ensures.items ∙ without_block bytes_order path_of_row c.args.path.now c.args.blocks.now.items c.args.place c.requires.within c.requires.block c.requires.one c.requires.found

pub returns-clause-kept : goal.returns-clause-kept
returns-clause-kept c =
    subst (λ (bs : List (List Row)). AreNumbered bs c.in_ok-changed.changed) (sym c.remove-taken.ensures.items)
    (record {
      blocks = without_block_kept bytes_order path_of_row c.args.path.now c.args.blocks.now.items c.args.place c.requires.numbered.blocks c.requires.within c.requires.block c.requires.one c.requires.found;
      numbers = numbers_without c.args.blocks.now.items c.args.segments.now c.in_ok-changed.changed c.args.place c.requires.numbered.numbers c.in_ok-changed.ensures;
    })
