use Rattle.std.proofs.Common.{List, [], get_or, set, sym, ap, ◌∙◌, subst}
use Rattle.kz_types.specs.declared.tree.Row.{Row}
use Rattle.kz_row_parts.specs.Numbered.{numbers_of, AreNumbered}
use Rattle.kz_row_parts.proofs.Numbering.{all_same, numbered_one}
use Rattle.kz_row_parts.proofs.changes.take_from_block.Goals as goal

pub returns-in_err-remove_from_block-clause-kept : goal.returns-in_err-remove_from_block-clause-kept
returns-in_err-remove_from_block-clause-kept c =
    let same = all_same c.args.blocks.now.items c.remove_from_block.new.blocks.items c.args.place c.requires.within c.remove_from_block.ensures.one c.in_err-remove_from_block.ensures.err in
    subst (λ (bs : List (List Row)). AreNumbered bs c.args.segments.now) (sym same) c.requires.numbered

pub returns-clause-kept : goal.returns-clause-kept
returns-clause-kept c =
    numbered_one c.args.blocks.now.items c.remove_from_block.new.blocks.items c.args.segments.now c.number_anew.new.segments c.args.place c.requires.numbered c.requires.within c.remove_from_block.ensures.one c.remove_from_block.ensures.kept
    (c.number_anew.ensures ∙ ap (λ (bs : List (List Row)). set c.args.segments.now c.args.place (numbers_of (get_or bs c.args.place []))) c.deref.ensures.value)
