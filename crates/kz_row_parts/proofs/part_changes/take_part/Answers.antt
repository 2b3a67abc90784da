use Rattle.std.proofs.Common.{List, [], get_or, refl, ap, sym, ◌∙◌, subst}
use Rattle.std.proofs.lemmas.List.{get_or_default}
use Rattle.kz_types.specs.declared.tree.Row.{Row}
use Rattle.kz_types.proofs.Order.{bytes_order}
use Rattle.kz_sorted.specs.BlockLists.{items_of}
use Rattle.kz_sorted.proofs.Changes.{without_part, without_part_kept}
use Rattle.kz_spec_data.specs.Tree.{path_of_row, without_row}
use Rattle.kz_row_parts.specs.Numbered.{AreNumberedParts}
use Rattle.kz_row_parts.proofs.Numbering.{numbers_without}
use Rattle.kz_row_parts.proofs.part_changes.take_part.Goals as goal

pub returns-clause-ok : goal.returns-clause-ok
returns-clause-ok c =
    let ps = c.args.parts.now.items in
    let p : List Row = get_or ps c.args.place [] in
    ap items_of c.remove-taken.ensures.items
    ∙ without_part bytes_order path_of_row c.args.path.now ps c.args.place p (without_row c.args.path.now p) c.requires.within c.requires.part (get_or_default ps c.args.place [] p c.requires.within) refl c.requires.gone

pub returns-clause-kept : goal.returns-clause-kept
returns-clause-kept c =
    let ps = c.args.parts.now.items in
    let p : List Row = get_or ps c.args.place [] in
    subst (λ (xs : List (List Row)). AreNumberedParts xs c.in_ok-changed.changed) (sym c.remove-taken.ensures.items)
    (record {
      parts = without_part_kept bytes_order path_of_row c.args.path.now ps c.args.place p (without_row c.args.path.now p) c.requires.numbered.parts c.requires.within c.requires.part (get_or_default ps c.args.place [] p c.requires.within) refl c.requires.gone;
      numbers = numbers_without ps c.args.segments.now c.in_ok-changed.changed c.args.place c.requires.numbered.numbers c.in_ok-changed.ensures;
    })
