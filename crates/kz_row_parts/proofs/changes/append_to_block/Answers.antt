use Rattle.std.proofs.Common.{◌≡◌, List, [], get_or, ap, ◌∙◌, sym, subst}
use Rattle.kz_types.specs.declared.tree.Row.{Row}
use Rattle.kz_row_numbers.specs.Joins.{joined}
use Rattle.kz_row_parts.specs.Numbered.{numbers_of, numbers_of_row, AreNumbered}
use Rattle.kz_spec_data.specs.Tree.{put_row}
use Rattle.kz_row_parts.proofs.Ends.{absent_there}
use Rattle.kz_row_parts.proofs.Numbering.{all_same, numbered_put, numbers_at, numbers_put_new}
use Rattle.kz_row_parts.proofs.changes.append_to_block.Goals as goal

pub returns-in_err-put_in_block-clause-kept : goal.returns-in_err-put_in_block-clause-kept
returns-in_err-put_in_block-clause-kept c =
    let same = all_same c.args.blocks.now.items c.put_in_block.new.blocks.items c.args.place c.requires.within c.put_in_block.ensures.one c.in_err-put_in_block.ensures.err in
    subst (λ (bs : List (List Row)). AreNumbered bs c.args.segments.now) (sym same) c.requires.numbered

pub returns-clause-kept : goal.returns-clause-kept
returns-clause-kept c =
    let bs = c.args.blocks.now.items in
    let place = c.args.place in
    let before : c.at.result ≡ numbers_of (get_or bs place []) = c.at.ensures ∙ numbers_at bs c.args.segments.now place c.requires.numbered.numbers c.requires.within in
    let one : c.numbers_of_row.result ≡ numbers_of_row c.args.row = c.numbers_of_row.ensures ∙ ap numbers_of_row c.get.ensures in
    let number : c.join-numbers.result ≡ numbers_of (put_row c.args.row (get_or bs place [])) =
    c.join-numbers.ensures ∙ ap (joined c.at.result) one ∙ ap (λ n. joined n (numbers_of_row c.args.row)) before
    ∙ sym (numbers_put_new c.args.row (get_or bs place []) (absent_there c.args.row.path bs place c.requires.within c.requires.block c.requires.last)) in
    numbered_put c.args.row bs c.put_in_block.new.blocks.items c.args.segments.now c.set.new.self place c.join-numbers.result c.requires.numbered c.requires.within c.requires.block c.put_in_block.ensures.one c.put_in_block.ensures.kept
    c.in_ok-put_in_block.ensures.ok number c.set.ensures
