use Rattle.std.proofs.Common.{◌≡◌, ◌<◌, List, [], length, get_or, set, sym, ap, ◌∙◌, subst}
use Rattle.std.proofs.lemmas.List.{get_or_read}
use Rattle.kz_types.specs.declared.tree.Row.{Row}
use Rattle.kz_types.proofs.Order.{bytes_order}
use Rattle.kz_sorted.proofs.Changes.{without_in_set, without_in_part_kept}
use Rattle.kz_spec_data.specs.Tree.{path_of_row, without_row}
use Rattle.kz_row_numbers.specs.declared.joined_numbers.Numbers.{Numbers}
use Rattle.kz_row_parts.specs.Numbered.{numbers_of}
use Rattle.kz_row_parts.proofs.PartLemmas.{part_numbered}
use Rattle.kz_row_parts.proofs.part_changes.take_from_part.Goals as goal

pub returns-clause-ok : goal.returns-clause-ok
returns-clause-ok c =
    without_in_set bytes_order path_of_row c.args.path.now c.args.parts.now.items c.args.place c.index_mut.result.now c.take_out.new.self c.requires.within c.requires.part c.index_mut.ensures.value c.in_ok-take_out.ensures.ok

pub returns-clause-kept : goal.returns-clause-kept
returns-clause-kept c =
    let ps = c.args.parts.now.items in
    let is : c.take_out.new.self ≡ without_row c.args.path.now (get_or ps c.args.place []) =
    c.in_ok-take_out.ensures.ok ∙ ap (without_row c.args.path.now) (get_or_read ps c.args.place c.index_mut.result.now c.requires.within c.index_mut.ensures.value []) in
    let some : 0 < length c.take_out.new.self = subst (λ (p : List Row). 0 < length p) (sym is) c.requires.left in
    let kept = without_in_part_kept bytes_order path_of_row c.args.path.now ps c.args.place c.index_mut.result.now c.take_out.new.self c.requires.numbered.parts c.requires.within c.requires.part c.index_mut.ensures.value c.in_ok-take_out.ensures.ok some in
    part_numbered ps c.args.segments.now c.set.new.self c.args.place c.take_out.new.self c.index.result.now kept c.requires.numbered.numbers c.requires.within c.index.ensures
    (c.set.ensures ∙ ap (λ (n : Numbers). set c.args.segments.now c.args.place n) (c.numbers.ensures ∙ ap numbers_of c.rows.ensures))
