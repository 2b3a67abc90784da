use Rattle.std.proofs.Common.{set, ap, ◌∙◌}
use Rattle.kz_types.proofs.Order.{bytes_order}
use Rattle.kz_sorted.proofs.Changes.{put_in_set, put_in_part_kept}
use Rattle.kz_spec_data.specs.Tree.{path_of_row}
use Rattle.kz_row_numbers.specs.declared.joined_numbers.Numbers.{Numbers}
use Rattle.kz_row_parts.specs.Numbered.{numbers_of}
use Rattle.kz_row_parts.proofs.PartLemmas.{part_numbered}
use Rattle.kz_row_parts.proofs.part_changes.append_to_part.Goals as goal

pub returns-clause-ok : goal.returns-clause-ok
returns-clause-ok c =
    put_in_set bytes_order path_of_row c.args.row c.args.parts.now.items c.args.place c.index_mut.result.now c.append.new.self c.requires.within c.requires.part c.index_mut.ensures.value c.in_ok-append.ensures.ok

pub returns-clause-kept : goal.returns-clause-kept
returns-clause-kept c =
    let ps = c.args.parts.now.items in
    let kept = put_in_part_kept bytes_order path_of_row c.args.row ps c.args.place c.index_mut.result.now c.append.new.self c.requires.numbered.parts c.requires.within c.requires.part c.index_mut.ensures.value c.in_ok-append.ensures.ok in
    part_numbered ps c.args.segments.now c.set.new.self c.args.place c.append.new.self c.index.result.now kept c.requires.numbered.numbers c.requires.within c.index.ensures
    (c.set.ensures ∙ ap (λ (n : Numbers). set c.args.segments.now c.args.place n) (c.numbers.ensures ∙ ap numbers_of c.rows.ensures))
