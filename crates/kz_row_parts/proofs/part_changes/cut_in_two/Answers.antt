use Rattle.std.proofs.Common.{◌≡◌, ◌+◌, List, set, insert, sym, ap, ◌∙◌, subst, rules}
use Rattle.kz_types.specs.declared.tree.Row.{Row}
use Rattle.kz_types.proofs.Order.{bytes_order}
use Rattle.kz_sorted.specs.BlockLists.{items_of}
use Rattle.kz_sorted.proofs.Changes.{part_in_two, part_in_two_kept}
use Rattle.kz_spec_data.specs.Tree.{path_of_row}
use Rattle.kz_row_parts.specs.Numbered.{numbers_of, AreNumberedParts, AreHalves}
use Rattle.kz_row_parts.proofs.Numbering.{numbers_two}
use Rattle.kz_row_parts.proofs.part_changes.cut_in_two.Goals as goal

pub returns-clause-same : goal.returns-clause-same
returns-clause-same c =
    let ps = c.args.parts.now.items in
    let i = c.args.place in
    let first = c.in-Some.first in
    let second = c.in-Some.second in
    let halves : AreHalves first second c.rows.result.now = search rules in
    let made : set c.insert.new.self.items (i + 1) c.in_ok-second.second ≡ set (insert ps i first) (i + 1) second = cc (c.in_ok-insert.ensures.items, c.in_ok-second.ensures, c.in_ok-first-2.ensures) in
    ap items_of made ∙ part_in_two bytes_order path_of_row ps i c.index.result.now first second c.requires.within (halves.whole ∙ c.rows.ensures ∙ c.index.ensures)

pub returns-clause-kept : goal.returns-clause-kept
returns-clause-kept c =
    let ps = c.args.parts.now.items in
    let i = c.args.place in
    let first = c.in-Some.first in
    let second = c.in-Some.second in
    let halves : AreHalves first second c.rows.result.now = search rules in
    let made : set c.insert.new.self.items (i + 1) c.in_ok-second.second ≡ set (insert ps i first) (i + 1) second = cc (c.in_ok-insert.ensures.items, c.in_ok-second.ensures, c.in_ok-first-2.ensures) in
    let numbers : c.in_ok-changed.changed ≡ set (insert c.args.segments.now i (numbers_of first)) (i + 1) (numbers_of second) = cc (c.in_ok-changed.ensures, c.numbers.ensures, c.numbers-2.ensures) in
    subst (λ (xs : List (List Row)). AreNumberedParts xs c.in_ok-changed.changed) (sym made)
    (record {
      parts = part_in_two_kept bytes_order path_of_row ps i c.index.result.now first second c.requires.numbered.parts c.requires.within (halves.whole ∙ c.rows.ensures ∙ c.index.ensures) halves.some halves.others;
      numbers = numbers_two ps c.args.segments.now c.in_ok-changed.changed i first second c.requires.numbered.numbers numbers;
    })
