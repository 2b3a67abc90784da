use Rattle.std.proofs.Common.{◌≡◌, ◌-◌, ◌<◌, [], length, get_or, sym, ap, ◌∙◌, subst, arith, rules}
use Rattle.std.proofs.lemmas.List.{get_or_read}
use Rattle.kz_types.proofs.Order.{bytes_order}
use Rattle.kz_sorted.proofs.ItemsOf.{are_parts}
use Rattle.kz_sorted.proofs.Changes.{read_rises}
use Rattle.kz_spec_data.specs.Tree.{path_of_row, row_at}
use Rattle.kz_row_parts.specs.Kept.{AreRows}
use Rattle.kz_row_parts.proofs.Ends.{some_further, found_in_block}
use Rattle.kz_row_parts.proofs.numbered.NumberedRows.find_at_end.Goals as goal

pub find_among_last-requires : goal.find_among_last-requires
find_among_last-requires c =
    let bs = c.self.inside.blocks.items in
    let some : 0 < length bs = search rules in
    let within : c.len-place.result - 1 < length bs = omega (arith, some, c.len-place.ensures) in
    subst AreRows (sym c.items.ensures) (read_rises bytes_order path_of_row bs (c.len-place.result - 1) c.index.result.now (are_parts bs c.self.invariant.blocks) within c.index.ensures)

pub returns : goal.returns
returns c =
    let bs = c.self.inside.blocks.items in
    let place = c.len-place.result - 1 in
    let some : 0 < length bs = search rules in
    let within : place < length bs = omega (arith, some, c.len-place.ensures) in
    let there : c.items.result.now ≡ get_or bs place [] = c.items.ensures ∙ get_or_read bs place c.index.result.now within c.index.ensures [] in
    some_further c.find_among_last.result _ _
    (λ row found. ap (row_at c.args.path.now) (sym c.self.view_is) ∙ found_in_block c.args.path.now bs place row.now c.self.invariant.blocks.rises within (ap (row_at c.args.path.now) (sym there) ∙ found)) c.find_among_last.ensures
