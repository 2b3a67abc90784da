use Rattle.std.proofs.Common.{◌≡◌, ◌-◌, ◌<◌, [], length, get_or, sym, ap, ◌∙◌, arith, rules}
use Rattle.std.proofs.lemmas.List.{get_or_read}
use Rattle.kz_spec_data.specs.Tree.{row_at}
use Rattle.kz_row_parts.proofs.Ends.{some_further, found_in_block}
use Rattle.kz_row_parts.proofs.parts.PartedRows.find_at_end.Goals as goal

pub returns : goal.returns
returns c =
    let ps = c.self.inside.parts.items in
    let place = c.len-place.result - 1 in
    let some : 0 < length ps = search rules in
    let within : place < length ps = omega (arith, some, c.len-place.ensures) in
    let there : c.rows.result.now ≡ get_or ps place [] = c.rows.ensures ∙ get_or_read ps place c.index.result.now within c.index.ensures [] in
    some_further c.find_at_end.result _ _
    (λ row found. ap (row_at c.args.path.now) (sym c.self.view_is) ∙ found_in_block c.args.path.now ps place row.now c.self.invariant.parts.rises within (ap (row_at c.args.path.now) (sym there) ∙ found)) c.find_at_end.ensures
