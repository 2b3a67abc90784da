use Rattle.std.proofs.Common.{◌+◌, ◌<◌, ◌++◌, Bool, Some, List, length, drop, sym, ap, ◌∙◌, subst, rules}
use Rattle.std.specs.List.{filter}
use Rattle.std.proofs.lemmas.List.{take_rest}
use Rattle.kz_types.specs.declared.tree.Row.{Row}
use Rattle.kz_types.specs.Order.{bytes_cmp}
use Rattle.kz_types.proofs.Order.{bytes_order}
use Rattle.kz_sorted.specs.BlockLists.{items_of, IsBlockFor}
use Rattle.kz_sorted.proofs.AfterLemmas.{items_after-items_of}
use Rattle.kz_spec_data.specs.Tree.{path_of_row, is_after}
use Rattle.kz_row_parts.proofs.parts.PartedRows.items_after.Goals as goal

pub returns-clause-items : goal.returns-clause-items
returns-clause-items c =
    let ps = c.self.inside.parts.items in
    let place = c.part_for-place.result in
    let p : Row → Bool = is_after (Some c.args.path.now) in
    let within : place < length ps = search rules in
    let for_path : IsBlockFor bytes_cmp path_of_row c.args.path.now ps place = subst (λ (xs : List (List Row)). IsBlockFor bytes_cmp path_of_row c.args.path.now xs place) c.deref.ensures.value c.part_for-place.ensures.part in
    c.new.ensures ∙ ap (λ zs. c.items_after-items.result ++ items_of zs) (take_rest c.deref-2.result.now (place + 1) ∙ ap (drop (place + 1)) c.deref-2.ensures.value)
    ∙ ap (λ zs. zs ++ items_of (drop (place + 1) ps)) (c.items_after-items.ensures.items ∙ ap (filter p) c.rows.ensures)
    ∙ sym (items_after-items_of bytes_order path_of_row c.args.path.now ps place c.index.result.now within c.index.ensures for_path) ∙ ap (filter p) c.self.view_is
