use Rattle.std.proofs.Common.{◌+◌, ◌<◌, ◌++◌, Bool, Some, List, length, drop, sym, ap, ◌∙◌, subst, rules}
use Rattle.std.specs.List.{filter}
use Rattle.std.proofs.lemmas.List.{take_rest}
use Rattle.kz_types.specs.declared.tree.Row.{Row}
use Rattle.kz_types.specs.Order.{bytes_cmp}
use Rattle.kz_types.proofs.Order.{bytes_order}
use Rattle.kz_types.specs.Ordered.{Rises}
use Rattle.kz_sorted.specs.BlockLists.{items_of, IsBlockFor}
use Rattle.kz_sorted.proofs.ItemsOf.{are_parts}
use Rattle.kz_sorted.proofs.Changes.{read_rises}
use Rattle.kz_sorted.proofs.AfterLemmas.{items_after-items_of}
use Rattle.kz_spec_data.specs.Tree.{path_of_row, is_after}
use Rattle.kz_row_parts.proofs.numbered.NumberedRows.items_after.Goals as goal

pub items_after-items-requires : goal.items_after-items-requires
items_after-items-requires c =
    let within : c.block_for-place.result < length c.self.inside.blocks.items = search rules in
    subst (λ (xs : List Row). Rises bytes_cmp path_of_row xs) (sym c.items-2.ensures)
    (read_rises bytes_order path_of_row c.self.inside.blocks.items c.block_for-place.result c.index.result.now (are_parts c.self.inside.blocks.items c.self.invariant.blocks) within c.index.ensures)

pub returns-clause-items : goal.returns-clause-items
returns-clause-items c =
    let bs = c.self.inside.blocks.items in
    let place = c.block_for-place.result in
    let p : Row → Bool = is_after (Some c.args.path.now) in
    let within : place < length bs = search rules in
    let for_path : IsBlockFor bytes_cmp path_of_row c.args.path.now bs place = subst (λ (xs : List (List Row)). IsBlockFor bytes_cmp path_of_row c.args.path.now xs place) c.deref.ensures.value c.block_for-place.ensures.block in
    c.new.ensures ∙ ap (λ zs. c.items_after-items.result.now ++ items_of zs) (take_rest c.deref-2.result.now (place + 1) ∙ ap (drop (place + 1)) c.deref-2.ensures.value)
    ∙ ap (λ zs. zs ++ items_of (drop (place + 1) bs)) (c.items_after-items.ensures ∙ ap (filter p) c.items-2.ensures)
    ∙ sym (items_after-items_of bytes_order path_of_row c.args.path.now bs place c.index.result.now within c.index.ensures for_path) ∙ ap (filter p) c.self.view_is
