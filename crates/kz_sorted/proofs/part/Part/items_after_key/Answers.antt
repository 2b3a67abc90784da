use Rattle.std.proofs.Common.{◌+◌, ◌<◌, ◌++◌, Bool, Some, List, length, drop, filter, sym, ap, ◌∙◌, subst, rules}
use Rattle.std.proofs.lemmas.List.{take_rest}
use Rattle.kz_types.specs.Order.{bytes_cmp}
use Rattle.kz_types.proofs.Order.{bytes_order}
use Rattle.kz_types.specs.Ordered.{Rises}
use Rattle.kz_sorted.specs.After.{is_after}
use Rattle.kz_sorted.specs.BlockLists.{items_of, AreBlocks}
use Rattle.kz_sorted.proofs.Changes.{read_rises}
use Rattle.kz_sorted.proofs.ItemsOf.{are_parts}
use Rattle.kz_sorted.proofs.AfterLemmas.{items_after-items_of}
use Rattle.kz_sorted.proofs.part.Part.items_after_key.Goals as goal

pub items_after-items-requires : goal.items_after-items-requires
items_after-items-requires g c =
    let bs = c.as_slice-blocks.result.now in
    let within : c.block_for-place.result < length bs = search rules in
    let blocks : AreBlocks bytes_cmp g.T.Keyed.key bs = subst (λ (xs : List (List g.row.T.Denot)). AreBlocks bytes_cmp g.T.Keyed.key xs) (sym c.as_slice-blocks.ensures) c.self.invariant in
    subst (λ (xs : List g.row.T.Denot). Rises bytes_cmp g.T.Keyed.key xs) (sym c.items-2.ensures)
    (read_rises bytes_order g.T.Keyed.key bs c.block_for-place.result c.index-blocks-place.result (are_parts bs blocks) within c.index-blocks-place.is)

pub returns : goal.returns
returns g c =
    let bs = c.as_slice-blocks.result.now in
    let place = c.block_for-place.result in
    let p : g.row.T.Denot → Bool = is_after bytes_cmp g.T.Keyed.key (Some c.args.key.now) in
    let within : place < length bs = search rules in
    c.new.ensures ∙ ap (λ zs. c.items_after-items.result.now ++ items_of zs) (take_rest bs (place + 1))
    ∙ ap (λ zs. zs ++ items_of (drop (place + 1) bs)) (c.items_after-items.ensures ∙ ap (filter p) c.items-2.ensures)
    ∙ sym (items_after-items_of bytes_order g.T.Keyed.key c.args.key.now bs place c.index-blocks-place.result within c.index-blocks-place.is c.block_for-place.ensures.block)
    ∙ ap (λ (xs : List (List g.row.T.Denot)). filter p (items_of xs)) c.as_slice-blocks.ensures ∙ ap (filter p) c.self.view_is
