use Rattle.std.proofs.Common.{◌<◌, List, length, sym, ap, ◌∙◌, subst, rules}
use Rattle.kz_types.specs.Order.{bytes_cmp}
use Rattle.kz_types.specs.Ordered.{find}
use Rattle.kz_types.proofs.Order.{bytes_order}
use Rattle.kz_sorted.specs.BlockLists.{items_of, AreBlocks}
use Rattle.kz_sorted.proofs.Changes.{read_rises, read_found}
use Rattle.kz_sorted.proofs.ItemsOf.{are_parts}
use Rattle.kz_sorted.proofs.part.Part.find.Goals as goal

pub find-at-requires : goal.find-at-requires
find-at-requires g c =
    let bs = c.as_slice-blocks.result.now in
    let within : c.block_for-place.result < length bs = search rules in
    let blocks : AreBlocks bytes_cmp g.T.Keyed.key bs = subst (λ (xs : List (List g.row.T.Denot)). AreBlocks bytes_cmp g.T.Keyed.key xs) (sym c.as_slice-blocks.ensures) c.self.invariant in
    read_rises bytes_order g.T.Keyed.key bs c.block_for-place.result c.index-blocks-place.result (are_parts bs blocks) within c.index-blocks-place.is

pub returns : goal.returns
returns g c =
    let bs = c.as_slice-blocks.result.now in
    let within : c.block_for-place.result < length bs = search rules in
    c.find-at.ensures ∙ sym (read_found bytes_order g.T.Keyed.key c.args.key.now bs c.block_for-place.result c.index-blocks-place.result within c.index-blocks-place.is c.block_for-place.ensures.block)
    ∙ ap (λ (xs : List (List g.row.T.Denot)). find bytes_cmp g.T.Keyed.key c.args.key.now (items_of xs)) c.as_slice-blocks.ensures ∙ ap (find bytes_cmp g.T.Keyed.key c.args.key.now) c.self.view_is
