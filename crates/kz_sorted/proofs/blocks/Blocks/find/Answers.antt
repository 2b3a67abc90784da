use Rattle.std.proofs.Common.{◌<◌, List, length, sym, ap, ◌∙◌, rules}
use Rattle.kz_types.specs.Order.{bytes_cmp}
use Rattle.kz_types.specs.Ordered.{find}
use Rattle.kz_types.proofs.Order.{bytes_order}
use Rattle.kz_sorted.specs.BlockLists.{items_of}
use Rattle.kz_sorted.proofs.Changes.{read_found}
use Rattle.kz_sorted.proofs.blocks.Blocks.find.Goals as goal

pub returns : goal.returns
returns g c =
    let ps = c.as_slice-parts.result.now in
    let within : c.part_for-place.result < length ps = search rules in
    c.find.ensures ∙ sym (read_found bytes_order g.T.Keyed.key c.args.key.now ps c.part_for-place.result c.index-parts-place.result within c.index-parts-place.is c.part_for-place.ensures.part)
    ∙ ap (λ (xs : List (List g.row.T.Denot)). find bytes_cmp g.T.Keyed.key c.args.key.now (items_of xs)) c.as_slice-parts.ensures ∙ ap (find bytes_cmp g.T.Keyed.key c.args.key.now) c.self.view_is
