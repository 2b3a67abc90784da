use Rattle.std.proofs.Common.{◌+◌, ◌<◌, ◌++◌, Bool, Some, List, length, drop, filter, sym, ap, ◌∙◌, rules}
use Rattle.std.proofs.lemmas.List.{take_rest}
use Rattle.kz_types.specs.Order.{bytes_cmp}
use Rattle.kz_types.proofs.Order.{bytes_order}
use Rattle.kz_sorted.specs.After.{is_after}
use Rattle.kz_sorted.specs.BlockLists.{items_of}
use Rattle.kz_sorted.proofs.AfterLemmas.{items_after-items_of}
use Rattle.kz_sorted.proofs.blocks.Blocks.items_after_key.Goals as goal

pub returns : goal.returns
returns g c =
    let ps = c.as_slice-parts.result.now in
    let place = c.part_for-place.result in
    let p : g.row.T.Denot → Bool = is_after bytes_cmp g.T.Keyed.key (Some c.args.key.now) in
    let within : place < length ps = search rules in
    c.with_parts.ensures ∙ ap (λ zs. c.items_after_key-items.result ++ items_of zs) (take_rest ps (place + 1))
    ∙ ap (λ zs. zs ++ items_of (drop (place + 1) ps)) c.items_after_key-items.ensures
    ∙ sym (items_after-items_of bytes_order g.T.Keyed.key c.args.key.now ps place c.index-parts-place.result within c.index-parts-place.is c.part_for-place.ensures.part)
    ∙ ap (λ (xs : List (List g.row.T.Denot)). filter p (items_of xs)) c.as_slice-parts.ensures ∙ ap (filter p) c.self.view_is
