use Rattle.std.proofs.Common.{◌≡◌, ◌<◌, ℕ, ◌+◌, List, length, subst, rules}
use Rattle.kz_types.specs.Order.{bytes_cmp}
use Rattle.kz_types.specs.Ordered.{AllBelow}
use Rattle.kz_types.proofs.Order.{bytes_order}
use Rattle.kz_sorted.specs.BlockLists.{IsBlockFor}
use Rattle.kz_sorted.proofs.ItemsOf.{are_parts}
use Rattle.kz_sorted.proofs.Changes.{read_rises}
use Rattle.kz_sorted.proofs.Parts.{all_before_last}
use Rattle.kz_sorted.proofs.change.put_item.Goals as goal

pub has_key-requires : goal.has_key-requires
has_key-requires g c =
    let bs = c.args.blocks.now.items in
    let within : c.block_for-place.result < length bs = search rules in
    read_rises bytes_order g.T.Keyed.key bs c.block_for-place.result c.index-2.result.now (are_parts bs c.requires) within c.index-2.ensures

pub is_before-requires : goal.is_before-requires
is_before-requires g c =
    let bs = c.args.blocks.now.items in
    let within : c.block_for-place.result < length bs = search rules in
    read_rises bytes_order g.T.Keyed.key bs c.block_for-place.result c.index-then-place-len.result.now (are_parts bs c.requires) within c.index-then-place-len.ensures

pub append_block-requires-clause-after : goal.append_block-requires-clause-after
append_block-requires-clause-after g c =
    let key = g.T.Keyed.key in
    let bs = c.args.blocks.now.items in
    let place = c.block_for-place.result in
    let block = c.index-then-place-len.result.now in
    let last : place + 1 ≡ length bs = search rules in
    let for_key : IsBlockFor bytes_cmp key (key c.args.item) c.deref.result.now place = subst (λ (k : List ℕ). IsBlockFor bytes_cmp key k c.deref.result.now place) c.key.ensures c.block_for-place.ensures.block in
    let among : IsBlockFor bytes_cmp key (key c.args.item) bs place = subst (λ (xs : List (List g.row.T.Denot)). IsBlockFor bytes_cmp key (key c.args.item) xs place) c.deref.ensures.value for_key in
    let below : AllBelow bytes_cmp key block (key c.args.item) = subst (λ (k : List ℕ). AllBelow bytes_cmp key block k) c.key-then-place-len.ensures (c.if-is_before.ensures.0 (search rules)) in
    all_before_last bytes_order key (key c.args.item) bs place block last c.index-then-place-len.ensures among below
