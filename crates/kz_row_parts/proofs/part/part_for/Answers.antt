use Rattle.std.proofs.Common.{ℕ, [], sym, subst}
use Rattle.kz_types.specs.Order.{bytes_cmp}
use Rattle.kz_types.proofs.Order.{bytes_order}
use Rattle.kz_sorted.specs.BlockLists.{IsBlockFor}
use Rattle.kz_sorted.proofs.BlockFor.{first_keys_rise, block_at_first_key, block_between_first_keys}
use Rattle.kz_spec_data.specs.Tree.{path_of_row}
use Rattle.kz_row_parts.proofs.part.part_for.Goals as goal

pub spot_near-requires : goal.spot_near-requires
spot_near-requires c = first_keys_rise bytes_order path_of_row [] c.args.parts.now c.requires

pub returns-in-Ok-clause-part : goal.returns-in-Ok-clause-part
returns-in-Ok-clause-part c = block_at_first_key bytes_order path_of_row [] c.args.path.now c.args.parts.now c.in-Ok.place c.requires c.in-Ok.ensures

pub returns-in-Err-clause-part : goal.returns-in-Err-clause-part
returns-in-Err-clause-part c =
    subst (λ (i : ℕ). IsBlockFor bytes_cmp path_of_row c.args.path.now c.args.parts.now i) (sym c.saturating_sub.ensures)
    (block_between_first_keys bytes_order path_of_row [] c.args.path.now c.args.parts.now c.in-Err.place c.requires c.in-Err.ensures)
