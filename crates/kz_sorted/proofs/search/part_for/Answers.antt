use Rattle.std.proofs.Common.{ℕ, [], sym, subst}
use Rattle.kz_types.specs.Order.{bytes_cmp}
use Rattle.kz_types.proofs.Order.{bytes_order}
use Rattle.kz_sorted.specs.BlockLists.{IsBlockFor}
use Rattle.kz_sorted.proofs.BlockFor.{first_keys_rise, block_at_first_key, block_between_first_keys}
use Rattle.kz_sorted.proofs.search.part_for.Goals as goal

pub spot_near-requires : goal.spot_near-requires
spot_near-requires g c = first_keys_rise bytes_order g.T.Keyed.key [] c.args.parts.now c.requires

pub returns-in-Ok-clause-part : goal.returns-in-Ok-clause-part
returns-in-Ok-clause-part g c = block_at_first_key bytes_order g.T.Keyed.key [] c.args.key.now c.args.parts.now c.in-Ok.place c.requires c.in-Ok.ensures

pub returns-in-Err-clause-part : goal.returns-in-Err-clause-part
returns-in-Err-clause-part g c =
    subst (λ (i : ℕ). IsBlockFor bytes_cmp g.T.Keyed.key c.args.key.now c.args.parts.now i) (sym c.saturating_sub.ensures)
    (block_between_first_keys bytes_order g.T.Keyed.key [] c.args.key.now c.args.parts.now c.in-Err.place c.requires c.in-Err.ensures)
