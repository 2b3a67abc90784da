use Rattle.std.proofs.Common.{◌≡◌, ◌+◌, ◌-◌, ◌<◌, length, arith, rules}
use Rattle.kz_row_parts.proofs.Ends.{last_is_for}
use Rattle.kz_row_parts.proofs.changes.append.Goals as goal

pub append_to_block-requires-clause-block : goal.append_to_block-requires-clause-block
append_to_block-requires-clause-block c =
    let bs = c.args.blocks.now.items in
    let some : 0 < length bs = search rules in
    let last : c.len-place.result - 1 + 1 ≡ length bs = omega (arith, some, c.len-place.ensures) in
    last_is_for c.args.row.path bs (c.len-place.result - 1) last c.requires.last
