use Rattle.std.proofs.Common.{◌≡◌, ◌+◌, ◌-◌, ◌<◌, length, arith, rules}
use Rattle.kz_sorted.specs.BlockLists.{items_of}
use Rattle.kz_row_parts.proofs.Ends.{all_below, last_is_for, last_part_before}
use Rattle.kz_row_parts.proofs.part_changes.append.Goals as goal

pub append_to_part-requires-clause-part : goal.append_to_part-requires-clause-part
append_to_part-requires-clause-part c =
    let ps = c.args.parts.now.items in
    let some : 0 < length ps = search rules in
    let last : c.len-place.result - 1 + 1 ≡ length ps = omega (arith, some, c.len-place.ensures) in
    last_is_for c.args.row.path ps (c.len-place.result - 1) last (all_below c.args.row.path (items_of ps) c.requires.last)

pub append_to_part-requires-clause-last : goal.append_to_part-requires-clause-last
append_to_part-requires-clause-last c =
    let ps = c.args.parts.now.items in
    let some : 0 < length ps = search rules in
    let within : c.len-place.result - 1 < length ps = omega (arith, some, c.len-place.ensures) in
    last_part_before c.args.row.path ps (c.len-place.result - 1) within c.requires.last
