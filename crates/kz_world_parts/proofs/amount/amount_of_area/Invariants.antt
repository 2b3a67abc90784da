use Rattle.std.proofs.Common.{◌≡◌, ◌+◌, ◌≤◌, length, map, sum}
use Rattle.kz_spec_machine.specs.Machine.{znode_size}
use Rattle.kz_spec_data.specs.Tree.{area}
use Rattle.kz_world_parts.specs.Amounts.{area_of_rows}
use Rattle.kz_world_parts.proofs.amount.amount_of_area.Given as goal

abbrev pub invariant-loop-row : goal.invariant-loop-row
invariant-loop-row l = record {
  within : l.amount.count + length l.row-iterator ≤ length l.tree.rows;
  count : l.amount.count + length (area_of_rows l.row-iterator) ≡ length (area l.tree);
  bytes : l.amount.bytes + sum (map znode_size (area_of_rows l.row-iterator)) ≡ sum (map znode_size (area l.tree));
}
