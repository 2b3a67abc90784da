use Rattle.kz_tree_rows.proofs.ChildPaths.{not_empty}
use Rattle.kz_tree.proofs.refusals.op_refusal.Goals as goal

pub delete_refusal-requires : goal.delete_refusal-requires
delete_refusal-requires c = not_empty c.bytes-in-Delete.result.now c.bytes-in-Delete.ensures.rule

pub returns-in-Create : goal.returns-in-Create
returns-in-Create c = rw c.in-Create.is (rw (c.bytes.ensures.value, c.as_slice.ensures) at c.create_refusal.ensures)
