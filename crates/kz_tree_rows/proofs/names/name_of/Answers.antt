use Rattle.kz_tree_rows.proofs.LastSlash.{begins_after, begins_before}
use Rattle.kz_tree_rows.proofs.names.name_of.Goals as goal
use Rattle.kz_tree_rows.proofs.names.name_of.Goals.{then-byte-eq47, else-byte-eq47}

pub loop-at-preserved : goal.loop-at-preserved
loop-at-preserved c = elim c.if-byte-eq47.branch [
  | then-byte-eq47 w ↦ rw w.start-is (begins_after c.args.path.now c.loop-at.at c.loop-at-test.true w.if-byte-eq47.true)
  | else-byte-eq47 w ↦ rw w.start-is (begins_before c.args.path.now c.loop-at.at c.loop-at.start c.loop-at-test.true w.if-byte-eq47.false c.loop-at.invariant)
]
