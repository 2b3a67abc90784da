use Rattle.kz_tree_rows.proofs.LastSlash.{ends_here, ends_before}
use Rattle.kz_tree_rows.proofs.names.parent_of.Goals as goal
use Rattle.kz_tree_rows.proofs.names.parent_of.Goals.{then-byte-eq47, else-byte-eq47}

pub loop-at-preserved : goal.loop-at-preserved
loop-at-preserved c = elim c.if-byte-eq47.branch [
  | then-byte-eq47 w ↦ rw w.end-is (ends_here c.args.path.now c.loop-at.at c.loop-at-test.true w.if-byte-eq47.true)
  | else-byte-eq47 w ↦ rw w.end-is (ends_before c.args.path.now c.loop-at.at c.loop-at.end c.loop-at-test.true w.if-byte-eq47.false c.loop-at.invariant)
]
