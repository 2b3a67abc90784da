use Rattle.std.proofs.Common.{◌≡◌, ◌++◌, drop, map}
use Rattle.kz_writer.specs.Parts.{puts}
use Rattle.kz_writer.proofs.diff.push_puts.Given as goal

abbrev pub invariant-loop-znode : goal.invariant-loop-znode
invariant-loop-znode g l = l.ops.items ++ puts (map g.Z.Znode.rendered l.have) (drop l.znode-index l.want) ≡ l.fn.ops.items ++ puts (map g.Z.Znode.rendered l.have) l.want
