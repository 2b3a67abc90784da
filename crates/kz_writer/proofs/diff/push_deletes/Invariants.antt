use Rattle.std.proofs.Common.{◌≡◌, ◌++◌, ◌-◌, drop, length, map}
use Rattle.kz_writer.specs.Parts.{deletes}
use Rattle.kz_writer.proofs.diff.push_deletes.Given as goal

abbrev pub invariant-loop-done : goal.invariant-loop-done
invariant-loop-done g l = l.ops.items ≡ l.fn.ops.items ++ deletes (map g.Z.Znode.rendered (drop (length l.have - l.done) l.have)) l.want
