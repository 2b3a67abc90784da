use Rattle.std.proofs.Common.{map}
use Rattle.kz_writer.proofs.Steps.{both_parts}
use Rattle.kz_writer.proofs.diff.operations.Goals as goal

pub returns : goal.returns
returns g c = both_parts (map g.Z.Znode.rendered c.args.have.now) c.args.want.now c.new-ops.result.items c.push_deletes.new.ops.items c.push_puts.new.ops.items c.new-ops.ensures.items c.in_ok-push_deletes.ensures c.in_ok-push_puts.ensures
