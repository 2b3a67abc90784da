use Rattle.std.proofs.Common.{◌≡◌, map, take}
use Rattle.serde_json.specs.View.{view}
use Rattle.kz_spec_data.specs.Written.{op_data}
use Rattle.kz_script.proofs.written.op_values.Given as goal

abbrev pub invariant-loop-op : goal.invariant-loop-op
invariant-loop-op l = map view l.values.items ≡ map op_data (take l.op-index l.ops)
