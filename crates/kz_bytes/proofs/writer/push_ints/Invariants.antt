use Rattle.std.proofs.Common.{◌≡◌, ◌++◌, take}
use Rattle.kz_spec_data.specs.Fields.{int_bytes}
use Rattle.kz_bytes.proofs.writer.push_ints.Given as goal

abbrev pub invariant-loop-number : goal.invariant-loop-number
invariant-loop-number l = l.out.items ≡ l.fn.out.items ++ int_bytes (take l.number-index l.v)
