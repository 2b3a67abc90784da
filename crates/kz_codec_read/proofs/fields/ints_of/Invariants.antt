use Rattle.std.proofs.Common.{◌≡◌, ◌++◌, length}
use Rattle.kz_spec_data.specs.Fields.{ints_of}
use Rattle.kz_codec_read.proofs.fields.ints_of.Given as goal

abbrev pub invariant-loop-left : goal.invariant-loop-left
invariant-loop-left l = l.numbers.items ++ ints_of l.left ≡ ints_of l.bytes

abbrev pub decreases-loop-left : goal.decreases-loop-left
decreases-loop-left l = length l.left
