use Rattle.std.proofs.Common.{◌≡◌, length, drop}
use Rattle.kz_spec_data.specs.Checksum.{after_bytes}
use Rattle.kz_crc.proofs.with_bytes.Given as goal

abbrev pub invariant-loop-left : goal.invariant-loop-left
invariant-loop-left l = after_bytes l.state l.left ≡ after_bytes l.start l.bytes

abbrev pub decreases-loop-left : goal.decreases-loop-left
decreases-loop-left l = length l.left

abbrev pub invariant-loop-byte : goal.invariant-loop-byte
invariant-loop-byte l = after_bytes l.state (drop l.byte-index l.byte-items) ≡ after_bytes l.fn.start l.fn.bytes
