use Rattle.std.proofs.Common.{take}
use Rattle.kz_laws_values.specs.Texts.{AreBytes}
use Rattle.kz_log_frames.proofs.payload.are_bytes.Given as goal

abbrev pub invariant-loop-byte : goal.invariant-loop-byte
invariant-loop-byte l = AreBytes (take l.byte-index l.bytes)
