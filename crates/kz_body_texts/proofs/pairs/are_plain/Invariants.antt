use Rattle.std.proofs.Common.{◌≡◌, drop}
use Rattle.kz_body_texts.specs.Texts.{are_plain}
use Rattle.kz_body_texts.proofs.pairs.are_plain.Given as goal

abbrev pub invariant-loop-byte : goal.invariant-loop-byte
invariant-loop-byte l = are_plain (drop l.byte-index l.bytes) ≡ are_plain l.bytes
