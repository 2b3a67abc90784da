use Rattle.std.proofs.Common.{◌≡◌, take}
use Rattle.kz_case_fields.specs.Texts.{hex}
use Rattle.kz_case_fields.proofs.hexadecimal.hex_bytes.Given as goal

abbrev pub invariant-loop-byte : goal.invariant-loop-byte
invariant-loop-byte l = l.digits.items ≡ hex (take l.byte-index l.bytes)
