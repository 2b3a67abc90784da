-- The checksum CRC-32C (Castagnoli), one bit at a time.
use Rattle.std.specs.Prelude.{ℕ, zero, suc, ◌-◌, ◌/◌, ◌%◌, ◌^◌, ◌==◌, List, [], ◌∷◌, if◌then◌else◌}
use Rattle.std.specs.Int.RustNames.{bit_xor}

-- the polynomial 1EDC6F41 with its bits reversed
abbrev pub polynomial : ℕ
polynomial = 0x82F63B78

-- the state after one bit: the lowest bit goes out, and where it is 1 the polynomial comes in
abbrev pub after_bit : ℕ → ℕ
after_bit state = if state % 2 == 0 then state / 2 else bit_xor (state / 2) polynomial

-- the state after so many bits
unfoldable pub after_bits : ℕ → ℕ → ℕ
after_bits zero state = state
after_bits (suc n) state = after_bits n (after_bit state)

-- the state after these bytes
unfoldable pub after_bytes : ℕ → List ℕ → ℕ
after_bytes state [] = state
after_bytes state (b ∷ bytes) = after_bytes (after_bits 8 (bit_xor state b)) bytes

-- The sum: from all ones on, and all bits turned at the end.
abbrev pub crc32c : List ℕ → ℕ
crc32c bytes = bit_xor (after_bytes (2 ^ 32 - 1) bytes) (2 ^ 32 - 1)
