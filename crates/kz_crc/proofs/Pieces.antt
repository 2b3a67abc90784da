-- Bytes in two pieces.
use Rattle.std.proofs.Common.{◌≡◌, ℕ, List, [], ◌∷◌, ◌++◌, refl, ap, ◌∙◌}
use Rattle.std.specs.Int.Bits.{bit_xor, xor_assoc, xor_self, xor_zero_r}
use Rattle.std.specs.Int.RustNames as rust
use Rattle.kz_spec_data.specs.Checksum.{after_bits, after_bytes}

pub after_pieces : (state : ℕ) (front rest : List ℕ) → after_bytes state (front ++ rest) ≡ after_bytes (after_bytes state front) rest
unfolding after_bytes
after_pieces state [] rest = refl
after_pieces state (b ∷ front) rest = after_pieces (after_bits 8 (rust.bit_xor state b)) front rest

pub turned_twice : (x mask : ℕ) → bit_xor (bit_xor x mask) mask ≡ x
turned_twice x mask = xor_assoc x mask mask ∙ ap (bit_xor x) (xor_self mask) ∙ xor_zero_r x
