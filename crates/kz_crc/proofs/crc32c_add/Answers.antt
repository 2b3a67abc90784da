use Rattle.std.proofs.Common.{◌≡◌, ℕ, ◌^◌, ◌-◌, List, ◌++◌, sym, ap, ◌∙◌}
use Rattle.std.specs.Int.Bits.{bit_xor}
use Rattle.kz_spec_data.specs.Checksum.{crc32c, after_bytes}
use Rattle.kz_crc.proofs.Pieces.{after_pieces, turned_twice}
use Rattle.kz_crc.proofs.crc32c_add.Goals as goal

pub returns : goal.returns
returns c = λ front is.
    let turned : bit_xor c.args.sum (2 ^ 32 - 1) ≡ after_bytes (2 ^ 32 - 1) front = ap (λ (x : ℕ). bit_xor x (2 ^ 32 - 1)) is ∙ turned_twice (after_bytes (2 ^ 32 - 1) front) (2 ^ 32 - 1) in
    let state : c.with_bytes.result ≡ after_bytes (2 ^ 32 - 1) (front ++ c.args.bytes.now) = c.with_bytes.ensures ∙ ap (λ (x : ℕ). after_bytes x c.args.bytes.now) turned ∙ sym (after_pieces (2 ^ 32 - 1) front c.args.bytes.now) in
    ap (λ (x : ℕ). bit_xor x (2 ^ 32 - 1)) state
