use Rattle.std.proofs.Common.{◌≡◌, ℕ, [], drop, arith}
use Rattle.std.proofs.lemmas.List.{drop_all}
use Rattle.kz_spec_data.specs.Checksum.{after_bytes}
use Rattle.kz_crc.proofs.with_bytes.Goals as goal

pub returns : goal.returns
unfolding after_bytes
returns c =
    let e : drop c.loop-byte.byte-index c.loop-left.left.now ≡ [] = drop_all c.loop-byte.byte-index c.loop-left.left.now (omega arith) in
    rw e at c.loop-byte.invariant
