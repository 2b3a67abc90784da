use Rattle.std.proofs.Common.{ℕ, sym, ap}
use Rattle.kz_spec_data.specs.Checksum.{after_bytes}
use Rattle.kz_crc.proofs.Linear.{one_byte}
use Rattle.kz_crc.proofs.with_byte.Goals as goal

pub returns : goal.returns
unfolding after_bytes
returns c = λ rest. ap (λ (x : ℕ). after_bytes x rest) (rw c.after_one.ensures (sym (one_byte c.args.state c.args.byte)))
