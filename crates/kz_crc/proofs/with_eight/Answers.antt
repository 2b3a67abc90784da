use Rattle.std.proofs.Common.{ℕ, sym, ap}
use Rattle.kz_spec_data.specs.Checksum.{after_bytes}
use Rattle.kz_crc.proofs.Linear.{eight_bytes}
use Rattle.kz_crc.proofs.with_eight.Goals as goal

pub returns : goal.returns
unfolding after_bytes
returns c = λ rest. ap (λ (x : ℕ). after_bytes x rest)
    (rw (c.after_eight.ensures, c.after_seven.ensures, c.after_six.ensures, c.after_five.ensures, c.after_four.ensures, c.after_three.ensures, c.after_two.ensures, c.after_one.ensures)
    (sym (eight_bytes c.args.state c.args.a c.args.b c.args.c c.args.d c.args.e c.args.f c.args.g c.args.h c.ranges.state.fits)))
