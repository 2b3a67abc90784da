use Rattle.std.proofs.Common.{refl}
use Rattle.std.specs.Option.{option_map}
use Rattle.kz_batch.proofs.records.skip_header.Goals as goal

pub returns : goal.returns
returns c = ((c.in_ok-read_measured.field-0.now, option_map (λ x. x.now) c.in_ok-read_measured_or_null.field-0), tt, rw (c.in_ok-read_measured.ensures, c.in_ok-read_measured_or_null.ensures) refl)
