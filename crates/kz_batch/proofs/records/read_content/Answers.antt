use Rattle.std.proofs.Common.{◌≡◌, refl, rules, SFits, to_z-of_z, sym}
use Rattle.std.specs.Int.{w64}
use Rattle.std.specs.Option.{option_map}
use Rattle.kz_batch.proofs.records.read_content.Goals as goal

pub returns : goal.returns
returns c =
    let fits : SFits w64 c.in_ok-delta.delta = search rules in (
      (tt, (c.in_ok-read_varlong.field-0, (c.in_ok-delta.delta, (option_map (λ x. x.now) c.in_ok-read_measured_or_null.field-0, (c.in_ok-value.value.now, c.in_ok-skip_headers.ensures.0))))),
      (sym (to_z-of_z fits), refl),
      rw (c.in_ok-read_attributes.ensures, c.in_ok-read_varlong.ensures, c.in_ok-delta.ensures, c.in_ok-read_measured_or_null.ensures, c.in_ok-value.ensures, c.in_ok-skip_headers.ensures.2) refl,
    )
