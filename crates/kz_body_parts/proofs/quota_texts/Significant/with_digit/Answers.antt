use Rattle.kz_laws_values.proofs.QuotaScales.{with_zero, with_other}
use Rattle.kz_body_parts.proofs.quota_texts.Significant.with_digit.Goals as goal

pub returns-then-digit-eq48-clause-significant : goal.returns-then-digit-eq48-clause-significant
returns-then-digit-eq48-clause-significant c = λ digits number zeros.
    let is = with_zero digits c.args.self.number c.args.self.zeros c.args.digit (record { number_is = number; zeros_are = zeros }) c.if-digit-eq48.true in
    (is.number_is, is.zeros_are)

pub returns-clause-significant : goal.returns-clause-significant
returns-clause-significant c = λ digits number zeros.
    let is = with_other digits c.args.self.number c.args.self.zeros c.args.digit c.raised.result c.min.result (record { number_is = number; zeros_are = zeros })
    c.if-digit-eq48.false c.requires.low c.requires.high c.raised.ensures c.min.ensures in
    (is.number_is, is.zeros_are)
