use Rattle.std.proofs.Common.{ap, ◌∙◌, Ok, Some, None, arith}
use Rattle.kz_spec_data.specs.Quotas.{quota_of_numeral}
use Rattle.kz_laws_values.proofs.QuotaScales.{value_is}
use Rattle.kz_body_parts.proofs.quota_texts.Numeral.value.Goals as goal

pub returns-in-Some-clause-value : goal.returns-in-Some-clause-value
returns-in-Some-clause-value c =
    let of = c.of-significant.ensures in
    c.quota_of_millionths.ensures.value
    ∙ value_is (record { whole = c.self.inside.whole; decimals = c.self.inside.decimals; exponent = c.self.inside.exponent })
    c.of-significant.result.number c.of-significant.result.zeros c.len.result c.powers-up.result.0 c.powers-up.result.1 (Some c.in-Some.millionths)
    of.digits (record { number_is = of.number; zeros_are = of.zeros }) of.few c.len.ensures (omega arith) c.powers-up.ensures
    (c.in-Some.ensures _ of.digits of.number of.zeros)
    ∙ ap (λ n. quota_of_numeral (Ok n)) c.self.view_is

pub returns-in-None-clause-value : goal.returns-in-None-clause-value
returns-in-None-clause-value c =
    let of = c.of-significant.ensures in
    value_is (record { whole = c.self.inside.whole; decimals = c.self.inside.decimals; exponent = c.self.inside.exponent })
    c.of-significant.result.number c.of-significant.result.zeros c.len.result c.powers-up.result.0 c.powers-up.result.1 None
    of.digits (record { number_is = of.number; zeros_are = of.zeros }) of.few c.len.ensures (omega arith) c.powers-up.ensures
    (c.in-None.ensures _ of.digits of.number of.zeros)
    ∙ ap (λ n. quota_of_numeral (Ok n)) c.self.view_is
