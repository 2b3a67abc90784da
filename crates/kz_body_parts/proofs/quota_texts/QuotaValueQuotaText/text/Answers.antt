use Rattle.std.proofs.Common.{ap, ◌∙◌, w32, w64, to_z-of_z, arith, rules}
use Rattle.std.specs.Prelude.{nat_abs}
use Rattle.std.proofs.lemmas.Int.{ints}
use mir.Val.{SFits}
use Rattle.kz_spec_data.specs.Quotas.{without_end_zeros}
use Rattle.kz_laws_values.proofs.QuotaTexts.{plain_text, pointed_text, quota_restored}
use Rattle.kz_body_parts.proofs.quota_texts.QuotaValueQuotaText.text.Goals as goal

pub returns-in_err-format-clause-reads_back : goal.returns-in_err-format-clause-reads_back
returns-in_err-format-clause-reads_back c = quota_restored c.args.self.now c.requires (let fits : SFits w64 c.args.self.now.whole = search rules in omega (arith, ints, fits))

pub returns-then-micros-eq0-clause-text : goal.returns-then-micros-eq0-clause-text
returns-then-micros-eq0-clause-text c =
    c.from_string.ensures ∙ c.in_ok-format.ensures.ok ∙ plain_text c.args.self.now c.unsigned_abs-whole.result c.unsigned_abs-micros.result
    (c.unsigned_abs-whole.ensures.value ∙ ap nat_abs (let fits : SFits w64 c.args.self.now.whole = search rules in to_z-of_z fits))
    (c.unsigned_abs-micros.ensures.value ∙ ap nat_abs (let fits : SFits w32 c.args.self.now.micros = search rules in to_z-of_z fits))
    c.if-micros-eq0.true

pub returns-then-micros-eq0-clause-reads_back : goal.returns-then-micros-eq0-clause-reads_back
returns-then-micros-eq0-clause-reads_back c = quota_restored c.args.self.now c.requires (let fits : SFits w64 c.args.self.now.whole = search rules in omega (arith, ints, fits))

pub returns-in_err-format-2-clause-reads_back : goal.returns-in_err-format-2-clause-reads_back
returns-in_err-format-2-clause-reads_back c = quota_restored c.args.self.now c.requires (let fits : SFits w64 c.args.self.now.whole = search rules in omega (arith, ints, fits))

pub returns-clause-text : goal.returns-clause-text
returns-clause-text c =
    c.from_string-2.ensures ∙ c.in_ok-format-2.ensures.ok
    ∙ pointed_text c.args.self.now c.unsigned_abs-whole.result c.unsigned_abs-micros.result c.as_str-decimals.result.now
    (c.unsigned_abs-whole.ensures.value ∙ ap nat_abs (let fits : SFits w64 c.args.self.now.whole = search rules in to_z-of_z fits))
    (c.unsigned_abs-micros.ensures.value ∙ ap nat_abs (let fits : SFits w32 c.args.self.now.micros = search rules in to_z-of_z fits))
    c.if-micros-eq0.false
    (c.as_str-decimals.ensures ∙ c.without_end_zeros-decimals.ensures ∙ ap without_end_zeros c.six_digits-digits.ensures)

pub returns-clause-reads_back : goal.returns-clause-reads_back
returns-clause-reads_back c = quota_restored c.args.self.now c.requires (let fits : SFits w64 c.args.self.now.whole = search rules in omega (arith, ints, fits))
