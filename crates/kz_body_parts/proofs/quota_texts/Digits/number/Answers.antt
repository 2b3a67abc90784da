use Rattle.kz_laws_values.proofs.QuotaScales.{next_digit}
use Rattle.kz_body_parts.proofs.quota_texts.Digits.number.Goals as goal

pub loop-at-preserved : goal.loop-at-preserved
loop-at-preserved c =
    next_digit c.self.inside.text.now 100000000000000000000 c.loop-at.at c.loop-at.number c.min-number.result c.self.invariant c.loop-at-test.true c.loop-at.invariant c.min-number.ensures
