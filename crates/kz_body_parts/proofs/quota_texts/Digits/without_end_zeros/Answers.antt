use Rattle.std.proofs.Common.{◌≡◌, ◌-◌, ◌<◌, get_or, sym, ap, ◌∙◌, arith}
use Rattle.kz_spec_data.specs.Quotas.{without_end_zeros}
use Rattle.kz_laws_values.proofs.QuotaScales.{one_zero_less, no_zero_left}
use Rattle.kz_laws_values.proofs.QuotaTexts.{first_are_digits}
use Rattle.kz_body_parts.proofs.quota_texts.Digits.without_end_zeros.Goals as goal
use Rattle.kz_body_parts.proofs.quota_texts.Digits.without_end_zeros.Goals.{then-loop-count-test+else-self-count-eq48, else-loop-count-test}

pub loop-count-preserved : goal.loop-count-preserved
loop-count-preserved c = record {
  within = let h = c.loop-count.invariant.within in omega arith;
  same = c.loop-count.invariant.same
      ∙ one_zero_less c.self.inside.text.now c.loop-count.count (c.loop-count.count - 1) (omega arith) c.loop-count.invariant.within c.if-self-count-eq48.true;
}

pub returns : goal.returns
returns c =
    let other : 0 < c.loop-count.count → get_or c.self.inside.text.now (c.loop-count.count - 1) 0 ≡ 48 → ⊥ = elim c.loop-count-test.branch [
      | then-loop-count-test+else-self-count-eq48 w ↦ λ _. w.if-self-count-eq48.false
      | else-loop-count-test w ↦ λ some. let none = w.loop-count-test.false in absurd (omega arith)
    ] in
    sym (ap without_end_zeros (sym c.self.view_is) ∙ c.loop-count.invariant.same ∙ no_zero_left c.self.inside.text.now c.loop-count.count c.loop-count.invariant.within other)

pub invariant_of-result : goal.invariant_of-result
invariant_of-result c = first_are_digits c.self.inside.text.now c.loop-count.count c.self.invariant
