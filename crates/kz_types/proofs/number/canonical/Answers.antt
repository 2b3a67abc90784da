use Rattle.std.proofs.Common.{◌∙◌, sym, arith}
use Rattle.kz_types.proofs.NumberLemmas.{canonical_empty, canonical_leading, canonical_of_digits}
use Rattle.kz_types.proofs.number.canonical.Goals as goal
use Rattle.kz_types.proofs.number.canonical.Goals.{else-text-gt1-via-then-text-gt1+else-text-eq48, else-text-gt1-via-else-text-gt1}

pub returns-then-text-lt1-clause-value : goal.returns-then-text-lt1-clause-value
returns-then-text-lt1-clause-value c = sym (canonical_empty c.args.text.now c.if-text-lt1.true)

pub returns-then-text-eq48-clause-value : goal.returns-then-text-eq48-clause-value
returns-then-text-eq48-clause-value c = sym (canonical_leading c.args.text.now c.if-text-gt1.true c.if-text-eq48.true)

pub returns-clause-value : goal.returns-clause-value
returns-clause-value c = elim c.else-text-gt1.branch [
  | else-text-gt1-via-then-text-gt1+else-text-eq48 w ↦
      c.digits_up_to.ensures.value ∙ sym (canonical_of_digits c.args.text.now c.if-text-lt1.false (λ more. w.if-text-eq48.false))
  | else-text-gt1-via-else-text-gt1 w ↦
      c.digits_up_to.ensures.value ∙ sym (canonical_of_digits c.args.text.now c.if-text-lt1.false (λ more zero. let h = w.if-text-gt1.false in absurd (omega arith)))
]
