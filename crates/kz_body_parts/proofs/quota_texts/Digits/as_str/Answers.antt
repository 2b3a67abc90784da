use Rattle.kz_laws_values.proofs.QuotaTexts.{digits_are_text}
use Rattle.kz_body_parts.proofs.quota_texts.Digits.as_str.Goals as goal

pub unreachable-requires : goal.unreachable-requires
unreachable-requires c = c.in-Err.ensures.cases.0 (digits_are_text c.self.inside.text.now c.self.invariant)
