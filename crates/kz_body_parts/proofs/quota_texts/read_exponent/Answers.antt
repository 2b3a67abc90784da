use Rattle.std.proofs.Common.{Ok, neg_ℤ, pos, ap, sym, length, ◌∙◌}
use Rattle.std.specs.Prelude.{if◌then◌else◌}
use Rattle.std.proofs.lemmas.Bool.{eqb-true, eq-eqb, false≢true}
use Rattle.kz_types.specs.Numbers.{number_of}
use Rattle.kz_laws_values.proofs.QuotaNumerals.{exponent_is}
use Rattle.kz_body_parts.proofs.quota_texts.read_exponent.Goals as goal

pub returns : goal.returns
returns c = λ whole decimals.
    exponent_is whole decimals c.args.negative c.args.at c.args.text.now
    (λ none. false≢true (sym c.if-is_empty.false ∙ c.is_empty.ensures ∙ eq-eqb _ 0 none))
    (ap length (sym c.split_digits-digits.ensures.after) ∙ eqb-true _ 0 (sym c.is_empty-else-is_empty.ensures ∙ c.if-not-is_empty.false))
    ∙ (λ i. Ok (record { whole = whole; decimals = decimals; exponent = if c.args.negative then neg_ℤ (pos (number_of (sym c.split_digits-digits.ensures.digits i))) else pos (number_of (sym c.split_digits-digits.ensures.digits i)) }))
