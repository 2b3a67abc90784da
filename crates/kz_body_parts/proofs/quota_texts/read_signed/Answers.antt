use Rattle.std.proofs.Common.{◌≡◌, Ok, Err, subst, sym}
use Rattle.std.specs.Prelude.{MatchResult}
use Rattle.kz_laws_values.proofs.QuotaNumerals.{no_sign}
use Rattle.kz_body_parts.proofs.quota_texts.read_signed.Goals as goal

pub returns : goal.returns
returns c = λ whole decimals.
    subst (λ r. MatchResult c.read_exponent-2.result (λ exponent. r ≡ Ok (record { whole = whole; decimals = decimals; exponent = exponent })) (λ fault. r ≡ Err fault))
    (sym (no_sign whole decimals c.args.at c.args.text.now c.in-Some.rest.now c.in-Some.sign.now c.in-Some.ensures.cases.0 c.if-sign-eq43.false c.if-sign-eq45.false))
    (c.read_exponent-2.ensures whole decimals)
