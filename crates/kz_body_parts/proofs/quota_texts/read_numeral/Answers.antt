use Rattle.std.proofs.Common.{length, ap, sym, ◌∙◌, arith}
use Rattle.std.proofs.lemmas.Result.{err_from_is_err_and}
use Rattle.kz_spec_data.specs.Quotas.{after_decimals}
use Rattle.kz_laws_values.proofs.QuotaNumerals.{no_numeral, numeral_goes_on}
use Rattle.kz_body_parts.proofs.quota_texts.read_numeral.Goals as goal

pub returns-then-len-eq0 : goal.returns-then-len-eq0
returns-then-len-eq0 c = sym (no_numeral c.args.text.now (ap length (sym c.split_digits-whole.ensures.digits) ∙ sym c.len.ensures ∙ c.if-len-eq0.true))

pub returns-in_err-decimals : goal.returns-in_err-decimals
returns-in_err-decimals c =
    let p = err_from_is_err_and c.from_residual.result c.from_residual.ensures.1 in
    rw (p.1, p.2) (sym (numeral_goes_on c.args.text.now _ _ c.len-2.result c.len.result c.split_digits-whole.ensures.digits c.split_digits-whole.ensures.after c.len-2.ensures c.len.ensures c.if-len-eq0.false
    ∙ c.in_err-decimals.ensures c.split_digits-whole.result.0))

pub overflow_sub-text : goal.overflow_sub-text
overflow_sub-text c = omega (arith, (c.in_ok-decimals.ensures c.split_digits-whole.result.0).0)

pub returns-in_err-exponent : goal.returns-in_err-exponent
returns-in_err-exponent c =
    let p = err_from_is_err_and c.from_residual-in_err-exponent.result c.from_residual-in_err-exponent.ensures.1 in
    let decimals = c.in_ok-decimals.ensures c.split_digits-whole.result.0 in
    rw (p.1, p.2) (sym (numeral_goes_on c.args.text.now _ _ c.len-2.result c.len.result c.split_digits-whole.ensures.digits c.split_digits-whole.ensures.after c.len-2.ensures c.len.ensures c.if-len-eq0.false
    ∙ decimals.1
    ∙ ap (λ k. after_decimals c.split_digits-whole.result.0 c.in_ok-decimals.decimals k c.in_ok-decimals.after.now) (omega (arith, c.split_digits-whole.ensures.lengths, c.len-2.ensures))
    ∙ c.in_err-exponent.ensures c.split_digits-whole.result.0 c.in_ok-decimals.decimals))

pub returns : goal.returns
returns c =
    let decimals = c.in_ok-decimals.ensures c.split_digits-whole.result.0 in
    sym (numeral_goes_on c.args.text.now _ _ c.len-2.result c.len.result c.split_digits-whole.ensures.digits c.split_digits-whole.ensures.after c.len-2.ensures c.len.ensures c.if-len-eq0.false
    ∙ decimals.1
    ∙ ap (λ k. after_decimals c.split_digits-whole.result.0 c.in_ok-decimals.decimals k c.in_ok-decimals.after.now) (omega (arith, c.split_digits-whole.ensures.lengths, c.len-2.ensures))
    ∙ c.in_ok-exponent.ensures c.split_digits-whole.result.0 c.in_ok-decimals.decimals)
