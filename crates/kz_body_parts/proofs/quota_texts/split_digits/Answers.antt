use Rattle.std.proofs.Common.{take, arith, ap, ◌∙◌}
use Rattle.std.specs.List.{list_all}
use Rattle.std.proofs.lemmas.List.Sums.{prefix_len-le-length}
use Rattle.kz_types.specs.Numbers.{is_digit}
use Rattle.kz_laws_values.proofs.QuotaNumerals.{take_while_passes}
use Rattle.kz_body_parts.proofs.quota_texts.split_digits.Goals as goal

pub split_at-requires : goal.split_at-requires
split_at-requires c = omega (arith, prefix_len-le-length is_digit c.args.text.now, c.count_digits.ensures)

pub invariant_of-result : goal.invariant_of-result
invariant_of-result c =
    ap (list_all is_digit) (c.split_at.ensures.front ∙ ap (λ n. take n c.args.text.now) c.count_digits.ensures) ∙ take_while_passes is_digit c.args.text.now
