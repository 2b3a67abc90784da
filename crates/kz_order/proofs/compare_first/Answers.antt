use Rattle.std.proofs.Common.{sym, ◌∙◌, ap, drop, arith}
use Rattle.std.specs.Ordering.{nat_cmp, ordering_then}
use Rattle.kz_types.specs.Order.{bytes_cmp}
use Rattle.kz_order.proofs.Words.{by_eight}
use Rattle.kz_order.proofs.compare_first.Goals as goal

pub returns : goal.returns
returns c =
    let one = c.args.one.now in
    let other = c.args.other.now in
    let said = c.cmp.ensures ∙ (λ i. nat_cmp (c.first_number-number.ensures i) (c.first_number.ensures i)) in
    by_eight one other c.requires.one c.requires.other (λ i. let fits = c.type_inv.one i in omega (arith, fits)) (λ i. let fits = c.type_inv.other i in omega (arith, fits))
    ∙ ap (λ o. ordering_then o (bytes_cmp (drop 8 one) (drop 8 other))) (sym said)
