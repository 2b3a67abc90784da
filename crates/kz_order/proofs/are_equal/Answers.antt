use Rattle.std.proofs.Common.{◌∙◌, ap}
use Rattle.std.specs.Ordering.{is_eq}
use Rattle.std.proofs.lemmas.Map.Text.{is_eq-slice_cmp}
use Rattle.kz_order.proofs.are_equal.Goals as goal

pub returns-then-one-other : goal.returns-then-one-other
returns-then-one-other c = c.is_eq.ensures ∙ ap is_eq c.compare.ensures ∙ is_eq-slice_cmp c.args.one.now c.args.other.now
