use Rattle.std.proofs.Common.{◌∙◌, ap, take, length}
use Rattle.std.specs.Ordering.{is_eq}
use Rattle.std.proofs.lemmas.Map.Text.{is_eq-slice_cmp}
use Rattle.kz_order.proofs.begins_with.Goals as goal

pub returns-then-front-text : goal.returns-then-front-text
returns-then-front-text c = c.is_eq.ensures ∙ ap is_eq c.compare.ensures ∙ is_eq-slice_cmp c.args.front.now (take (length c.args.front.now) c.args.text.now)
