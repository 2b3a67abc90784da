use Rattle.std.proofs.Common.{ap, ◌∙◌}
use Rattle.kz_counted_view.specs.Counting.{limit_of_counts}
use Rattle.kz_counted_view.proofs.Covered.{limit_is}
use Rattle.kz_counted_view.proofs.limits.passed_limit.Goals as goal

pub returns : goal.returns
returns c = λ znodes is. c.limit_of_counts.ensures ∙ ap limit_of_counts is ∙ limit_is znodes
