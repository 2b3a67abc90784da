use Rattle.kz_types.proofs.Covering.{covered_difference}
use Rattle.kz_types.proofs.ordered.covered_difference.Goals as goal

pub returns : goal.returns
returns g c = λ cmp key same o d. covered_difference o key same d
