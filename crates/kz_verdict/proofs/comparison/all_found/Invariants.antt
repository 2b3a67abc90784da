use Rattle.std.proofs.Common.{◌≡◌, ◌++◌, length, map}
use Rattle.kz_types.specs.Order.{bytes_cmp}
use Rattle.kz_types.specs.Ordered.{all_put}
use Rattle.kz_spec_data.specs.Tree.{path_of_rendered}
use Rattle.kz_verdict.specs.Agreement.{paths_from, unmarked}
use Rattle.kz_verdict.proofs.comparison.all_found.Given as goal

abbrev pub invariant-loop-path : goal.invariant-loop-path
invariant-loop-path l =
    l.found.items ++ map (unmarked l.area l.rendering) (paths_from l.area l.rendering l.at)
    ≡ map (unmarked l.area l.rendering) (map path_of_rendered (all_put bytes_cmp path_of_rendered l.rendering l.area))

abbrev pub decreases-loop-path : goal.decreases-loop-path
decreases-loop-path l = length (paths_from l.area l.rendering l.at)
