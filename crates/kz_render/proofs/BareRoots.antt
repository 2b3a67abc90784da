-- The roots rise.
use Rattle.std.proofs.Common.{map, rules}
use Rattle.kz_types.specs.Paths.{roots}
use Rattle.kz_types.proofs.OnLiterals.{values_on_literals}
use Rattle.kz_types.specs.Order.{bytes_cmp}
use Rattle.kz_types.specs.Ordered.{Rises}
use Rattle.kz_spec_data.specs.Tree.{path_of_rendered}
use Rattle.kz_spec_data.specs.Rendering.{bare}

pub bare_roots_rise : Rises bytes_cmp path_of_rendered (map bare roots)
unfolding values_on_literals
bare_roots_rise = search rules
