use Rattle.std.proofs.Common.{◌∙◌, ap, map, subst, sym}
use Rattle.kz_types.specs.Order.{bytes_cmp}
use Rattle.kz_types.specs.Ordered.{Rises}
use Rattle.kz_spec_data.specs.Tree.{path_of_rendered}
use Rattle.kz_spec_data.specs.Rendering.{bare}
use Rattle.kz_render.proofs.BareRoots.{bare_roots_rise}
use Rattle.kz_render.proofs.roots.bare_roots.Goals as goal

pub returns-clause-rising : goal.returns-clause-rising
returns-clause-rising c =
    subst (Rises bytes_cmp path_of_rendered) (sym (c.in_ok-znodes.ensures ∙ ap (map bare) c.in_ok-paths.ensures.paths)) bare_roots_rise
