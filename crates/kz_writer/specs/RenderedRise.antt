-- The paths of a rendering rise.
use Rattle.std.specs.Prelude.{map}
use Rattle.kz_types.specs.Paths.{roots}
use Rattle.kz_types.specs.Order.{bytes_cmp}
use Rattle.kz_types.specs.Ordered.{Rises}
use Rattle.kz_types.proofs.Order.{bytes_order}
use Rattle.kz_types.proofs.Puts.{Rises-all_put}
use Rattle.kz_spec_data.specs.Tree.{path_of_rendered}
use Rattle.kz_spec_data.specs.Metadata.{Image}
use Rattle.kz_spec_data.specs.Rendering.{bare, entity_znodes, render}
use Rattle.kz_render.proofs.BareRoots.{bare_roots_rise}

-- They are put in order, one after another.
pub render_rises : (i : Image) → Rises bytes_cmp path_of_rendered (render i)
unfolding render
render_rises i = Rises-all_put bytes_order path_of_rendered (entity_znodes i) (map bare roots) bare_roots_rise
