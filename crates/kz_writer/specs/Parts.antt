-- The two parts of a difference, an item at a time.
use Rattle.std.specs.Prelude.{List, map}
use Rattle.kz_types.specs.declared.tree.Op.{Op}
use Rattle.kz_types.specs.declared.tree.Rendered.{Rendered}
use Rattle.kz_types.specs.Order.{bytes_cmp}
use Rattle.kz_types.specs.Ordered.{find}
use Rattle.kz_types.specs.Difference.{drops, makes, drop_unless, make_or_alter}
use Rattle.kz_spec_data.specs.Tree.{path_of_rendered}
use Rattle.kz_spec_data.specs.Difference.{op_of, same_body}

-- the delete of a znode that isn't wanted
abbrev pub delete_of : Rendered → List Rendered → List Op
delete_of r want = map op_of (drop_unless r.path (find bytes_cmp path_of_rendered r.path want))

-- the create or the set of a znode that is absent or has another body
abbrev pub put_of : List Rendered → Rendered → List Op
put_of have r = map op_of (make_or_alter same_body r (find bytes_cmp path_of_rendered r.path have))

abbrev pub deletes : List Rendered → List Rendered → List Op
deletes have want = map op_of (drops bytes_cmp path_of_rendered have want)

abbrev pub puts : List Rendered → List Rendered → List Op
puts have want = map op_of (makes bytes_cmp path_of_rendered same_body have want)
