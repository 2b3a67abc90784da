-- What is true of the znodes of every list of znodes.
use Rattle.std.specs.Prelude.{List}
use Rattle.kz_types.specs.declared.tree.Row.{Row}
use Rattle.kz_types.specs.Order.{bytes_cmp}
use Rattle.kz_types.specs.Ordered.{Rises}
use Rattle.kz_spec_data.specs.Tree.{path_of_row}

-- the znodes stand by rising path, each path once
abbrev pub AreRows : List Row → Type 0
AreRows rows = Rises bytes_cmp path_of_row rows
