use Rattle.std.proofs.Common.{◌≡◌, ◌≤◌, ◌+◌, ◌++◌, drop, map}
use Rattle.kz_types.specs.Order.{bytes_cmp}
use Rattle.kz_types.specs.Covering.{at_keys}
use Rattle.kz_spec_data.specs.Tree.{path_of_rendered}
use Rattle.kz_writer.specs.PathLists.{path_of_spanned}
use Rattle.kz_writer.proofs.delta.znodes_at.Given as goal

abbrev pub invariant-loop-spanned : goal.invariant-loop-spanned
invariant-loop-spanned g l = (l.znodes.items ++ at_keys bytes_cmp path_of_rendered (map path_of_spanned (drop l.spanned-index l.paths)) (g.B.Bodies.znodes l.fn.bodies) ≡ at_keys bytes_cmp path_of_rendered (map path_of_spanned l.paths) (g.B.Bodies.znodes l.fn.bodies))
    × (g.B.Bodies.znodes l.bodies ≡ g.B.Bodies.znodes l.fn.bodies)
    × (g.B.Bodies.count l.fn.bodies ≤ g.B.Bodies.count l.bodies)
    × (g.B.Bodies.count l.bodies ≤ g.B.Bodies.count l.fn.bodies + l.spanned-index)
