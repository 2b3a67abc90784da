use Rattle.std.proofs.Common.{◌≡◌, ◌++◌, length, map}
use Rattle.std.specs.Vec.Iter.{into_iter_items, into_iter_len}
use Rattle.kz_spec_data.specs.Rendering.{bare}
use Rattle.kz_render.proofs.roots.bare_znodes.Given as goal

abbrev pub invariant-loop-path : goal.invariant-loop-path
invariant-loop-path l = (l.yielded ++ into_iter_items l.path-iterator ≡ l.fn.paths.items)
    × (into_iter_len l.path-iterator ≡ length (into_iter_items l.path-iterator))
    × (l.znodes.items ≡ map bare l.yielded)
