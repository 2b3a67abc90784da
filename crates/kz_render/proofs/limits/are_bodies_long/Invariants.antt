use Rattle.std.proofs.Common.{◌≡◌, ◌+◌, take, length}
use Rattle.std.specs.List.{sum_by}
use Rattle.kz_types.specs.declared.limits.TheConstants.{MAX_BODIES_BYTES}
use Rattle.kz_types.specs.declared.tree.Rendered.{Rendered}
use Rattle.kz_render.proofs.limits.are_bodies_long.Given as goal

abbrev pub invariant-loop-znode : goal.invariant-loop-znode
invariant-loop-znode l = l.left + sum_by (λ (znode : Rendered). length znode.body) (take l.znode-index l.znodes) ≡ MAX_BODIES_BYTES
