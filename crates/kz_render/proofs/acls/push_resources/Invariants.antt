use Rattle.std.proofs.Common.{◌≡◌, ◌++◌, map, take}
use Rattle.kz_render.specs.Gathered.{resource_znode}
use Rattle.kz_render.proofs.acls.push_resources.Given as goal

abbrev pub invariant-loop-resource : goal.invariant-loop-resource
invariant-loop-resource l = l.znodes.items ≡ l.fn.znodes.items ++ map resource_znode (take l.resource-index l.resources)
