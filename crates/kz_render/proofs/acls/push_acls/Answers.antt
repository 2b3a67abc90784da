use Rattle.std.proofs.Common.{◌≡◌, ◌++◌, map, rules}
use Rattle.kz_render.specs.Gathered.{resource_znode}
use Rattle.kz_render.proofs.Gathered.{resources_put_alike}
use Rattle.kz_render.proofs.acls.push_acls.Goals as goal

pub returns : goal.returns
returns c =
    let added : c.push_resources.new.znodes.items ≡ c.args.znodes.now.items ++ map resource_znode c.in_ok-resources.resources.items = search rules in
    resources_put_alike c.args.entries.now c.in_ok-resources.resources.items c.args.znodes.now.items c.push_resources.new.znodes.items c.in_ok-resources.ensures.rises c.in_ok-resources.ensures.found added
