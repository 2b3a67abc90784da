use Rattle.std.proofs.Common.{◌≡◌, ◌++◌, map, rules, subst}
use Rattle.kz_spec_data.specs.Rendering.{acl_znode, producer_znodes}
use Rattle.kz_render.specs.Gathered.{PutAlike}
use Rattle.kz_render.proofs.Entities.{entities_alike}
use Rattle.kz_render.proofs.znodes.push_entities.Goals as goal

pub returns : goal.returns
returns c =
    let i = c.args.image.now in
    let old = c.args.znodes.now.items in
    let first = c.push_named.new.znodes.items in
    let second = c.push_acls.new.znodes.items in
    let two : PutAlike second (first ++ map (acl_znode i.acls) i.acls) = subst (λ acls. PutAlike second (first ++ map (acl_znode acls) acls)) c.acls.ensures.acls c.in_ok-push_acls.ensures in
    let three : c.push_producer.new.znodes.items ≡ second ++ producer_znodes i.next_producer = search rules in
    entities_alike i old first second c.push_producer.new.znodes.items c.in_ok-push_named.ensures two three
