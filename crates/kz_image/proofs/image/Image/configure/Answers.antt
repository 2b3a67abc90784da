use Rattle.std.proofs.Common.{◌≡◌, false, rules}
use Rattle.std.specs.Prelude.{pos}
use Rattle.std.specs.Ordering.{int_eq}
use Rattle.kz_laws_znodes.proofs.KeptImages.{member_named, resource_named}
use Rattle.kz_image.proofs.image.Image.configure.Goals as goal

pub configure_topic-requires : goal.configure_topic-requires
configure_topic-requires c = member_named c.args.self.now c.args.change.now c.requires

pub configure_broker-requires-clause-resource : goal.configure_broker-requires-clause-resource
configure_broker-requires-clause-resource c =
    let other : int_eq c.args.change.now.resource_type (pos 2) ≡ false = search rules in
    resource_named c.args.self.now c.args.change.now c.requires other

pub configure_broker-requires-clause-member : goal.configure_broker-requires-clause-member
configure_broker-requires-clause-member c = member_named c.args.self.now c.args.change.now c.requires
