use Rattle.std.proofs.Common.{sym, ◌∙◌, subst}
use Rattle.kz_image.specs.Names.{AreNames}
use Rattle.kz_image.proofs.TopicNames.{with_name, no_name}
use Rattle.kz_image.proofs.topics.Topics.with_id.Goals as goal

pub returns-in-Some : goal.returns-in-Some
returns-in-Some c =
    let names = c.self.inside.names in
    let topics = c.args.self.now in
    let are : AreNames names topics = subst (AreNames names) c.self.view_is c.self.invariant in
    c.named_if.ensures ∙ with_name c.args.id names topics are c.in-Some.named.now c.requires (sym c.in-Some.ensures)

pub returns-in-None : goal.returns-in-None
returns-in-None c =
    let names = c.self.inside.names in
    let topics = c.args.self.now in
    let are : AreNames names topics = subst (AreNames names) c.self.view_is c.self.invariant in
    sym (no_name c.args.id names topics are (sym c.in-None.ensures))
