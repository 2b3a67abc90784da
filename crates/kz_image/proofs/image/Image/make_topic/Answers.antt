use Rattle.std.proofs.Common.{◌≡◌, None, subst, sym}
use Rattle.kz_types.specs.declared.record.MetaRecord.TheVariants as meta
use Rattle.kz_spec_data.specs.ImageRules.{broken_rule}
use Rattle.kz_laws_znodes.proofs.HeldStays.{held_at_zero}
use Rattle.kz_laws_znodes.proofs.ImageTopics.{no_topic}
use Rattle.kz_image.proofs.image.Image.make_topic.Goals as goal

pub make-requires-clause-new_name : goal.make-requires-clause-new_name
make-requires-clause-new_name c = (no_topic _ c.self.invariant.order c.args.change.now (subst (λ i. broken_rule i (meta.Topic c.args.change.now) ≡ None) (sym c.self.view_is) c.requires)).0

pub make-requires-clause-new_id : goal.make-requires-clause-new_id
make-requires-clause-new_id c = (no_topic _ c.self.invariant.order c.args.change.now (subst (λ i. broken_rule i (meta.Topic c.args.change.now) ≡ None) (sym c.self.view_is) c.requires)).1

pub invariant_of-self-2 : goal.invariant_of-self-2
invariant_of-self-2 c = rw c.in_ok-make.ensures.ok (held_at_zero _ c.self.invariant (meta.Topic c.args.change.now) c.held_topic_is_writable.ensures (subst (λ i. broken_rule i (meta.Topic c.args.change.now) ≡ None) (sym c.self.view_is) c.requires))
