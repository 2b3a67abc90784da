use Rattle.kz_laws_znodes.proofs.HeldStays.{topic_removed_held}
use Rattle.kz_image.proofs.image.Image.remove_topic.Goals as goal

pub invariant_of-self-2 : goal.invariant_of-self-2
invariant_of-self-2 c = rw c.in_ok-remove.ensures.ok (topic_removed_held _ c.self.invariant c.args.topic_id)
