use Rattle.kz_laws_znodes.proofs.HeldStays.{topic_configured_held}
use Rattle.kz_image.proofs.image.Image.configure_topic.Goals as goal

pub invariant_of-self-2 : goal.invariant_of-self-2
invariant_of-self-2 c = rw c.in_ok-configure.ensures.ok (topic_configured_held _ c.self.invariant c.args.change.now c.held_config_is_writable.ensures c.requires)
