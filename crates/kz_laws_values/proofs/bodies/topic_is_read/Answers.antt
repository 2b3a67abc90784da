use Rattle.kz_laws_values.proofs.Topics.{topic_is_read}
use Rattle.kz_laws_values.proofs.bodies.topic_is_read.Goals as goal

pub returns : goal.returns
returns c = topic_is_read
