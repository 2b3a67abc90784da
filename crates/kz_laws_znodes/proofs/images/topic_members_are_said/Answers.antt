use Rattle.kz_laws_znodes.proofs.TopicMembers.{topic_member_said}
use Rattle.kz_laws_znodes.proofs.images.topic_members_are_said.Goals as goal

pub returns : goal.returns
returns c = topic_member_said
