use Rattle.kz_spec_data.specs.Metadata.{topic_id_of, topic_name_of, partition_of}
use Rattle.kz_laws_znodes.specs.Words.{topic_id_word, topic_name_word, partition_word}
use Rattle.kz_laws_znodes.proofs.Steps.{is_said}
use Rattle.kz_laws_znodes.proofs.ImageTopics.{topic_id_step, topic_name_step, partition_step}
use Rattle.kz_laws_znodes.proofs.images.topics_are_said.Goals as goal

pub returns-clause-id : goal.returns-clause-id
returns-clause-id c name = is_said (topic_id_of name) (λ epoch. topic_id_word name) (topic_id_step name)

pub returns-clause-name : goal.returns-clause-name
returns-clause-name c id = is_said (topic_name_of id) (λ epoch. topic_name_word id) (topic_name_step id)

pub returns-clause-partition : goal.returns-clause-partition
returns-clause-partition c id number = is_said (partition_of id number) (λ epoch. partition_word epoch id number) (partition_step id number)
