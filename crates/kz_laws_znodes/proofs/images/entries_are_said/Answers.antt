use Rattle.kz_laws_znodes.specs.Words.{broker_of, broker_word, acl_word, producer_word, state_word}
use Rattle.kz_spec_data.specs.Metadata.{acl_of}
use Rattle.kz_laws_znodes.proofs.Steps.{is_said}
use Rattle.kz_laws_znodes.proofs.Entities.{broker_step, acl_step, next_of, producer_step, state_of, state_step}
use Rattle.kz_laws_znodes.proofs.images.entries_are_said.Goals as goal

pub returns-clause-broker : goal.returns-clause-broker
returns-clause-broker c id = is_said (broker_of id) (λ epoch. broker_word id) (broker_step id)

pub returns-clause-acl : goal.returns-clause-acl
returns-clause-acl c id = is_said (acl_of id) (λ epoch. acl_word id) (acl_step id)

pub returns-clause-producer : goal.returns-clause-producer
returns-clause-producer c = is_said next_of (λ epoch. producer_word) producer_step

pub returns-clause-state : goal.returns-clause-state
returns-clause-state c = is_said state_of (λ epoch. state_word) state_step
