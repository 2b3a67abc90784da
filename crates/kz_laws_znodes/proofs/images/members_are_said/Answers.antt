use Rattle.std.specs.Prelude.{pos}
use Rattle.kz_spec_data.specs.Metadata.{scram_of}
use Rattle.kz_laws_znodes.specs.Words.{member_of, quota_of, broker_member_word, scram_word, quota_word}
use Rattle.kz_laws_znodes.proofs.Steps.{is_said}
use Rattle.kz_laws_znodes.proofs.Changes.{broker_member_step, scram_step, quota_step}
use Rattle.kz_laws_znodes.proofs.images.members_are_said.Goals as goal

pub returns-clause-member : goal.returns-clause-member
returns-clause-member c name member = is_said (member_of (pos 4) name member) (λ epoch. broker_member_word name member) (broker_member_step name member)

pub returns-clause-scram : goal.returns-clause-scram
returns-clause-scram c name mechanism = is_said (scram_of name mechanism) (λ epoch. scram_word name mechanism) (scram_step name mechanism)

pub returns-clause-quota : goal.returns-clause-quota
returns-clause-quota c entity quota legal = is_said (quota_of entity quota) (λ epoch. quota_word entity quota) (quota_step entity quota legal)
