-- Look-ups tell all of a metadata.
use Rattle.std.specs.Prelude.{◌≡◌, ℕ, true, ℤ, List}
use Rattle.kz_types.specs.declared.id.Id.{Id}
use Rattle.kz_types.specs.declared.key.EntityKey.{EntityKey}
use Rattle.kz_types.specs.Paths.{is_legal}
use Rattle.kz_spec_data.specs.Metadata.{Image, topic_id_of, partition_of, scram_of, acl_of}
use Rattle.kz_spec_data.specs.InOrder.{IsInOrder}
use Rattle.kz_laws_znodes.specs.Words.{broker_of, member_of, quota_of}

-- Each look-up answers the same of both.
pub record AnswerAlike (i j : Image) : Type 0 where
  pub brokers : (id : ℤ) → broker_of id i ≡ broker_of id j
  pub acls : (id : Id) → acl_of id i ≡ acl_of id j
  pub next_producer : i.next_producer ≡ j.next_producer
  pub state : i.state ≡ j.state
  pub members : (kind : ℤ) (name member : List ℕ) → member_of kind name member i ≡ member_of kind name member j
  pub scrams : (name : List ℕ) (mechanism : ℤ) → scram_of name mechanism i ≡ scram_of name mechanism j
  pub quotas : (entity : EntityKey) (quota : List ℕ) → is_legal entity ≡ true → quota_of entity quota i ≡ quota_of entity quota j
  pub topic_ids : (name : List ℕ) → topic_id_of name i ≡ topic_id_of name j
  pub partitions : (id : Id) (number : ℤ) → partition_of id number i ≡ partition_of id number j

-- Two metadata in order of which each look-up answers the same are one.
abbrev pub AlikeAreOne : Type 0
AlikeAreOne = (i j : Image) → IsInOrder i → IsInOrder j → AnswerAlike i j → i ≡ j
