-- The metadata holds of each thing what the accepted records last say of it.
use Rattle.std.specs.Prelude.{◌≡◌, ℕ, true, ℤ, pos, List}
use Rattle.kz_types.specs.declared.id.Id.{Id}
use Rattle.kz_types.specs.declared.key.EntityKey.{EntityKey}
use Rattle.kz_types.specs.declared.record.MetaRecord.{MetaRecord}
use Rattle.kz_types.specs.Paths.{is_legal}
use Rattle.kz_spec_data.specs.Metadata.{Image, empty_image, topic_id_of, topic_name_of, partition_of, scram_of, acl_of}
use Rattle.kz_spec_data.specs.InOrder.{IsInOrder}
use Rattle.kz_spec_data.specs.Image.{image_with, all_applied}
use Rattle.kz_spec_data.specs.Settlement.{counting_records}
use Rattle.kz_spec_data.specs.Log.{Log, entries, image_at}
use Rattle.kz_laws_znodes.specs.Said.{acceptable_records, value_by_records, accepted_entries, said_by_entries}
use Rattle.kz_laws_znodes.specs.Words.{broker_of, member_of, quota_of, topic_member_of, broker_word, acl_word, producer_word, state_word, broker_member_word, scram_word, quota_word, topic_id_word, topic_name_word, partition_word, topic_member_word}

-- ---- order

-- The empty metadata is in order.
abbrev pub EmptyIsInOrder : Type 0
EmptyIsInOrder = IsInOrder empty_image

-- A metadata in order stays so under every record.
abbrev pub AppliedKeepsOrder : Type 0
AppliedKeepsOrder = (epoch : ℤ) (r : MetaRecord) (i : Image) → IsInOrder i → IsInOrder (image_with epoch r i)

-- And under many.
abbrev pub AllAppliedKeepsOrder : Type 0
AllAppliedKeepsOrder = (epoch : ℤ) (records : List MetaRecord) (i : Image) → IsInOrder i → IsInOrder (all_applied epoch records i)

-- ---- what is looked up

-- What is looked up in the metadata is what the accepted records say by this word, from what was looked up before them: after
-- any records of an epoch, and at any offset of a log after those that count there.
pub record IsWhatIsSaid {V : Type 0} (look : Image → V) (word : ℤ → MetaRecord → V → V) : Type 0 where
  pub after_records : (epoch : ℤ) (records : List MetaRecord) (i : Image) → IsInOrder i
      → look (all_applied epoch records i) ≡ value_by_records (word epoch) (acceptable_records epoch records i) (look i)
  pub in_logs : (l : Log) (at : ℤ) → IsInOrder l.base_image
      → look (image_at l at) ≡ said_by_entries word (accepted_entries (counting_records (entries l.batches) at) l.base_image) (look l.base_image)

-- The broker of an id.
abbrev pub BrokerIsSaid : Type 0
BrokerIsSaid = (id : ℤ) → IsWhatIsSaid (broker_of id) (λ epoch. broker_word id)

-- The access control entry of an id.
abbrev pub AclIsSaid : Type 0
AclIsSaid = (id : Id) → IsWhatIsSaid (acl_of id) (λ epoch. acl_word id)

-- The next producer id.
abbrev pub ProducerIsSaid : Type 0
ProducerIsSaid = IsWhatIsSaid (λ (i : Image). i.next_producer) (λ epoch. producer_word)

-- The state of the migration.
abbrev pub StateIsSaid : Type 0
StateIsSaid = IsWhatIsSaid (λ (i : Image). i.state) (λ epoch. state_word)

-- A member of a broker's configuration, or, where the name is empty, of that of all.
abbrev pub BrokerMemberIsSaid : Type 0
BrokerMemberIsSaid = (name member : List ℕ) → IsWhatIsSaid (member_of (pos 4) name member) (λ epoch. broker_member_word name member)

-- A user's credential by a mechanism.
abbrev pub ScramIsSaid : Type 0
ScramIsSaid = (name : List ℕ) (mechanism : ℤ) → IsWhatIsSaid (scram_of name mechanism) (λ epoch. scram_word name mechanism)

-- An entity's quota by its key.
abbrev pub QuotaIsSaid : Type 0
QuotaIsSaid = (entity : EntityKey) (quota : List ℕ) → is_legal entity ≡ true → IsWhatIsSaid (quota_of entity quota) (λ epoch. quota_word entity quota)

-- The id of the topic of a name.
abbrev pub TopicIdIsSaid : Type 0
TopicIdIsSaid = (name : List ℕ) → IsWhatIsSaid (topic_id_of name) (λ epoch. topic_id_word name)

-- The name of the topic of an id.
abbrev pub TopicNameIsSaid : Type 0
TopicNameIsSaid = (id : Id) → IsWhatIsSaid (topic_name_of id) (λ epoch. topic_name_word id)

-- A partition by the id of its topic and its number.
abbrev pub PartitionIsSaid : Type 0
PartitionIsSaid = (id : Id) (number : ℤ) → IsWhatIsSaid (partition_of id number) (λ epoch. partition_word epoch id number)

-- The topic of a name with a member of its configuration.
abbrev pub TopicMemberIsSaid : Type 0
TopicMemberIsSaid = (name member : List ℕ) → IsWhatIsSaid (topic_member_of name member) (λ epoch. topic_member_word name member)
