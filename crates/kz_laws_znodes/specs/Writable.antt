-- Metadata whose values are in the ranges of their types.
use Rattle.std.specs.Prelude.{◌≡◌, ⊤, ℕ, ◌≤◌, true, ℤ, pos, ◌≤ℤ◌, List, length, Option, Some, None, IfSome, All}
use Rattle.std.specs.Str.{is_utf8}
use Rattle.base64.specs.GeneralPurpose.{IsBytes}
use Rattle.kz_types.specs.declared.bodies.Pair.{Pair}
use Rattle.kz_types.specs.declared.bodies.QuotaRow.{QuotaRow}
use Rattle.kz_types.specs.declared.bodies.ScramPair.{ScramPair}
use Rattle.kz_types.specs.declared.image.Configuration.{Configuration}
use Rattle.kz_types.specs.declared.image.TopicEntry.{TopicEntry}
use Rattle.kz_types.specs.declared.image.PartitionEntry.{PartitionEntry}
use Rattle.kz_types.specs.declared.image.QuotaEntry.{QuotaEntry}
use Rattle.kz_types.specs.declared.image.ScramEntry.{ScramEntry}
use Rattle.kz_types.specs.declared.image.AclEntry.{AclEntry}
use Rattle.kz_types.specs.declared.key.EntityKey.{EntityKey}
use Rattle.kz_types.specs.declared.record.MetaRecord.{MetaRecord}
use Rattle.kz_types.specs.declared.record.MetaRecord.TheVariants as meta
use Rattle.kz_types.specs.declared.record.QuotaEntity.{QuotaEntity}
use Rattle.kz_types.specs.Paths.{key_of}
use Rattle.kz_spec_data.specs.ImageRules.{broken_rule}
use Rattle.kz_spec_data.specs.InOrder.{IsInOrder}
use Rattle.kz_spec_data.specs.Image.{Image, empty_image, effect}

-- bytes that are a text
abbrev pub IsText : List ℕ → Type 0
IsText bytes = is_utf8 bytes ≡ true

-- a number of 32 bits, as far as it isn't negative
abbrev pub FitsInt : ℤ → Type 0
FitsInt n = n ≤ℤ pos 2147483647

-- The numbers of a partition, those of its brokers among them, fit 32 bits.
pub record IsPartitionWritable (p : PartitionEntry) : Type 0 where
  pub number : FitsInt p.number
  pub brokers : All FitsInt p.row.replicas
  pub epoch : FitsInt p.row.controller_epoch

-- The name and the value of a member are texts.
abbrev pub IsMemberWritable : Pair → Type 0
IsMemberWritable p = IsText p.name × IsText p.value

-- A topic's id has 16 bytes, and its name and members are texts.
pub record IsTopicWritable (t : TopicEntry) : Type 0 where
  pub name : IsText t.name
  pub bytes : IsBytes t.id.bytes
  pub sixteen : length t.id.bytes ≡ 16
  pub partitions : All IsPartitionWritable t.partitions
  pub members : All IsMemberWritable t.pairs

abbrev pub IsConfigWritable : Configuration → Type 0
IsConfigWritable c = All IsMemberWritable c.pairs

-- the whole part of a quota fits 64 bits
abbrev pub IsQuotaWritable : QuotaRow → Type 0
IsQuotaWritable q = q.value.whole ≤ℤ pos 9223372036854775807

-- The path of an entity's quotas is read as that of an entity, whose names are then texts.
pub record AreQuotasWritable (q : QuotaEntry) : Type 0 where
  pub entity : EntityKey
  pub read : key_of q.path ≡ Some entity
  pub each : All IsQuotaWritable q.quotas

-- A credential is of bytes, and its iterations fit 32 bits.
pub record IsScramWritable (s : ScramPair) : Type 0 where
  pub salt : IsBytes s.value.salt
  pub stored_key : IsBytes s.value.stored_key
  pub server_key : IsBytes s.value.server_key
  pub iterations : FitsInt s.value.iterations

abbrev pub IsUserWritable : ScramEntry → Type 0
IsUserWritable u = IsText u.name × All IsScramWritable u.scrams

-- The names of an access control entry are texts.
pub record IsAclWritable (a : AclEntry) : Type 0 where
  pub name : IsText a.row.name
  pub principal : IsText a.row.principal
  pub host : IsText a.row.host

-- Texts are UTF-8, bytes are bytes, and numbers are in the range of their types, as those of a program's metadata always are.
pub record IsWritable (i : Image) : Type 0 where
  pub topics : All IsTopicWritable i.topics
  pub configs : All IsConfigWritable i.broker_configs
  pub quotas : All AreQuotasWritable i.quotas
  pub users : All IsUserWritable i.users
  pub acls : All IsAclWritable i.acls

-- ---- records

-- The name of an entity of a quota, where it is told, is a text.
abbrev pub IsEntityWritable : QuotaEntity → Type 0
IsEntityWritable e = IfSome e.name IsText

-- What a record gives to the metadata is in the ranges of its types, as the records that a program holds always are.
abbrev pub IsRecordWritable : MetaRecord → Type 0
IsRecordWritable (meta.Topic r) = IsText r.name × IsBytes r.topic_id.bytes × (length r.topic_id.bytes ≡ 16)
IsRecordWritable (meta.Partition r) = FitsInt r.partition_id × All FitsInt r.replicas
IsRecordWritable (meta.PartitionChange r) = FitsInt r.partition_id × IfSome r.replicas (All FitsInt)
IsRecordWritable (meta.Config r) = IsText r.name × IfSome r.value IsText
IsRecordWritable (meta.UserScramCredential r) = IsText r.name × IsBytes r.salt × IsBytes r.stored_key × IsBytes r.server_key × FitsInt r.iterations
IsRecordWritable (meta.RemoveUserScramCredential name mechanism) = IsText name
IsRecordWritable (meta.ClientQuota r) = All IsEntityWritable r.entity × (r.value.whole ≤ℤ pos 9223372036854775807)
IsRecordWritable (meta.AccessControlEntry r) = IsText r.resource_name × IsText r.principal × IsText r.host
IsRecordWritable r = ⊤

-- ---- metadata that a program holds

-- Metadata that a program holds is in order, and its values are in the ranges of their types.
pub record IsHeld (i : Image) : Type 0 where
  pub order : IsInOrder i
  pub writable : IsWritable i

-- ---- the law

-- The empty metadata is in these ranges.
abbrev pub EmptyIsWritable : Type 0
EmptyIsWritable = IsWritable empty_image

-- Metadata stays in these ranges under a record that breaks no rule.
abbrev pub RecordKeepsWritable : Type 0
RecordKeepsWritable = (i : Image) (epoch : ℤ) (r : MetaRecord) → IsWritable i → FitsInt epoch → IsRecordWritable r → broken_rule i r ≡ None → IsWritable (effect epoch r i)
