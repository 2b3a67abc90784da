-- Metadata that is rendered, translated and made again.
use Rattle.std.specs.Prelude.{◌≡◌, ⊤, ℕ, ◌+◌, ◌≤◌, true, ℤ, pos, ◌+ℤ◌, ◌≤ℤ◌, List, length, map, Option, Some, None, option_map, Ok, All}
use Rattle.std.specs.Str.{is_utf8}
use Rattle.std.specs.List.{filter}
use Rattle.kz_types.specs.declared.limits.TheConstants.{MAX_EPOCH, MAX_RECORDS}
use Rattle.base64.specs.GeneralPurpose.{IsBytes}
use Rattle.kz_types.specs.declared.tree.Row.{Row}
use Rattle.kz_types.specs.declared.tree.Rendered.{Rendered}
use Rattle.kz_types.specs.declared.row.AclRow.{AclRow}
use Rattle.kz_types.specs.declared.bodies.Pair.{Pair}
use Rattle.kz_types.specs.declared.bodies.QuotaRow.{QuotaRow}
use Rattle.kz_types.specs.declared.bodies.ScramPair.{ScramPair}
use Rattle.kz_types.specs.declared.image.Configuration.{Configuration}
use Rattle.kz_types.specs.declared.image.TopicEntry.{TopicEntry}
use Rattle.kz_types.specs.declared.image.PartitionEntry.{PartitionEntry}
use Rattle.kz_types.specs.declared.image.QuotaEntry.{QuotaEntry}
use Rattle.kz_types.specs.declared.image.ScramEntry.{ScramEntry}
use Rattle.kz_types.specs.declared.image.AclEntry.{AclEntry}
use Rattle.kz_types.specs.declared.key.EntityKey.{EntityKey}
use Rattle.kz_types.specs.declared.record.MetaRecord.{MetaRecord}
use Rattle.kz_types.specs.Paths.{key_of}
use Rattle.kz_spec_data.specs.Image.{Image, empty_image, all_applied}
use Rattle.kz_spec_data.specs.InOrder.{IsInOrder}
pub use Rattle.kz_laws_znodes.specs.Writable.{IsText, FitsInt, IsPartitionWritable, IsMemberWritable, IsTopicWritable, IsConfigWritable, IsQuotaWritable, AreQuotasWritable, IsScramWritable, IsUserWritable, IsAclWritable, IsWritable}
use Rattle.kz_spec_data.specs.Rendering.{is_of_resource, row_of_acl, render, excess}
use Rattle.kz_spec_data.specs.Translation.{all_records, further_records, translate}

-- ---- the znodes of a rendering

-- a rendered znode as it stands when it was made
abbrev pub new_znode : Rendered → Row
new_znode r = record { path = r.path; body = r.body; version = pos 0; owner = None; czxid = pos 1; mzxid = pos 1; pzxid = pos 1 }

abbrev pub znodes_of : Image → List Row
znodes_of i = map new_znode (render i)

-- ---- what may return

-- partitions with this controller epoch
abbrev pub at_epoch : ℤ → PartitionEntry → PartitionEntry
at_epoch epoch p = record p { row = record p.row { controller_epoch = epoch } }

abbrev pub topic_at_epoch : ℤ → TopicEntry → TopicEntry
topic_at_epoch epoch t = record t { partitions = map (at_epoch epoch) t.partitions }

-- The greatest metadata that may return: each partition has the greatest controller epoch, and the next producer id stands
-- after one more block of 1,000.
abbrev pub greatest_image : Image → Image
greatest_image i = record i { topics = map (topic_at_epoch MAX_EPOCH) i.topics; next_producer = option_map (λ next. next +ℤ pos 1000) i.next_producer }

abbrev pub HasEpoch : PartitionEntry → Type 0
HasEpoch p = pos 0 ≤ℤ p.row.controller_epoch

-- one more block of producer ids fits, and the block after it
abbrev pub HasRoom : Option ℤ → Type 0
HasRoom None = ⊤
HasRoom (Some next) = next ≤ℤ pos 9223372036854773808

-- No controller epoch is negative, two more blocks of producer ids fit, and neither the znodes nor the records pass a limit.
pub record MayReturn (i : Image) : Type 0 where
  pub epochs : All (λ (t : TopicEntry). All HasEpoch t.partitions) i.topics
  pub next : HasRoom i.next_producer
  pub znodes : excess (greatest_image i) ≡ None
  pub records : (rs : List MetaRecord) → all_records (znodes_of i) ≡ Ok rs → length rs + further_records ≤ MAX_RECORDS

-- ---- what returns

-- a partition without the epochs that aren't kept
abbrev pub without_epochs : PartitionEntry → PartitionEntry
without_epochs p = record p { row = record p.row { partition_epoch = pos 0; controller_epoch = pos 0 } }

abbrev pub topic_without_epochs : TopicEntry → TopicEntry
topic_without_epochs t = record t { partitions = map without_epochs t.partitions }

-- the entries of the resource of this one, by rising id
abbrev pub entries_of_resource : AclRow → List AclEntry → List AclRow
entries_of_resource row acls = map row_of_acl (filter (is_of_resource row) acls)

-- The same metadata, but for partition epochs, controller epochs, the ids of access control entries and their order across
-- resources, the next producer id, the brokers and the state of the migration.
pub record IsSameBut (i j : Image) : Type 0 where
  pub topics : map topic_without_epochs j.topics ≡ map topic_without_epochs i.topics
  pub configs : j.broker_configs ≡ i.broker_configs
  pub quotas : j.quotas ≡ i.quotas
  pub users : j.users ≡ i.users
  pub acls : (row : AclRow) → entries_of_resource row j.acls ≡ entries_of_resource row i.acls

-- Rendered to znodes, translated to records and made again, it is the same metadata.
abbrev pub Returns : Image → Type 0
Returns i = (records : List MetaRecord) × (translate (znodes_of i) ≡ Ok records) × ((epoch : ℤ) → IsSameBut i (all_applied epoch records empty_image))

-- Metadata is rendered to znodes that are translated to records that make the same metadata.
abbrev pub ReturnsTheSame : Type 0
ReturnsTheSame = (i : Image) → IsInOrder i → IsWritable i → MayReturn i → Returns i
