-- The events, operations and records that a line can hold.
use Rattle.std.specs.Prelude.{◌≡◌, ⊤, ℕ, ◌≤◌, true, false, ℤ, pos, negsuc, List, [], ◌∷◌, length, Option, Some, None}
use Rattle.base64.specs.GeneralPurpose.{IsBytes}
use Rattle.kz_types.specs.Numbers.{are_distinct}
use Rattle.kz_types.specs.Paths.{is_path}
use Rattle.kz_types.specs.declared.machine.Event.{Event}
use Rattle.kz_types.specs.declared.machine.Event.TheVariants.{Quorum, Start, Stop, Elect, Step, Turn, Register, Change, Finalise, Rollback, Snapshot, Check, ZkOpen, ZkExpire, Zk}
use Rattle.kz_types.specs.QuotaEntities.{is_client_first}
use Rattle.kz_types.specs.declared.id.Id.{Id}
use Rattle.kz_types.specs.declared.record.Endpoint.{Endpoint}
use Rattle.kz_types.specs.declared.record.Feature.{Feature}
use Rattle.kz_types.specs.declared.record.RegisterBrokerRecord.{RegisterBrokerRecord}
use Rattle.kz_types.specs.declared.record.TopicRecord.{TopicRecord}
use Rattle.kz_types.specs.declared.record.PartitionRecord.{PartitionRecord}
use Rattle.kz_types.specs.declared.record.ConfigRecord.{ConfigRecord}
use Rattle.kz_types.specs.declared.record.PartitionChangeRecord.{PartitionChangeRecord}
use Rattle.kz_types.specs.declared.record.UserScramCredentialRecord.{UserScramCredentialRecord}
use Rattle.kz_types.specs.declared.record.QuotaEntity.{QuotaEntity}
use Rattle.kz_types.specs.declared.record.ClientQuotaRecord.{ClientQuotaRecord}
use Rattle.kz_types.specs.declared.record.ProducerIdsRecord.{ProducerIdsRecord}
use Rattle.kz_types.specs.declared.record.AccessControlEntryRecord.{AccessControlEntryRecord}
use Rattle.kz_types.specs.declared.record.MetaRecord.{MetaRecord}
use Rattle.kz_types.specs.declared.record.MetaRecord.TheVariants.{RegisterBroker, Topic, Partition, Config, PartitionChange, RemoveTopic, UserScramCredential, ClientQuota, ProducerIds, AccessControlEntry, RemoveAccessControlEntry, NoOp, ZkMigrationState, RemoveUserScramCredential, BeginTransaction, EndTransaction, AbortTransaction}
use Rattle.kz_types.specs.declared.tree.Op.{Op}
use Rattle.kz_types.specs.declared.tree.Op.TheVariants as op
use Rattle.kz_laws_values.specs.Ranges.{IsBetween, IsLong}
use Rattle.kz_laws_values.specs.Readable.{IsText}

-- ---- numbers and texts

-- the id of a controller or a broker
abbrev pub IsId : ℤ → Type 0
IsId id = IsBetween (pos 0) (pos 2147483647) id

-- an id, if there is one
abbrev pub IsIdOrNone : Option ℤ → Type 0
IsIdOrNone None = ⊤
IsIdOrNone (Some id) = IsId id

-- a time of an event
abbrev pub IsTime : ℤ → Type 0
IsTime now = IsBetween (pos 0) (pos 9223372036854775807) now

-- a session of ZooKeeper
abbrev pub IsSession : ℤ → Type 0
IsSession session = IsBetween (pos 1) (pos 9223372036854775807) session

-- -1 is any version
abbrev pub IsVersion : ℤ → Type 0
IsVersion version = IsBetween (negsuc 0) (pos 2147483647) version

-- a text, if there is one
abbrev pub IsTextOrNull : Option (List ℕ) → Type 0
IsTextOrNull None = ⊤
IsTextOrNull (Some text) = IsText text

-- what is so of each item of a list
abbrev pub Each : {A : Type 0} → (A → Type 0) → List A → Type 0
Each P [] = ⊤
Each P (x ∷ xs) = P x × Each P xs

-- ---- fields

-- a whole number of 8 bits
abbrev pub IsInt8 : ℤ → Type 0
IsInt8 n = IsBetween (negsuc 127) (pos 127) n

-- of 16 bits
abbrev pub IsInt16 : ℤ → Type 0
IsInt16 n = IsBetween (negsuc 32767) (pos 32767) n

-- of 32 bits
abbrev pub IsInt32 : ℤ → Type 0
IsInt32 n = IsBetween (negsuc 2147483647) (pos 2147483647) n

-- a list of whole numbers, if there is one
abbrev pub AreIntsOrNull : Option (List ℤ) → Type 0
AreIntsOrNull None = ⊤
AreIntsOrNull (Some ns) = Each IsInt32 ns

-- an id of 16 bytes
pub record IsUuid (i : Id) : Type 0 where
  pub bytes_are : IsBytes i.bytes
  pub length_is : length i.bytes ≡ 16

-- ---- records: those whose fields have their types

-- a topic
pub record IsTopic (t : TopicRecord) : Type 0 where
  pub name : IsText t.name
  pub topic_id : IsUuid t.topic_id

-- a partition
pub record IsPartition (p : PartitionRecord) : Type 0 where
  pub partition_id : IsInt32 p.partition_id
  pub topic_id : IsUuid p.topic_id
  pub replicas : Each IsInt32 p.replicas
  pub isr : Each IsInt32 p.isr
  pub removing : Each IsInt32 p.removing
  pub adding : Each IsInt32 p.adding
  pub leader : IsInt32 p.leader
  pub recovery : IsInt8 p.recovery
  pub leader_epoch : IsInt32 p.leader_epoch
  pub partition_epoch : IsInt32 p.partition_epoch

-- a change of a partition
pub record IsPartitionChange (c : PartitionChangeRecord) : Type 0 where
  pub partition_id : IsInt32 c.partition_id
  pub topic_id : IsUuid c.topic_id
  pub isr : AreIntsOrNull c.isr
  pub leader : IsInt32 c.leader
  pub replicas : AreIntsOrNull c.replicas
  pub removing : AreIntsOrNull c.removing
  pub adding : AreIntsOrNull c.adding
  pub recovery : IsInt8 c.recovery

-- an address that a broker listens at
pub record IsEndpoint (e : Endpoint) : Type 0 where
  pub name : IsText e.name
  pub host : IsText e.host
  pub port : e.port ≤ 65535
  pub protocol : IsInt16 e.protocol

-- a feature of a broker
pub record IsFeature (f : Feature) : Type 0 where
  pub name : IsText f.name
  pub min_is : IsInt16 f.min
  pub max_is : IsInt16 f.max

-- a registration of a broker
pub record IsRegisterBroker (b : RegisterBrokerRecord) : Type 0 where
  pub broker_id : IsInt32 b.broker_id
  pub incarnation : IsUuid b.incarnation
  pub broker_epoch : IsLong b.broker_epoch
  pub endpoints : Each IsEndpoint b.endpoints
  pub features : Each IsFeature b.features
  pub rack : IsTextOrNull b.rack

-- a member of a configuration
pub record IsConfigRecord (c : ConfigRecord) : Type 0 where
  pub resource_type : IsInt8 c.resource_type
  pub resource_name : IsText c.resource_name
  pub name : IsText c.name
  pub value : IsTextOrNull c.value

-- a block of producer ids
pub record IsProducerIds (p : ProducerIdsRecord) : Type 0 where
  pub broker_id : IsInt32 p.broker_id
  pub broker_epoch : IsLong p.broker_epoch
  pub next : IsLong p.next

-- a credential
pub record IsUserScramCredential (u : UserScramCredentialRecord) : Type 0 where
  pub name : IsText u.name
  pub mechanism : IsInt8 u.mechanism
  pub salt : IsBytes u.salt
  pub stored_key : IsBytes u.stored_key
  pub server_key : IsBytes u.server_key
  pub iterations : IsInt32 u.iterations

-- a part of whom a quota speaks of
pub record IsEntity (e : QuotaEntity) : Type 0 where
  pub kind : IsText e.kind
  pub name : IsTextOrNull e.name

-- a quota: of a user and a client id the user stands first
pub record IsClientQuota (q : ClientQuotaRecord) : Type 0 where
  pub parts : Each IsEntity q.entity
  pub order : is_client_first q.entity ≡ false
  pub key : IsText q.key
  pub whole : IsLong q.value.whole
  pub micros : IsInt32 q.value.micros

-- an access control entry
pub record IsAccessControlEntry (a : AccessControlEntryRecord) : Type 0 where
  pub id : IsUuid a.id
  pub resource_type : IsInt8 a.resource_type
  pub resource_name : IsText a.resource_name
  pub pattern_type : IsInt8 a.pattern_type
  pub principal : IsText a.principal
  pub host : IsText a.host
  pub operation : IsInt8 a.operation
  pub permission : IsInt8 a.permission

-- a record whose fields have their types
abbrev pub IsRecord : MetaRecord → Type 0
IsRecord (RegisterBroker b) = IsRegisterBroker b
IsRecord (Topic t) = IsTopic t
IsRecord (Partition p) = IsPartition p
IsRecord (Config c) = IsConfigRecord c
IsRecord (PartitionChange c) = IsPartitionChange c
IsRecord (RemoveTopic topic) = IsUuid topic
IsRecord (UserScramCredential u) = IsUserScramCredential u
IsRecord (ClientQuota q) = IsClientQuota q
IsRecord (ProducerIds p) = IsProducerIds p
IsRecord (AccessControlEntry a) = IsAccessControlEntry a
IsRecord (RemoveAccessControlEntry entry) = IsUuid entry
IsRecord NoOp = ⊤
IsRecord (ZkMigrationState state) = IsInt8 state
IsRecord (RemoveUserScramCredential name mechanism) = IsText name × IsInt8 mechanism
IsRecord (BeginTransaction name) = IsTextOrNull name
IsRecord EndTransaction = ⊤
IsRecord (AbortTransaction reason) = IsTextOrNull reason

-- at least one record
abbrev pub AreSomeRecords : List MetaRecord → Type 0
AreSomeRecords [] = ⊥
AreSomeRecords (r ∷ rs) = Each IsRecord (r ∷ rs)

-- ---- operations

-- a path by the rule of ZooKeeper
abbrev pub IsPath : List ℕ → Type 0
IsPath path = is_path path ≡ true

-- a session, if there is one
abbrev pub IsOwner : Option ℤ → Type 0
IsOwner None = ⊤
IsOwner (Some session) = IsSession session

-- an operation whose fields have their types
abbrev pub IsOp : Op → Type 0
IsOp (op.Create path body owner) = IsPath path × IsBytes body × IsOwner owner
IsOp (op.Set path body version) = IsPath path × IsBytes body × IsVersion version
IsOp (op.Delete path version) = IsPath path × IsVersion version
IsOp (op.Check path version) = IsPath path × IsVersion version

-- at least one of them
abbrev pub AreSomeOps : List Op → Type 0
AreSomeOps [] = ⊥
AreSomeOps (o ∷ os) = Each IsOp (o ∷ os)

-- ---- events

-- an event that a line can be
abbrev pub IsEvent : Event → Type 0
IsEvent (Quorum ids) = Each IsId ids × (are_distinct ids ≡ true)
IsEvent (Start controller) = IsId controller
IsEvent (Stop controller) = IsIdOrNone controller
IsEvent (Elect controller now) = IsId controller × IsTime now
IsEvent (Step controller now plan) = IsId controller × IsTime now
IsEvent (Turn controller now) = IsId controller × IsTime now
IsEvent (Register controller broker migrating now) = IsId controller × IsId broker × IsTime now
IsEvent (Change controller records now) = IsId controller × AreSomeRecords records × IsTime now
IsEvent (Finalise controller now) = IsId controller × IsTime now
IsEvent Rollback = ⊤
IsEvent Snapshot = ⊤
IsEvent Check = ⊤
IsEvent (ZkOpen session) = IsSession session
IsEvent (ZkExpire session) = IsSession session
IsEvent (Zk ops) = AreSomeOps ops
