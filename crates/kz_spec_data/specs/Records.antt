-- Which bytes spell a record of the metadata log, what is read from bytes, and what is written.
use Rattle.std.specs.Prelude.{◌≡◌, ℕ, ◌+◌, ◌<◌, ◌^◌, ℤ, pos, negsuc, ◌==◌, List, ◌++◌, length, Option, Some, None, is_none, Result, Ok, Err, if◌then◌else◌}
use Rattle.std.specs.Int.{w8, w16, w32, w64}
use Rattle.std.specs.Ordering.{int_eq}
use Rattle.kz_types.specs.declared.id.Id.{Id}
use Rattle.kz_types.specs.declared.record.Endpoint.{Endpoint}
use Rattle.kz_types.specs.declared.record.Feature.{Feature}
use Rattle.kz_types.specs.declared.record.RegisterBrokerRecord.{RegisterBrokerRecord}
use Rattle.kz_types.specs.declared.record.TopicRecord.{TopicRecord}
use Rattle.kz_types.specs.declared.record.PartitionRecord.{PartitionRecord}
use Rattle.kz_types.specs.declared.record.ConfigRecord.{ConfigRecord}
use Rattle.kz_types.specs.declared.record.PartitionChangeRecord.{PartitionChangeRecord}
use Rattle.kz_types.specs.declared.record.UserScramCredentialRecord.{UserScramCredentialRecord}
use Rattle.kz_types.specs.declared.record.QuotaEntity.{QuotaEntity}
use Rattle.kz_types.specs.declared.record.ClientQuotaRecord.{ClientQuotaRecord}
use Rattle.kz_types.specs.declared.record.ProducerIdsRecord.{ProducerIdsRecord}
use Rattle.kz_types.specs.declared.record.AccessControlEntryRecord.{AccessControlEntryRecord}
use Rattle.kz_types.specs.declared.record.MetaRecord.{MetaRecord}
use Rattle.kz_types.specs.declared.record.MetaRecord.TheVariants.{RegisterBroker, Topic, Partition, Config, PartitionChange, RemoveTopic, UserScramCredential, ClientQuota, ProducerIds, AccessControlEntry, RemoveAccessControlEntry, NoOp, ZkMigrationState, RemoveUserScramCredential, BeginTransaction, EndTransaction, AbortTransaction}
use Rattle.kz_types.specs.declared.record.CodecFault.{CodecFault}
use Rattle.kz_types.specs.declared.record.CodecFault.TheVariants.{UnknownKey, UnknownVersion, BadField, Rest, NoMemory}
use Rattle.kz_types.specs.QuotaEntities.{user_first}
use Rattle.kz_spec_data.specs.Fields.{Reading, Format, format_through, ◌>>=◌, uvarint, unsigned_number, signed_number, id, nullable_bytes, nullable_text}
use Rattle.kz_spec_data.specs.Forms.{with_field_fault, field, non_null, flag, nullable_ints, ◌⊗◌, list_of, AllFit, nothing, Known, Content, both, plain, text_content, tag, section, without_tags}

-- ---- the fields, under the names of Kafka's schemas

abbrev pub int8 : Format CodecFault ℤ
int8 = field (signed_number w8)

abbrev pub int16 : Format CodecFault ℤ
int16 = field (signed_number w16)

abbrev pub uint16 : Format CodecFault ℕ
uint16 = field (unsigned_number w16)

abbrev pub int32 : Format CodecFault ℤ
int32 = field (signed_number w32)

abbrev pub int64 : Format CodecFault ℤ
int64 = field (signed_number w64)

abbrev pub uuid : Format CodecFault Id
uuid = field id

abbrev pub string : Format CodecFault (List ℕ)
string = non_null nullable_text

abbrev pub nullable_string : Format CodecFault (Option (List ℕ))
nullable_string = field nullable_text

abbrev pub bytes : Format CodecFault (List ℕ)
bytes = non_null nullable_bytes

abbrev pub ints : Format CodecFault (List ℤ)
ints = non_null nullable_ints

-- ---- the records: their fields in order

-- name, host, port, security protocol
abbrev pub endpoint : Format CodecFault Endpoint
endpoint = format_through
    (λ x. record { name = x.0; host = x.1.0; port = x.1.1.0; protocol = x.1.1.1 })
    (λ e. (e.name, (e.host, (e.port, e.protocol))))
    (without_tags (string ⊗ string ⊗ uint16 ⊗ int16))

-- name, least version, greatest version
abbrev pub feature : Format CodecFault Feature
feature = format_through
    (λ x. record { name = x.0; min = x.1.0; max = x.1.1 })
    (λ f. (f.name, (f.min, f.max)))
    (without_tags (string ⊗ int16 ⊗ int16))

-- broker id, migrating, incarnation id, broker epoch, endpoints, features, rack, fenced, in shutdown
abbrev pub register_broker : Format CodecFault RegisterBrokerRecord
register_broker = format_through
    (λ x. record { broker_id = x.0; migrating = x.1.0; incarnation = x.1.1.0; broker_epoch = x.1.1.1.0; endpoints = x.1.1.1.1.0; features = x.1.1.1.1.1.0; rack = x.1.1.1.1.1.1.0; fenced = x.1.1.1.1.1.1.1.0; in_shutdown = x.1.1.1.1.1.1.1.1 })
    (λ b. (b.broker_id, (b.migrating, (b.incarnation, (b.broker_epoch, (b.endpoints, (b.features, (b.rack, (b.fenced, b.in_shutdown)))))))))
    (without_tags (int32 ⊗ flag ⊗ uuid ⊗ int64 ⊗ list_of endpoint ⊗ list_of feature ⊗ nullable_string ⊗ flag ⊗ flag))

-- name, topic id
abbrev pub topic : Format CodecFault TopicRecord
topic = format_through
    (λ x. record { name = x.0; topic_id = x.1 })
    (λ t. (t.name, t.topic_id))
    (without_tags (string ⊗ uuid))

-- tag 0: the recovery state
abbrev pub partition_tags : Known ℤ
partition_tags = tag 0 (pos 0) (int_eq (pos 0)) (plain (signed_number w8))

-- partition id, topic id, replicas, in-sync replicas, removing and adding replicas, leader, leader epoch, partition
-- epoch; tag 0: recovery state, by default 0
abbrev pub partition : Format CodecFault PartitionRecord
partition = format_through
    (λ x. record { partition_id = x.0; topic_id = x.1.0; replicas = x.1.1.0; isr = x.1.1.1.0; removing = x.1.1.1.1.0; adding = x.1.1.1.1.1.0; leader = x.1.1.1.1.1.1.0; leader_epoch = x.1.1.1.1.1.1.1.0; partition_epoch = x.1.1.1.1.1.1.1.1.0; recovery = x.1.1.1.1.1.1.1.1.1 })
    (λ p. (p.partition_id, (p.topic_id, (p.replicas, (p.isr, (p.removing, (p.adding, (p.leader, (p.leader_epoch, (p.partition_epoch, p.recovery))))))))))
    (int32 ⊗ uuid ⊗ ints ⊗ ints ⊗ ints ⊗ ints ⊗ int32 ⊗ int32 ⊗ int32 ⊗ section partition_tags)

-- resource type, resource name, name, value
abbrev pub config : Format CodecFault ConfigRecord
config = format_through
    (λ x. record { resource_type = x.0; resource_name = x.1.0; name = x.1.1.0; value = x.1.1.1 })
    (λ c. (c.resource_type, (c.resource_name, (c.name, c.value))))
    (without_tags (int8 ⊗ string ⊗ string ⊗ nullable_string))

-- a tag of a list of numbers, by default null
abbrev pub ints_tag : ℕ → Known (Option (List ℤ))
ints_tag number = tag number None is_none (plain nullable_ints)

abbrev pub leader_tag : Known ℤ
leader_tag = tag 1 (negsuc 1) (int_eq (negsuc 1)) (plain (signed_number w32))

abbrev pub stated_recovery_tag : Known ℤ
stated_recovery_tag = tag 5 (negsuc 0) (int_eq (negsuc 0)) (plain (signed_number w8))

-- tags 0: in-sync replicas, 1: leader, by default -2, 2: replicas, 3: removing, 4: adding replicas, 5: recovery state,
-- by default -1
abbrev pub change_tags : Known (Option (List ℤ) × (ℤ × (Option (List ℤ) × (Option (List ℤ) × (Option (List ℤ) × ℤ)))))
change_tags = both (ints_tag 0) (both leader_tag (both (ints_tag 2) (both (ints_tag 3) (both (ints_tag 4) stated_recovery_tag))))

-- partition id, topic id, and the tagged parts
abbrev pub partition_change : Format CodecFault PartitionChangeRecord
partition_change = format_through
    (λ x. record { partition_id = x.0; topic_id = x.1.0; isr = x.1.1.0; leader = x.1.1.1.0; replicas = x.1.1.1.1.0; removing = x.1.1.1.1.1.0; adding = x.1.1.1.1.1.1.0; recovery = x.1.1.1.1.1.1.1 })
    (λ c. (c.partition_id, (c.topic_id, (c.isr, (c.leader, (c.replicas, (c.removing, (c.adding, c.recovery))))))))
    (int32 ⊗ uuid ⊗ section change_tags)

-- name, mechanism, salt, stored key, server key, iterations
abbrev pub user_scram_credential : Format CodecFault UserScramCredentialRecord
user_scram_credential = format_through
    (λ x. record { name = x.0; mechanism = x.1.0; salt = x.1.1.0; stored_key = x.1.1.1.0; server_key = x.1.1.1.1.0; iterations = x.1.1.1.1.1 })
    (λ u. (u.name, (u.mechanism, (u.salt, (u.stored_key, (u.server_key, u.iterations))))))
    (without_tags (string ⊗ int8 ⊗ bytes ⊗ bytes ⊗ bytes ⊗ int32))

-- kind, name
abbrev pub quota_entity : Format CodecFault QuotaEntity
quota_entity = format_through
    (λ x. record { kind = x.0; name = x.1 })
    (λ e. (e.kind, e.name))
    (without_tags (string ⊗ nullable_string))

-- The parts of whom a quota speaks of. The pair of a client id and a user is read in either order.
abbrev pub quota_entities : Format CodecFault (List QuotaEntity)
quota_entities = record {
  spells = λ parts text. (read : List QuotaEntity) × (user_first read ≡ parts) × (list_of quota_entity).spells read text;
  read = λ r. (list_of quota_entity).read r >>= λ x. Ok (user_first x.0, x.1);
  written = (list_of quota_entity).written;
  fits = λ parts. (user_first parts ≡ parts) × (list_of quota_entity).fits parts;
}

-- entity, key, whole part of the value, millionths, removed
abbrev pub client_quota : Format CodecFault ClientQuotaRecord
client_quota = format_through
    (λ x. record { entity = x.0; key = x.1.0; value = record { whole = x.1.1.0; micros = x.1.1.1.0 }; remove = x.1.1.1.1 })
    (λ q. (q.entity, (q.key, (q.value.whole, (q.value.micros, q.remove)))))
    (without_tags (quota_entities ⊗ string ⊗ int64 ⊗ int32 ⊗ flag))

-- broker id, broker epoch, next producer id
abbrev pub producer_ids : Format CodecFault ProducerIdsRecord
producer_ids = format_through
    (λ x. record { broker_id = x.0; broker_epoch = x.1.0; next = x.1.1 })
    (λ p. (p.broker_id, (p.broker_epoch, p.next)))
    (without_tags (int32 ⊗ int64 ⊗ int64))

-- id, resource type, resource name, pattern type, principal, host, operation, permission type
abbrev pub access_control_entry : Format CodecFault AccessControlEntryRecord
access_control_entry = format_through
    (λ x. record { id = x.0; resource_type = x.1.0; resource_name = x.1.1.0; pattern_type = x.1.1.1.0; principal = x.1.1.1.1.0; host = x.1.1.1.1.1.0; operation = x.1.1.1.1.1.1.0; permission = x.1.1.1.1.1.1.1 })
    (λ a. (a.id, (a.resource_type, (a.resource_name, (a.pattern_type, (a.principal, (a.host, (a.operation, a.permission))))))))
    (without_tags (uuid ⊗ int8 ⊗ string ⊗ int8 ⊗ string ⊗ string ⊗ int8 ⊗ int8))

-- an id alone
abbrev pub id_alone : Format CodecFault Id
id_alone = without_tags uuid

-- a state alone
abbrev pub state_alone : Format CodecFault ℤ
state_alone = without_tags int8

-- name, mechanism
abbrev pub name_and_mechanism : Format CodecFault (List ℕ × ℤ)
name_and_mechanism = without_tags (string ⊗ int8)

-- tag 0: a text, by default null
abbrev pub text_tags : Known (Option (List ℕ))
text_tags = tag 0 None is_none text_content

abbrev pub tagged_text : Format CodecFault (Option (List ℕ))
tagged_text = section text_tags

-- no field
abbrev pub no_fields : Format CodecFault (Unit {0})
no_fields = section nothing

-- ---- values

-- the record's key and version, as a value begins
abbrev pub head_written : ℕ → ℕ → List ℕ
head_written key version = uvarint.written 1 ++ (uvarint.written key ++ uvarint.written version)

-- A frame version 1, this key, this version, and fields.
abbrev pub IsValue : {X : Type 0} → ℕ → ℕ → Format CodecFault X → X → List ℕ → Type 0
IsValue key version form x text = (frame : List ℕ) × (number : List ℕ) × (stated : List ℕ) × (fields : List ℕ) × (text ≡ frame ++ (number ++ (stated ++ fields)))
    × uvarint.spells 1 frame × uvarint.spells key number × uvarint.spells version stated × form.spells x fields

-- The bytes spell the record.
abbrev pub Spells : MetaRecord → List ℕ → Type 0
Spells (RegisterBroker r) text = IsValue 0 2 register_broker r text
Spells (Topic r) text = IsValue 2 0 topic r text
Spells (Partition r) text = IsValue 3 0 partition r text
Spells (Config r) text = IsValue 4 0 config r text
Spells (PartitionChange r) text = IsValue 5 0 partition_change r text
Spells (RemoveTopic i) text = IsValue 9 0 id_alone i text
Spells (UserScramCredential r) text = IsValue 11 0 user_scram_credential r text
Spells (ClientQuota r) text = IsValue 14 64 client_quota r text
Spells (ProducerIds r) text = IsValue 15 0 producer_ids r text
Spells (AccessControlEntry r) text = IsValue 18 0 access_control_entry r text
Spells (RemoveAccessControlEntry i) text = IsValue 19 0 id_alone i text
Spells NoOp text = IsValue 20 0 no_fields tt text
Spells (ZkMigrationState state) text = IsValue 21 0 state_alone state text
Spells (RemoveUserScramCredential name mechanism) text = IsValue 22 0 name_and_mechanism (name, mechanism) text
Spells (BeginTransaction name) text = IsValue 23 0 tagged_text name text
Spells EndTransaction text = IsValue 24 0 no_fields tt text
Spells (AbortTransaction reason) text = IsValue 25 0 tagged_text reason text

-- The one spelling that is written: the fewest groups for each number, and no tag at its default.
abbrev pub bytes_of_record : MetaRecord → List ℕ
bytes_of_record (RegisterBroker r) = head_written 0 2 ++ register_broker.written r
bytes_of_record (Topic r) = head_written 2 0 ++ topic.written r
bytes_of_record (Partition r) = head_written 3 0 ++ partition.written r
bytes_of_record (Config r) = head_written 4 0 ++ config.written r
bytes_of_record (PartitionChange r) = head_written 5 0 ++ partition_change.written r
bytes_of_record (RemoveTopic i) = head_written 9 0 ++ id_alone.written i
bytes_of_record (UserScramCredential r) = head_written 11 0 ++ user_scram_credential.written r
bytes_of_record (ClientQuota r) = head_written 14 64 ++ client_quota.written r
bytes_of_record (ProducerIds r) = head_written 15 0 ++ producer_ids.written r
bytes_of_record (AccessControlEntry r) = head_written 18 0 ++ access_control_entry.written r
bytes_of_record (RemoveAccessControlEntry i) = head_written 19 0 ++ id_alone.written i
bytes_of_record NoOp = head_written 20 0 ++ no_fields.written tt
bytes_of_record (ZkMigrationState state) = head_written 21 0 ++ state_alone.written state
bytes_of_record (RemoveUserScramCredential name mechanism) = head_written 22 0 ++ name_and_mechanism.written (name, mechanism)
bytes_of_record (BeginTransaction name) = head_written 23 0 ++ tagged_text.written name
bytes_of_record EndTransaction = head_written 24 0 ++ no_fields.written tt
bytes_of_record (AbortTransaction reason) = head_written 25 0 ++ tagged_text.written reason

-- Each text is UTF-8, each number is in its range, and each length and count fits its field.
abbrev pub Fits : MetaRecord → Type 0
Fits (RegisterBroker r) = register_broker.fits r
Fits (Topic r) = topic.fits r
Fits (Partition r) = partition.fits r
Fits (Config r) = config.fits r
Fits (PartitionChange r) = partition_change.fits r
Fits (RemoveTopic i) = id_alone.fits i
Fits (UserScramCredential r) = user_scram_credential.fits r
Fits (ClientQuota r) = client_quota.fits r
Fits (ProducerIds r) = producer_ids.fits r
Fits (AccessControlEntry r) = access_control_entry.fits r
Fits (RemoveAccessControlEntry i) = id_alone.fits i
Fits NoOp = Unit {0}
Fits (ZkMigrationState state) = state_alone.fits state
Fits (RemoveUserScramCredential name mechanism) = name_and_mechanism.fits (name, mechanism)
Fits (BeginTransaction name) = tagged_text.fits name
Fits EndTransaction = Unit {0}
Fits (AbortTransaction reason) = tagged_text.fits reason

-- ---- lengths: what a writer asks for, so that each length and count fits its field

abbrev pub IsShort : List ℕ → Type 0
IsShort x = length x + 1 < 2 ^ 32

abbrev pub IsShortOrNull : Option (List ℕ) → Type 0
IsShortOrNull None = Unit {0}
IsShortOrNull (Some x) = IsShort x

abbrev pub IsFew : {X : Type 0} → List X → Type 0
IsFew xs = length xs + 1 < 2 ^ 32

-- the field of a tag
abbrev pub FieldFits : {X : Type 0} → Content X → X → Type 0
FieldFits content x = length (content.format.written x) < 2 ^ 32

pub record ShortEndpoint (e : Endpoint) : Type 0 where
  pub name : IsShort e.name
  pub host : IsShort e.host

abbrev pub ShortFeature : Feature → Type 0
ShortFeature f = IsShort f.name

pub record ShortEntity (e : QuotaEntity) : Type 0 where
  pub kind : IsShort e.kind
  pub name : IsShortOrNull e.name

pub record ShortRegistration (r : RegisterBrokerRecord) : Type 0 where
  pub few_endpoints : IsFew r.endpoints
  pub endpoints : AllFit ShortEndpoint r.endpoints
  pub few_features : IsFew r.features
  pub features : AllFit ShortFeature r.features
  pub rack : IsShortOrNull r.rack

pub record ShortPartition (r : PartitionRecord) : Type 0 where
  pub replicas : IsFew r.replicas
  pub isr : IsFew r.isr
  pub removing : IsFew r.removing
  pub adding : IsFew r.adding

pub record ShortConfig (r : ConfigRecord) : Type 0 where
  pub resource_name : IsShort r.resource_name
  pub name : IsShort r.name
  pub value : IsShortOrNull r.value

pub record ShortChange (r : PartitionChangeRecord) : Type 0 where
  pub isr : FieldFits (plain nullable_ints) r.isr
  pub replicas : FieldFits (plain nullable_ints) r.replicas
  pub removing : FieldFits (plain nullable_ints) r.removing
  pub adding : FieldFits (plain nullable_ints) r.adding

pub record ShortCredential (r : UserScramCredentialRecord) : Type 0 where
  pub name : IsShort r.name
  pub salt : IsShort r.salt
  pub stored_key : IsShort r.stored_key
  pub server_key : IsShort r.server_key

pub record ShortQuota (r : ClientQuotaRecord) : Type 0 where
  pub few : IsFew r.entity
  pub entity : AllFit ShortEntity r.entity
  pub key : IsShort r.key

pub record ShortEntry (r : AccessControlEntryRecord) : Type 0 where
  pub resource_name : IsShort r.resource_name
  pub principal : IsShort r.principal
  pub host : IsShort r.host

abbrev pub LengthsFit : MetaRecord → Type 0
LengthsFit (RegisterBroker r) = ShortRegistration r
LengthsFit (Topic r) = IsShort r.name
LengthsFit (Partition r) = ShortPartition r
LengthsFit (Config r) = ShortConfig r
LengthsFit (PartitionChange r) = ShortChange r
LengthsFit (RemoveTopic i) = Unit {0}
LengthsFit (UserScramCredential r) = ShortCredential r
LengthsFit (ClientQuota r) = ShortQuota r
LengthsFit (ProducerIds r) = Unit {0}
LengthsFit (AccessControlEntry r) = ShortEntry r
LengthsFit (RemoveAccessControlEntry i) = Unit {0}
LengthsFit NoOp = Unit {0}
LengthsFit (ZkMigrationState state) = Unit {0}
LengthsFit (RemoveUserScramCredential name mechanism) = IsShort name
LengthsFit (BeginTransaction name) = FieldFits text_content name
LengthsFit EndTransaction = Unit {0}
LengthsFit (AbortTransaction reason) = FieldFits text_content reason

-- ---- reading: the first fault in the order of the bytes

-- the version of the record of a key, if there is such a record
abbrev pub version_of : ℕ → Option ℕ
version_of key =
    if key == 0 then Some 2 else (if key == 14 then Some 64
    else (if key == 2 then Some 0 else (if key == 3 then Some 0 else (if key == 4 then Some 0 else (if key == 5 then Some 0
    else (if key == 9 then Some 0 else (if key == 11 then Some 0 else (if key == 15 then Some 0 else (if key == 18 then Some 0
    else (if key == 19 then Some 0 else (if key == 20 then Some 0 else (if key == 21 then Some 0 else (if key == 22 then Some 0
    else (if key == 23 then Some 0 else (if key == 24 then Some 0 else (if key == 25 then Some 0 else None))))))))))))))))

-- the record that these fields make
abbrev pub as_record : {X : Type 0} → (X → MetaRecord) → Format CodecFault X → Reading → Result (MetaRecord × Reading) CodecFault
as_record made form r = form.read r >>= λ x. Ok (made x.0, x.1)

-- the fields of the record of this key
unfoldable pub fields_at : ℕ → Reading → Result (MetaRecord × Reading) CodecFault
fields_at key r =
    if key == 0 then as_record RegisterBroker register_broker r
    else (if key == 2 then as_record Topic topic r
    else (if key == 3 then as_record Partition partition r
    else (if key == 4 then as_record Config config r
    else (if key == 5 then as_record PartitionChange partition_change r
    else (if key == 9 then as_record RemoveTopic id_alone r
    else (if key == 11 then as_record UserScramCredential user_scram_credential r
    else (if key == 14 then as_record ClientQuota client_quota r
    else (if key == 15 then as_record ProducerIds producer_ids r
    else (if key == 18 then as_record AccessControlEntry access_control_entry r
    else (if key == 19 then as_record RemoveAccessControlEntry id_alone r
    else (if key == 20 then as_record (λ x. NoOp) no_fields r
    else (if key == 21 then as_record ZkMigrationState state_alone r
    else (if key == 22 then as_record (λ x. RemoveUserScramCredential x.0 x.1) name_and_mechanism r
    else (if key == 23 then as_record BeginTransaction tagged_text r
    else (if key == 24 then as_record (λ x. EndTransaction) no_fields r
    else (if key == 25 then as_record AbortTransaction tagged_text r
    else Err (UnknownKey key)))))))))))))))))

-- the fields, once the version is that of the key
abbrev pub fields_of_version : ℕ → Option ℕ → Reading → Result (MetaRecord × Reading) CodecFault
fields_of_version key None r = Err (UnknownKey key)
fields_of_version key (Some version) r = with_field_fault (uvarint.read r) >>= λ stated. if stated.0 == version then fields_at key stated.1 else Err (UnknownVersion key stated.0)

-- a record at the front
unfoldable pub record_at : Reading → Result (MetaRecord × Reading) CodecFault
record_at r = with_field_fault (uvarint.read r) >>= λ frame.
    if frame.0 == 1 then (with_field_fault (uvarint.read frame.1) >>= λ key. fields_of_version key.0 (version_of key.0) key.1)
    else Err (BadField r.at)

-- a record and no more bytes
unfoldable pub record_of : List ℕ → Result MetaRecord CodecFault
record_of text = record_at (record { at = 0; left = text }) >>= λ x. if length x.1.left == 0 then Ok x.0 else Err (Rest x.1.at)

-- ---- what a call answers

-- A call answers what the bytes say, unless memory runs out.
abbrev pub Fails : {Y : Type 0} → CodecFault → Result Y CodecFault → Type 0
Fails NoMemory said = Unit {0}
Fails fault said = said ≡ Err fault

abbrev pub Gives : {X Y : Type 0} → (X → Y) → Result X CodecFault → Result Y CodecFault → Type 0
Gives view (Ok x) said = said ≡ Ok (view x)
Gives view (Err e) said = Fails e said
