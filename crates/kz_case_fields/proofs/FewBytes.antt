-- Lengths and counts that fit their fields, where all bytes are few.
use Rattle.std.proofs.Common.{◌≡◌, ℕ, zero, suc, ◌+◌, ◌*◌, ◌/◌, ◌%◌, ◌^◌, ◌<◌, ◌≤◌, ℤ, pos, Bool, true, false, cond, nat_lt, leb, List, [], ◌∷◌, ◌++◌, length, Option, None, Some, refl, length-append, arith}
use Rattle.std.specs.Bool.{OnTrue}
use Rattle.std.proofs.lemmas.Bool.{leb-true}
use Rattle.kz_types.specs.declared.record.Endpoint.{Endpoint}
use Rattle.kz_types.specs.declared.record.Feature.{Feature}
use Rattle.kz_types.specs.declared.record.RegisterBrokerRecord.{RegisterBrokerRecord}
use Rattle.kz_types.specs.declared.record.PartitionRecord.{PartitionRecord}
use Rattle.kz_types.specs.declared.record.ConfigRecord.{ConfigRecord}
use Rattle.kz_types.specs.declared.record.PartitionChangeRecord.{PartitionChangeRecord}
use Rattle.kz_types.specs.declared.record.UserScramCredentialRecord.{UserScramCredentialRecord}
use Rattle.kz_types.specs.declared.record.QuotaEntity.{QuotaEntity}
use Rattle.kz_types.specs.declared.record.ClientQuotaRecord.{ClientQuotaRecord}
use Rattle.kz_types.specs.declared.record.AccessControlEntryRecord.{AccessControlEntryRecord}
use Rattle.kz_types.specs.declared.record.MetaRecord.{MetaRecord}
use Rattle.kz_types.specs.declared.record.MetaRecord.TheVariants.{RegisterBroker, Topic, Partition, Config, PartitionChange, RemoveTopic, UserScramCredential, ClientQuota, ProducerIds, AccessControlEntry, RemoveAccessControlEntry, NoOp, ZkMigrationState, RemoveUserScramCredential, BeginTransaction, EndTransaction, AbortTransaction}
use Rattle.kz_types.specs.declared.record.CodecFault.{CodecFault}
use Rattle.kz_spec_data.specs.Fields.{Format, varint, groups_of, int_bytes}
use Rattle.kz_spec_data.specs.Forms.{◌⊗◌, flag, nullable_ints, items_written, AllFit, list_of, Tag, tags_written, nothing, section, without_tags, plain, text_content}
use Rattle.kz_spec_data.specs.Records.{int8, int16, uint16, int32, int64, uuid, string, nullable_string, bytes, ints, endpoint, feature, register_broker, topic, partition, partition_tags, config, ints_tag, leader_tag, stated_recovery_tag, change_tags, partition_change, user_scram_credential, quota_entity, quota_entities, client_quota, access_control_entry, name_and_mechanism, text_tags, tagged_text, head_written, bytes_of_record, IsShort, IsShortOrNull, IsFew, FieldFits, ShortEndpoint, ShortFeature, ShortEntity, ShortRegistration, ShortPartition, ShortConfig, ShortChange, ShortCredential, ShortQuota, ShortEntry, LengthsFit}
use Rattle.kz_spec_data.specs.Batches.{content, entry, content_with, records_written, batch_written, Holds31, BatchFits}

abbrev pub AreFew : List ℕ → Type 0
AreFew text = length text < 2 ^ 32

-- ---- parts

first_part : (a b : List ℕ) → AreFew (a ++ b) → AreFew a
first_part a b h = let e = length-append a b in omega (arith, e, h)

second_part : (a b : List ℕ) → AreFew (a ++ b) → AreFew b
second_part a b h = let e = length-append a b in omega (arith, e, h)

some_either : (b : Bool) (xs ys : List ℕ) (x y : ℕ) → 0 < length (cond b (x ∷ xs) (y ∷ ys))
some_either true xs ys x y = omega arith
some_either false xs ys x y = omega arith

groups_some : (more n : ℕ) → 0 < length (groups_of more n)
unfolding groups_of
groups_some zero n = omega arith
groups_some (suc more) n = some_either (nat_lt n 128) [] (groups_of more (n / 128)) n (128 + n % 128)

-- two fields, one after the other
each_of : {E X Y : Type 0} (f : Format E X) (g : Format E Y) (x : X) (y : Y) → AreFew ((f ⊗ g).written (x, y)) → AreFew (f.written x) × AreFew (g.written y)
each_of f g x y h = (first_part (f.written x) (g.written y) h, second_part (f.written x) (g.written y) h)

-- fields before a section without tags
before_tags : {X : Type 0} (f : Format CodecFault X) (x : X) → AreFew ((without_tags f).written x) → AreFew (f.written x)
before_tags f x h = first_part (f.written x) ((section nothing).written tt) h

some_with_tags : {X : Type 0} (f : Format CodecFault X) (x : X) → 0 < length ((without_tags f).written x)
some_with_tags f x =
    let e = length-append (f.written x) (groups_of 9 0 ++ []) in
    let s = length-append (groups_of 9 0) [] in
    let some = groups_some 9 0 in
    omega (arith, e, s, some)

-- ---- texts and lists

short_text : (text : List ℕ) → AreFew (string.written text) → IsShort text
short_text text h =
    let some = groups_some 9 (length text / 1 + 1) in
    let e = length-append (groups_of 9 (length text / 1 + 1)) text in
    omega (arith, h, some, e)

short_bytes : (text : List ℕ) → AreFew (bytes.written text) → IsShort text
short_bytes text h = short_text text h

short_or_null : (text : Option (List ℕ)) → AreFew (nullable_string.written text) → IsShortOrNull text
short_or_null None h = tt
short_or_null (Some text) h = short_text text h

int_bytes_length : (zs : List ℤ) → length zs ≤ length (int_bytes zs)
int_bytes_length [] = omega arith
int_bytes_length (z ∷ zs) = let h = int_bytes_length zs in omega (arith, h)

few_ints : (zs : List ℤ) → AreFew (ints.written zs) → IsFew zs
few_ints zs h =
    let some = groups_some 9 (length (int_bytes zs) / 4 + 1) in
    let e = length-append (groups_of 9 (length (int_bytes zs) / 4 + 1)) (int_bytes zs) in
    omega (arith, h, some, e, int_bytes_length zs)

all_fit : {X : Type 0} (f : Format CodecFault X) (P : X → Type 0) → ((x : X) → AreFew (f.written x) → P x) → (xs : List X) → AreFew (items_written f.written xs) → AllFit P xs
all_fit f P fits [] h = tt
all_fit f P fits (x ∷ xs) h =
    (fits x (first_part (f.written x) (items_written f.written xs) h), all_fit f P fits xs (second_part (f.written x) (items_written f.written xs) h))

count_of : {X : Type 0} (f : Format CodecFault X) → ((x : X) → 0 < length (f.written x)) → (xs : List X) → length xs ≤ length (items_written f.written xs)
count_of f some [] = omega arith
count_of f some (x ∷ xs) =
    let e = length-append (f.written x) (items_written f.written xs) in
    let one = some x in
    let h = count_of f some xs in
    omega (arith, e, one, h)

few_items : {X : Type 0} (f : Format CodecFault X) → ((x : X) → 0 < length (f.written x)) → (xs : List X) → AreFew ((list_of f).written xs) → IsFew xs
few_items f some xs h =
    let head = groups_some 9 (length xs + 1) in
    let e = length-append (groups_of 9 (length xs + 1)) (items_written f.written xs) in
    let count = count_of f some xs in
    omega (arith, h, head, e, count)

items_of : {X : Type 0} (f : Format CodecFault X) (xs : List X) → AreFew ((list_of f).written xs) → AreFew (items_written f.written xs)
items_of f xs h = second_part (groups_of 9 (length xs + 1)) (items_written f.written xs) h

-- ---- tags

tag_length : (t : Tag) (ts : List Tag) → length (tags_written (t ∷ ts)) ≡ length (groups_of 9 t.number) + (length (groups_of 9 (length t.bytes)) + (length t.bytes + length (tags_written ts)))
tag_length t ts =
    let a = length-append (groups_of 9 t.number) (groups_of 9 (length t.bytes) ++ (t.bytes ++ tags_written ts)) in
    let b = length-append (groups_of 9 (length t.bytes)) (t.bytes ++ tags_written ts) in
    let c = length-append t.bytes (tags_written ts) in
    omega (arith, a, b, c)

tags_length : (ts us : List Tag) → length (tags_written (ts ++ us)) ≡ length (tags_written ts) + length (tags_written us)
tags_length [] us = omega arith
tags_length (t ∷ ts) us =
    let h = tags_length ts us in
    omega (arith, h, tag_length t (ts ++ us), tag_length t ts)

first_tags : (ts us : List Tag) → AreFew (tags_written (ts ++ us)) → AreFew (tags_written ts)
first_tags ts us h = let e = tags_length ts us in omega (arith, e, h)

second_tags : (ts us : List Tag) → AreFew (tags_written (ts ++ us)) → AreFew (tags_written us)
second_tags ts us h = let e = tags_length ts us in omega (arith, e, h)

field_of_tag : (number : ℕ) (field : List ℕ) → AreFew (tags_written (record { number = number; bytes = field } ∷ [])) → AreFew field
field_of_tag number field h = let e = tag_length (record { number = number; bytes = field }) [] in omega (arith, e, h)

ints_field : (number : ℕ) (list : Option (List ℤ)) → AreFew (tags_written ((ints_tag number).tags list)) → FieldFits (plain nullable_ints) list
ints_field number None h = omega arith
ints_field number (Some zs) h = field_of_tag number (nullable_ints.written (Some zs)) h

text_field : (text : Option (List ℕ)) → AreFew (tagged_text.written text) → FieldFits text_content text
text_field None h = omega arith
text_field (Some text) h =
    let tags = text_tags.tags (Some text) in
    field_of_tag 0 (text_content.format.written (Some text)) (second_part (groups_of 9 (length tags)) (tags_written tags) h)

-- ---- records

endpoint_fits : (r : Endpoint) → AreFew (endpoint.written r) → ShortEndpoint r
endpoint_fits r h =
    let a = each_of string (string ⊗ uint16 ⊗ int16) r.name (r.host, (r.port, r.protocol)) (before_tags (string ⊗ string ⊗ uint16 ⊗ int16) (r.name, (r.host, (r.port, r.protocol))) h) in
    let b = each_of string (uint16 ⊗ int16) r.host (r.port, r.protocol) a.1 in
    record { name = short_text r.name a.0; host = short_text r.host b.0 }

feature_fits : (r : Feature) → AreFew (feature.written r) → ShortFeature r
feature_fits r h = short_text r.name (each_of string (int16 ⊗ int16) r.name (r.min, r.max) (before_tags (string ⊗ int16 ⊗ int16) (r.name, (r.min, r.max)) h)).0

entity_fits : (r : QuotaEntity) → AreFew (quota_entity.written r) → ShortEntity r
entity_fits r h =
    let a = each_of string nullable_string r.kind r.name (before_tags (string ⊗ nullable_string) (r.kind, r.name) h) in
    record { kind = short_text r.kind a.0; name = short_or_null r.name a.1 }

some_endpoint : (r : Endpoint) → 0 < length (endpoint.written r)
some_endpoint r = some_with_tags (string ⊗ string ⊗ uint16 ⊗ int16) (r.name, (r.host, (r.port, r.protocol)))

some_feature : (r : Feature) → 0 < length (feature.written r)
some_feature r = some_with_tags (string ⊗ int16 ⊗ int16) (r.name, (r.min, r.max))

some_entity : (r : QuotaEntity) → 0 < length (quota_entity.written r)
some_entity r = some_with_tags (string ⊗ nullable_string) (r.kind, r.name)

registration_fits : (r : RegisterBrokerRecord) → AreFew (register_broker.written r) → ShortRegistration r
registration_fits r h =
    let last : Option (List ℕ) × (Bool × Bool) = (r.rack, (r.fenced, r.in_shutdown)) in
    let parts : List Endpoint × (List Feature × (Option (List ℕ) × (Bool × Bool))) = (r.endpoints, (r.features, last)) in
    let a = before_tags (int32 ⊗ flag ⊗ uuid ⊗ int64 ⊗ list_of endpoint ⊗ list_of feature ⊗ nullable_string ⊗ flag ⊗ flag) (r.broker_id, (r.migrating, (r.incarnation, (r.broker_epoch, parts)))) h in
    let b = (each_of int32 (flag ⊗ uuid ⊗ int64 ⊗ list_of endpoint ⊗ list_of feature ⊗ nullable_string ⊗ flag ⊗ flag) r.broker_id (r.migrating, (r.incarnation, (r.broker_epoch, parts))) a).1 in
    let c = (each_of flag (uuid ⊗ int64 ⊗ list_of endpoint ⊗ list_of feature ⊗ nullable_string ⊗ flag ⊗ flag) r.migrating (r.incarnation, (r.broker_epoch, parts)) b).1 in
    let d = (each_of uuid (int64 ⊗ list_of endpoint ⊗ list_of feature ⊗ nullable_string ⊗ flag ⊗ flag) r.incarnation (r.broker_epoch, parts) c).1 in
    let e = (each_of int64 (list_of endpoint ⊗ list_of feature ⊗ nullable_string ⊗ flag ⊗ flag) r.broker_epoch parts d).1 in
    let f = each_of (list_of endpoint) (list_of feature ⊗ nullable_string ⊗ flag ⊗ flag) r.endpoints (r.features, last) e in
    let g = each_of (list_of feature) (nullable_string ⊗ flag ⊗ flag) r.features last f.1 in
    let rack = each_of nullable_string (flag ⊗ flag) r.rack (r.fenced, r.in_shutdown) g.1 in
    record {
      few_endpoints = few_items endpoint some_endpoint r.endpoints f.0;
      endpoints = all_fit endpoint ShortEndpoint endpoint_fits r.endpoints (items_of endpoint r.endpoints f.0);
      few_features = few_items feature some_feature r.features g.0;
      features = all_fit feature ShortFeature feature_fits r.features (items_of feature r.features g.0);
      rack = short_or_null r.rack rack.0;
    }

partition_fits : (r : PartitionRecord) → AreFew (partition.written r) → ShortPartition r
partition_fits r h =
    let last : ℤ × (ℤ × (ℤ × ℤ)) = (r.leader, (r.leader_epoch, (r.partition_epoch, r.recovery))) in
    let end = int32 ⊗ int32 ⊗ int32 ⊗ section partition_tags in
    let a = (each_of int32 (uuid ⊗ ints ⊗ ints ⊗ ints ⊗ ints ⊗ end) r.partition_id (r.topic_id, (r.replicas, (r.isr, (r.removing, (r.adding, last))))) h).1 in
    let b = (each_of uuid (ints ⊗ ints ⊗ ints ⊗ ints ⊗ end) r.topic_id (r.replicas, (r.isr, (r.removing, (r.adding, last)))) a).1 in
    let c = each_of ints (ints ⊗ ints ⊗ ints ⊗ end) r.replicas (r.isr, (r.removing, (r.adding, last))) b in
    let d = each_of ints (ints ⊗ ints ⊗ end) r.isr (r.removing, (r.adding, last)) c.1 in
    let e = each_of ints (ints ⊗ end) r.removing (r.adding, last) d.1 in
    let f = each_of ints end r.adding last e.1 in
    record { replicas = few_ints r.replicas c.0; isr = few_ints r.isr d.0; removing = few_ints r.removing e.0; adding = few_ints r.adding f.0 }

config_fits : (r : ConfigRecord) → AreFew (config.written r) → ShortConfig r
config_fits r h =
    let all = before_tags (int8 ⊗ string ⊗ string ⊗ nullable_string) (r.resource_type, (r.resource_name, (r.name, r.value))) h in
    let a = (each_of int8 (string ⊗ string ⊗ nullable_string) r.resource_type (r.resource_name, (r.name, r.value)) all).1 in
    let b = each_of string (string ⊗ nullable_string) r.resource_name (r.name, r.value) a in
    let c = each_of string nullable_string r.name r.value b.1 in
    record { resource_name = short_text r.resource_name b.0; name = short_text r.name c.0; value = short_or_null r.value c.1 }

change_fits : (r : PartitionChangeRecord) → AreFew (partition_change.written r) → ShortChange r
change_fits r h =
    let parts : Option (List ℤ) × (ℤ × (Option (List ℤ) × (Option (List ℤ) × (Option (List ℤ) × ℤ)))) = (r.isr, (r.leader, (r.replicas, (r.removing, (r.adding, r.recovery))))) in
    let a = (each_of int32 (uuid ⊗ section change_tags) r.partition_id (r.topic_id, parts) h).1 in
    let b = (each_of uuid (section change_tags) r.topic_id parts a).1 in
    let tags = second_part (groups_of 9 (length (change_tags.tags parts))) (tags_written (change_tags.tags parts)) b in
    let isr = (ints_tag 0).tags r.isr in
    let leader = leader_tag.tags r.leader in
    let replicas = (ints_tag 2).tags r.replicas in
    let removing = (ints_tag 3).tags r.removing in
    let adding = (ints_tag 4).tags r.adding in
    let recovery = stated_recovery_tag.tags r.recovery in
    let c = second_tags leader (replicas ++ (removing ++ (adding ++ recovery))) (second_tags isr (leader ++ (replicas ++ (removing ++ (adding ++ recovery)))) tags) in
    let d = second_tags replicas (removing ++ (adding ++ recovery)) c in
    record {
      isr = ints_field 0 r.isr (first_tags isr (leader ++ (replicas ++ (removing ++ (adding ++ recovery)))) tags);
      replicas = ints_field 2 r.replicas (first_tags replicas (removing ++ (adding ++ recovery)) c);
      removing = ints_field 3 r.removing (first_tags removing (adding ++ recovery) d);
      adding = ints_field 4 r.adding (first_tags adding recovery (second_tags removing (adding ++ recovery) d));
    }

credential_fits : (r : UserScramCredentialRecord) → AreFew (user_scram_credential.written r) → ShortCredential r
credential_fits r h =
    let all = before_tags (string ⊗ int8 ⊗ bytes ⊗ bytes ⊗ bytes ⊗ int32) (r.name, (r.mechanism, (r.salt, (r.stored_key, (r.server_key, r.iterations))))) h in
    let a = each_of string (int8 ⊗ bytes ⊗ bytes ⊗ bytes ⊗ int32) r.name (r.mechanism, (r.salt, (r.stored_key, (r.server_key, r.iterations)))) all in
    let b = (each_of int8 (bytes ⊗ bytes ⊗ bytes ⊗ int32) r.mechanism (r.salt, (r.stored_key, (r.server_key, r.iterations))) a.1).1 in
    let c = each_of bytes (bytes ⊗ bytes ⊗ int32) r.salt (r.stored_key, (r.server_key, r.iterations)) b in
    let d = each_of bytes (bytes ⊗ int32) r.stored_key (r.server_key, r.iterations) c.1 in
    let e = each_of bytes int32 r.server_key r.iterations d.1 in
    record { name = short_text r.name a.0; salt = short_bytes r.salt c.0; stored_key = short_bytes r.stored_key d.0; server_key = short_bytes r.server_key e.0 }

quota_fits : (r : ClientQuotaRecord) → AreFew (client_quota.written r) → ShortQuota r
quota_fits r h =
    let last : ℤ × (ℤ × Bool) = (r.value.whole, (r.value.micros, r.remove)) in
    let all = before_tags (quota_entities ⊗ string ⊗ int64 ⊗ int32 ⊗ flag) (r.entity, (r.key, last)) h in
    let a = each_of quota_entities (string ⊗ int64 ⊗ int32 ⊗ flag) r.entity (r.key, last) all in
    let b = each_of string (int64 ⊗ int32 ⊗ flag) r.key last a.1 in
    record {
      few = few_items quota_entity some_entity r.entity a.0;
      entity = all_fit quota_entity ShortEntity entity_fits r.entity (items_of quota_entity r.entity a.0);
      key = short_text r.key b.0;
    }

entry_fits : (r : AccessControlEntryRecord) → AreFew (access_control_entry.written r) → ShortEntry r
entry_fits r h =
    let last : ℤ × ℤ = (r.operation, r.permission) in
    let all = before_tags (uuid ⊗ int8 ⊗ string ⊗ int8 ⊗ string ⊗ string ⊗ int8 ⊗ int8) (r.id, (r.resource_type, (r.resource_name, (r.pattern_type, (r.principal, (r.host, last)))))) h in
    let a = (each_of uuid (int8 ⊗ string ⊗ int8 ⊗ string ⊗ string ⊗ int8 ⊗ int8) r.id (r.resource_type, (r.resource_name, (r.pattern_type, (r.principal, (r.host, last))))) all).1 in
    let b = (each_of int8 (string ⊗ int8 ⊗ string ⊗ string ⊗ int8 ⊗ int8) r.resource_type (r.resource_name, (r.pattern_type, (r.principal, (r.host, last)))) a).1 in
    let c = each_of string (int8 ⊗ string ⊗ string ⊗ int8 ⊗ int8) r.resource_name (r.pattern_type, (r.principal, (r.host, last))) b in
    let d = (each_of int8 (string ⊗ string ⊗ int8 ⊗ int8) r.pattern_type (r.principal, (r.host, last)) c.1).1 in
    let e = each_of string (string ⊗ int8 ⊗ int8) r.principal (r.host, last) d in
    let f = each_of string (int8 ⊗ int8) r.host last e.1 in
    record { resource_name = short_text r.resource_name c.0; principal = short_text r.principal e.0; host = short_text r.host f.0 }

-- the fields of a record after its key and version
fields_after : (key version : ℕ) (fields : List ℕ) → AreFew (head_written key version ++ fields) → AreFew fields
fields_after key version fields h = second_part (head_written key version) fields h

-- A record's lengths and counts fit where its bytes are fewer than 2 ^ 32.
pub lengths_fit : (r : MetaRecord) → length (bytes_of_record r) < 2 ^ 32 → LengthsFit r
lengths_fit (RegisterBroker r) h = registration_fits r (fields_after 0 2 (register_broker.written r) h)
lengths_fit (Topic r) h = short_text r.name (each_of string uuid r.name r.topic_id (before_tags (string ⊗ uuid) (r.name, r.topic_id) (fields_after 2 0 (topic.written r) h))).0
lengths_fit (Partition r) h = partition_fits r (fields_after 3 0 (partition.written r) h)
lengths_fit (Config r) h = config_fits r (fields_after 4 0 (config.written r) h)
lengths_fit (PartitionChange r) h = change_fits r (fields_after 5 0 (partition_change.written r) h)
lengths_fit (RemoveTopic i) h = tt
lengths_fit (UserScramCredential r) h = credential_fits r (fields_after 11 0 (user_scram_credential.written r) h)
lengths_fit (ClientQuota r) h = quota_fits r (fields_after 14 64 (client_quota.written r) h)
lengths_fit (ProducerIds r) h = tt
lengths_fit (AccessControlEntry r) h = entry_fits r (fields_after 18 0 (access_control_entry.written r) h)
lengths_fit (RemoveAccessControlEntry i) h = tt
lengths_fit NoOp h = tt
lengths_fit (ZkMigrationState state) h = tt
lengths_fit (RemoveUserScramCredential name mechanism) h =
    short_text name (each_of string int8 name mechanism (before_tags (string ⊗ int8) (name, mechanism) (fields_after 22 0 (name_and_mechanism.written (name, mechanism)) h))).0
lengths_fit (BeginTransaction name) h = text_field name (fields_after 23 0 (tagged_text.written name) h)
lengths_fit EndTransaction h = tt
lengths_fit (AbortTransaction reason) h = text_field reason (fields_after 25 0 (tagged_text.written reason) h)

-- ---- batches

content_holds : (a b c d e value : List ℕ) → length value < length ((0 ∷ []) ++ (a ++ (b ++ (c ++ ((d ++ value) ++ (e ++ []))))))
content_holds a b c d e value =
    omega (arith, length-append a (b ++ (c ++ ((d ++ value) ++ (e ++ [])))), length-append b (c ++ ((d ++ value) ++ (e ++ []))), length-append c ((d ++ value) ++ (e ++ [])), length-append (d ++ value) (e ++ []), length-append d value)

after_size : (size text value : List ℕ) → length value < length text → length value < length (size ++ text)
after_size size text value h = let e = length-append size text in omega (arith, e, h)

entry_holds : (n : ℕ) (value : List ℕ) → length value < length (entry.written (content_with n value))
entry_holds n value =
    after_size (varint.written (pos (length (content.written (content_with n value))))) (content.written (content_with n value)) value (content_holds (groups_of 9 0) (groups_of 9 (2 * n)) (groups_of 9 1) (groups_of 9 (2 * length value)) (groups_of 9 0) value)

count_of_values : (n : ℕ) (values : List (List ℕ)) → length values ≤ length (records_written n values)
count_of_values n [] = omega arith
count_of_values n (v ∷ vs) =
    let e = length-append (entry.written (content_with n v)) (records_written (n + 1) vs) in
    let one = entry_holds n v in
    let h = count_of_values (n + 1) vs in
    omega (arith, e, one, h)

each_value : (n : ℕ) (values : List (List ℕ)) → length (records_written n values) + 61 < 2 ^ 31 → AllFit Holds31 values
each_value n [] h = tt
each_value n (v ∷ vs) h =
    let e = length-append (entry.written (content_with n v)) (records_written (n + 1) vs) in
    let one = entry_holds n v in
    (omega (arith, e, one, h), each_value (n + 1) vs (omega (arith, e, h)))

-- The lengths and counts of a batch fit where its bytes are fewer than 2 ^ 31.
pub batch_fits : (values : List (List ℕ)) → length (batch_written (pos 0) (pos 0) (pos 0) values) < 2 ^ 31 → BatchFits values
batch_fits values h =
    let count = count_of_values 0 values in
    record { count = omega (arith, count, h); each = each_value 0 values (omega (arith, h)); whole = omega (arith, h) }

-- ---- tests of sizes

when_true : (b : Bool) (P : Type 0) → (b ≡ true → P) → OnTrue b P
when_true true P h = h refl
when_true false P h = tt

pub few_bytes_fit : (r : MetaRecord) (size : ℕ) → size ≡ length (bytes_of_record r) → OnTrue (leb size 4294967295) (LengthsFit r)
few_bytes_fit r size e = when_true (leb size 4294967295) (LengthsFit r) (λ h. lengths_fit r (let le = leb-true size 4294967295 h in omega (arith, le, e)))

pub small_batch_fits : (values : List (List ℕ)) (size : ℕ) → size ≡ length (batch_written (pos 0) (pos 0) (pos 0) values) → OnTrue (leb size 2147483647) (BatchFits values)
small_batch_fits values size e = when_true (leb size 2147483647) (BatchFits values) (λ h. batch_fits values (let le = leb-true size 2147483647 h in omega (arith, le, e)))
