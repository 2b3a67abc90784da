-- What is written for a record has at most as many bytes as any spelling of it.
use Rattle.std.proofs.Common.{◌≡◌, ℕ, ◌+◌, ◌≤◌, pos, negsuc, true, false, Bool, cond, is_none, List, [], ◌∷◌, ◌++◌, length, None, Ok, refl, ap, ◌∙◌, length-append, arith}
use Rattle.std.specs.Ordering.{int_eq}
use Rattle.std.specs.Int.{w8, w16, w32, w64}
use Rattle.kz_types.specs.declared.record.QuotaEntity.{QuotaEntity}
use Rattle.kz_types.specs.declared.record.MetaRecord.{MetaRecord}
use Rattle.kz_types.specs.declared.record.MetaRecord.TheVariants.{RegisterBroker, Topic, Partition, Config, PartitionChange, RemoveTopic, UserScramCredential, ClientQuota, ProducerIds, AccessControlEntry, RemoveAccessControlEntry, NoOp, ZkMigrationState, RemoveUserScramCredential, BeginTransaction, EndTransaction, AbortTransaction}
use Rattle.kz_types.specs.declared.record.CodecFault.{CodecFault}
use Rattle.kz_types.specs.QuotaEntities.{is_client_first, other_order, user_first}
use Rattle.kz_spec_data.specs.Fields.{Format, unsigned_number, signed_number, id, uvarint, nullable_bytes, nullable_text}
use Rattle.kz_spec_data.specs.Forms.{nullable_ints, ◌⊗◌, list_of, items_written, nothing, plain, text_content}
use Rattle.kz_spec_data.specs.Records.{int8, int16, uint16, int32, int64, uuid, string, nullable_string, bytes, ints as all_ints, endpoint, feature, register_broker, topic, partition_tags, partition, config, ints_tag, leader_tag, stated_recovery_tag, change_tags, partition_change, user_scram_credential, quota_entity, quota_entities, client_quota, producer_ids, access_control_entry, id_alone, state_alone, name_and_mechanism, text_tags, tagged_text, no_fields, IsValue, head_written, Spells, bytes_of_record, record_of}
use Rattle.kz_laws_values.specs.Texts.{AreBytes}
use Rattle.kz_laws_values.proofs.Exact.{small_from_bytes}
use Rattle.kz_laws_values.proofs.WholeRecords.{read_is_spelled}
use Rattle.kz_laws_values.specs.Lengths.{IsShortest}
use Rattle.kz_laws_values.proofs.Fields.{unsigned_shortest, signed_shortest, id_shortest, flag_shortest, uvarint_below, counted_shortest, text_shortest, ints_shortest, field_shortest, present_shortest}
use Rattle.kz_laws_values.proofs.FormLengths.{pair_shortest, mapped_shortest, list_shortest, ShortestTags, section_shortest, nothing_shortest, closed_shortest, both_shortest, tag_shortest}

int8_shortest : IsShortest int8
int8_shortest = field_shortest (signed_number w8) (signed_shortest w8)

int16_shortest : IsShortest int16
int16_shortest = field_shortest (signed_number w16) (signed_shortest w16)

uint16_shortest : IsShortest uint16
uint16_shortest = field_shortest (unsigned_number w16) (unsigned_shortest w16)

int32_shortest : IsShortest int32
int32_shortest = field_shortest (signed_number w32) (signed_shortest w32)

int64_shortest : IsShortest int64
int64_shortest = field_shortest (signed_number w64) (signed_shortest w64)

uuid_shortest : IsShortest uuid
uuid_shortest = field_shortest id id_shortest

string_shortest : IsShortest string
string_shortest = present_shortest nullable_text text_shortest

nullable_string_shortest : IsShortest nullable_string
nullable_string_shortest = field_shortest nullable_text text_shortest

bytes_shortest : IsShortest bytes
bytes_shortest = present_shortest nullable_bytes (counted_shortest 1)

all_ints_shortest : IsShortest all_ints
all_ints_shortest = present_shortest nullable_ints ints_shortest

-- one after another
infixr 20 ◌⊠◌
◌⊠◌ : {E X Y : Type 0} {f : Format E X} {g : Format E Y} → IsShortest f → IsShortest g → IsShortest (f ⊗ g)
sf ⊠ sg = pair_shortest _ _ sf sg

endpoint_shortest : IsShortest endpoint
endpoint_shortest = mapped_shortest _ _ _ (closed_shortest _ (string_shortest ⊠ string_shortest ⊠ uint16_shortest ⊠ int16_shortest))

feature_shortest : IsShortest feature
feature_shortest = mapped_shortest _ _ _ (closed_shortest _ (string_shortest ⊠ int16_shortest ⊠ int16_shortest))

register_broker_shortest : IsShortest register_broker
register_broker_shortest = mapped_shortest _ _ _ (closed_shortest _
    (int32_shortest ⊠ flag_shortest ⊠ uuid_shortest ⊠ int64_shortest ⊠ list_shortest endpoint endpoint_shortest ⊠ list_shortest feature feature_shortest
    ⊠ nullable_string_shortest ⊠ flag_shortest ⊠ flag_shortest))

topic_shortest : IsShortest topic
topic_shortest = mapped_shortest _ _ _ (closed_shortest _ (string_shortest ⊠ uuid_shortest))

partition_tags_shortest : ShortestTags partition_tags 0 1
partition_tags_shortest = tag_shortest 0 (pos 0) (int_eq (pos 0)) (plain (signed_number w8)) (signed_shortest w8) refl

partition_shortest : IsShortest partition
partition_shortest = mapped_shortest _ _ _
    (int32_shortest ⊠ uuid_shortest ⊠ all_ints_shortest ⊠ all_ints_shortest ⊠ all_ints_shortest ⊠ all_ints_shortest ⊠ int32_shortest ⊠ int32_shortest
    ⊠ int32_shortest ⊠ section_shortest partition_tags 0 1 partition_tags_shortest)

config_shortest : IsShortest config
config_shortest = mapped_shortest _ _ _ (closed_shortest _ (int8_shortest ⊠ string_shortest ⊠ string_shortest ⊠ nullable_string_shortest))

ints_tag_shortest : (number : ℕ) → ShortestTags (ints_tag number) number (number + 1)
ints_tag_shortest number = tag_shortest number None is_none (plain nullable_ints) ints_shortest refl

leader_tag_shortest : ShortestTags leader_tag 1 2
leader_tag_shortest = tag_shortest 1 (negsuc 1) (int_eq (negsuc 1)) (plain (signed_number w32)) (signed_shortest w32) refl

stated_recovery_tag_shortest : ShortestTags stated_recovery_tag 5 6
stated_recovery_tag_shortest = tag_shortest 5 (negsuc 0) (int_eq (negsuc 0)) (plain (signed_number w8)) (signed_shortest w8) refl

change_tags_shortest : ShortestTags change_tags 0 6
change_tags_shortest =
    both_shortest _ _ 0 1 6 (ints_tag_shortest 0) (both_shortest _ _ 1 2 6 leader_tag_shortest (both_shortest _ _ 2 3 6 (ints_tag_shortest 2)
    (both_shortest _ _ 3 4 6 (ints_tag_shortest 3) (both_shortest _ _ 4 5 6 (ints_tag_shortest 4) stated_recovery_tag_shortest))))

partition_change_shortest : IsShortest partition_change
partition_change_shortest = mapped_shortest _ _ _ (int32_shortest ⊠ uuid_shortest ⊠ section_shortest change_tags 0 6 change_tags_shortest)

user_scram_credential_shortest : IsShortest user_scram_credential
user_scram_credential_shortest = mapped_shortest _ _ _ (closed_shortest _
    (string_shortest ⊠ int8_shortest ⊠ bytes_shortest ⊠ bytes_shortest ⊠ bytes_shortest ⊠ int32_shortest))

quota_entity_shortest : IsShortest quota_entity
quota_entity_shortest = mapped_shortest _ _ _ (closed_shortest _ (string_shortest ⊠ nullable_string_shortest))

-- ---- the parts of whom a quota speaks of, in either order

either_count : (swapped : Bool) (parts : List QuotaEntity) → length (cond swapped (other_order parts) parts) ≡ length parts
either_count false parts = refl
either_count true [] = refl
either_count true (one ∷ []) = refl
either_count true (one ∷ two ∷ []) = refl
either_count true (one ∷ two ∷ three ∷ more) = refl

two_items : (written : QuotaEntity → List ℕ) (one two : QuotaEntity) → length (items_written written (two ∷ one ∷ [])) ≡ length (items_written written (one ∷ two ∷ []))
two_items written one two =
    let a = length-append (written two) (written one ++ []) in
    let b = length-append (written one) [] in
    let c = length-append (written one) (written two ++ []) in
    let d = length-append (written two) [] in
    omega (arith, a, b, c, d)

either_length : (written : QuotaEntity → List ℕ) (swapped : Bool) (parts : List QuotaEntity) → length (items_written written (cond swapped (other_order parts) parts)) ≡ length (items_written written parts)
either_length written false parts = refl
either_length written true [] = refl
either_length written true (one ∷ []) = refl
either_length written true (one ∷ two ∷ []) = two_items written one two
either_length written true (one ∷ two ∷ three ∷ more) = refl

either_written : (read : List QuotaEntity) → length ((list_of quota_entity).written (user_first read)) ≡ length ((list_of quota_entity).written read)
either_written read =
    let count = either_count (is_client_first read) read in
    let items = either_length quota_entity.written (is_client_first read) read in
    let a = length-append (uvarint.written (length (user_first read) + 1)) (items_written quota_entity.written (user_first read)) in
    let b = length-append (uvarint.written (length read + 1)) (items_written quota_entity.written read) in
    let head = ap (λ n. length (uvarint.written (n + 1))) count in
    omega (arith, items, a, b, head)

entities_least : (parts : List QuotaEntity) (text : List ℕ) → quota_entities.spells parts text → length (quota_entities.written parts) ≤ length text
entities_least parts text s =
    let least = (list_shortest quota_entity quota_entity_shortest).least s.0 text s.2 in
    let same = either_written s.0 in
    let is = ap (λ ps. length ((list_of quota_entity).written ps)) s.1 in
    omega (arith, least, same, is)

quota_entities_shortest : IsShortest quota_entities
quota_entities_shortest = record { least = entities_least }

client_quota_shortest : IsShortest client_quota
client_quota_shortest = mapped_shortest _ _ _ (closed_shortest _ (quota_entities_shortest ⊠ string_shortest ⊠ int64_shortest ⊠ int32_shortest ⊠ flag_shortest))

producer_ids_shortest : IsShortest producer_ids
producer_ids_shortest = mapped_shortest _ _ _ (closed_shortest _ (int32_shortest ⊠ int64_shortest ⊠ int64_shortest))

access_control_entry_shortest : IsShortest access_control_entry
access_control_entry_shortest = mapped_shortest _ _ _ (closed_shortest _
    (uuid_shortest ⊠ int8_shortest ⊠ string_shortest ⊠ int8_shortest ⊠ string_shortest ⊠ string_shortest ⊠ int8_shortest ⊠ int8_shortest))

id_alone_shortest : IsShortest id_alone
id_alone_shortest = closed_shortest _ uuid_shortest

state_alone_shortest : IsShortest state_alone
state_alone_shortest = closed_shortest _ int8_shortest

name_and_mechanism_shortest : IsShortest name_and_mechanism
name_and_mechanism_shortest = closed_shortest _ (string_shortest ⊠ int8_shortest)

text_tags_shortest : ShortestTags text_tags 0 1
text_tags_shortest = tag_shortest 0 None is_none text_content (counted_shortest 1) refl

tagged_text_shortest : IsShortest tagged_text
tagged_text_shortest = section_shortest text_tags 0 1 text_tags_shortest

no_fields_shortest : IsShortest no_fields
no_fields_shortest = section_shortest nothing 0 0 nothing_shortest

-- ---- records

value_least : {X : Type 0} (key version : ℕ) (form : Format CodecFault X) → IsShortest form → (x : X) (text : List ℕ) → IsValue key version form x text → length (head_written key version ++ form.written x) ≤ length text
value_least key version form sf x text v =
    let frame = uvarint_below 1 1 v.0 (omega arith) v.5 in
    let number = uvarint_below key key v.1 (omega arith) v.6 in
    let stated = uvarint_below version version v.2 (omega arith) v.7 in
    let fields = sf.least x v.3 v.8 in
    let a = length-append (head_written key version) (form.written x) in
    let b = length-append (uvarint.written 1) (uvarint.written key ++ uvarint.written version) in
    let c = length-append (uvarint.written key) (uvarint.written version) in
    let d = ap length v.4 ∙ length-append v.0 (v.1 ++ (v.2 ++ v.3)) in
    let e = length-append v.1 (v.2 ++ v.3) in
    let f = length-append v.2 v.3 in
    omega (arith, frame, number, stated, fields, a, b, c, d, e, f)

pub record_least : (text : List ℕ) (m : MetaRecord) → Spells m text → length (bytes_of_record m) ≤ length text
record_least text (RegisterBroker x) s = value_least 0 2 register_broker register_broker_shortest x text s
record_least text (Topic x) s = value_least 2 0 topic topic_shortest x text s
record_least text (Partition x) s = value_least 3 0 partition partition_shortest x text s
record_least text (Config x) s = value_least 4 0 config config_shortest x text s
record_least text (PartitionChange x) s = value_least 5 0 partition_change partition_change_shortest x text s
record_least text (RemoveTopic x) s = value_least 9 0 id_alone id_alone_shortest x text s
record_least text (UserScramCredential x) s = value_least 11 0 user_scram_credential user_scram_credential_shortest x text s
record_least text (ClientQuota x) s = value_least 14 64 client_quota client_quota_shortest x text s
record_least text (ProducerIds x) s = value_least 15 0 producer_ids producer_ids_shortest x text s
record_least text (AccessControlEntry x) s = value_least 18 0 access_control_entry access_control_entry_shortest x text s
record_least text (RemoveAccessControlEntry x) s = value_least 19 0 id_alone id_alone_shortest x text s
record_least text NoOp s = value_least 20 0 no_fields no_fields_shortest tt text s
record_least text (ZkMigrationState x) s = value_least 21 0 state_alone state_alone_shortest x text s
record_least text (RemoveUserScramCredential name mechanism) s = value_least 22 0 name_and_mechanism name_and_mechanism_shortest (name, mechanism) text s
record_least text (BeginTransaction x) s = value_least 23 0 tagged_text tagged_text_shortest x text s
record_least text EndTransaction s = value_least 24 0 no_fields no_fields_shortest tt text s
record_least text (AbortTransaction x) s = value_least 25 0 tagged_text tagged_text_shortest x text s

pub read_least : (text : List ℕ) (m : MetaRecord) → AreBytes text → record_of text ≡ Ok m → length (bytes_of_record m) ≤ length text
read_least text m are h = record_least text m (read_is_spelled m text (small_from_bytes text are) h)
