-- What is written for a record spells it, where the record fits and its lengths fit.
use Rattle.std.proofs.Common.{◌≡◌, ℕ, ◌+◌, ◌<◌, ◌^◌, ℤ, pos, negsuc, true, is_none, List, ◌++◌, length, Option, Some, None, Ok, append_assoc, refl, sym, ap, ◌∙◌, arith}
use Rattle.std.specs.Ordering.{int_eq}
use Rattle.std.specs.Int.{w8, w16, w32, w64, to_be_bytes, cast_unsigned}
use Rattle.std.proofs.lemmas.Bool.Decides.{Decides-int_eq}
use Rattle.kz_types.specs.declared.record.MetaRecord.{MetaRecord}
use Rattle.kz_types.specs.declared.record.MetaRecord.TheVariants.{RegisterBroker, Topic, Partition, Config, PartitionChange, RemoveTopic, UserScramCredential, ClientQuota, ProducerIds, AccessControlEntry, RemoveAccessControlEntry, NoOp, ZkMigrationState, RemoveUserScramCredential, BeginTransaction, EndTransaction, AbortTransaction}
use Rattle.kz_types.specs.declared.record.CodecFault.{CodecFault}
use Rattle.kz_spec_data.specs.Fields.{Format, unsigned_number, signed_number, id, uvarint, nullable_bytes, nullable_text}
use Rattle.kz_spec_data.specs.Forms.{nullable_ints, ◌⊗◌, nothing, plain, text_content}
use Rattle.kz_spec_data.specs.Records.{int8, int16, uint16, int32, int64, uuid, string, nullable_string, bytes, ints as all_ints, endpoint, feature, register_broker, topic, partition_tags, partition, config, ints_tag, leader_tag, stated_recovery_tag, change_tags, partition_change, user_scram_credential, quota_entity, quota_entities, client_quota, producer_ids, access_control_entry, id_alone, state_alone, name_and_mechanism, text_tags, tagged_text, no_fields, IsValue, head_written, Spells, bytes_of_record, Fits, FieldFits, LengthsFit, record_of}
use Rattle.kz_laws_values.proofs.Written.{Writes, any, unsigned_writes, signed_writes, id_writes, uvarint_spells, counted_writes, text_writes, ints_writes, field_writes, present_writes, flag_writes, pair_writes, mapped_writes, list_writes, WritesTags, section_writes, nothing_writes, closed_writes, both_writes, tag_writes}
use Rattle.kz_laws_values.proofs.WholeRecords.{spelled_is_read}

int8_writes : Writes int8 any
int8_writes = field_writes (signed_number w8) (signed_writes w8)

int16_writes : Writes int16 any
int16_writes = field_writes (signed_number w16) (signed_writes w16)

uint16_writes : Writes uint16 any
uint16_writes = field_writes (unsigned_number w16) (unsigned_writes w16)

int32_writes : Writes int32 any
int32_writes = field_writes (signed_number w32) (signed_writes w32)

int64_writes : Writes int64 any
int64_writes = field_writes (signed_number w64) (signed_writes w64)

uuid_writes : Writes uuid any
uuid_writes = field_writes id id_writes

string_writes : Writes string any
string_writes = present_writes nullable_text text_writes

nullable_string_writes : Writes nullable_string any
nullable_string_writes = field_writes nullable_text text_writes

bytes_writes : Writes bytes any
bytes_writes = present_writes nullable_bytes (counted_writes 1)

all_ints_writes : Writes all_ints any
all_ints_writes = present_writes nullable_ints ints_writes

-- one after another, where any value is short
infixr 20 ◌⊠◌
◌⊠◌ : {E X Y : Type 0} {f : Format E X} {g : Format E Y} → Writes f any → Writes g any → Writes (f ⊗ g) any
wf ⊠ wg = pair_writes _ _ any wf wg

endpoint_writes : Writes endpoint any
endpoint_writes = mapped_writes _ _ _ any (closed_writes _ (string_writes ⊠ string_writes ⊠ uint16_writes ⊠ int16_writes))

feature_writes : Writes feature any
feature_writes = mapped_writes _ _ _ any (closed_writes _ (string_writes ⊠ int16_writes ⊠ int16_writes))

register_broker_writes : Writes register_broker any
register_broker_writes = mapped_writes _ _ _ any (closed_writes _
    (int32_writes ⊠ flag_writes ⊠ uuid_writes ⊠ int64_writes ⊠ list_writes endpoint endpoint_writes ⊠ list_writes feature feature_writes
    ⊠ nullable_string_writes ⊠ flag_writes ⊠ flag_writes))

topic_writes : Writes topic any
topic_writes = mapped_writes _ _ _ any (closed_writes _ (string_writes ⊠ uuid_writes))

same_number : (a b : ℤ) → int_eq a b ≡ true → b ≡ a
same_number a b h = sym ((Decides-int_eq a b).0 h)

no_value : {X : Type 0} (o : Option X) → is_none o ≡ true → o ≡ None
no_value None h = refl
no_value (Some x) h = absurd (cc)

one_byte : (z : ℤ) → any z → length (to_be_bytes w8 (cast_unsigned w8 z)) < 2 ^ 32
one_byte z short = omega arith

four_bytes : (z : ℤ) → any z → length (to_be_bytes w32 (cast_unsigned w32 z)) < 2 ^ 32
four_bytes z short = omega arith

partition_tags_write : WritesTags partition_tags any 0 1
partition_tags_write = tag_writes 0 (pos 0) (int_eq (pos 0)) (plain (signed_number w8)) any (same_number (pos 0)) (λ z fits. (signed_writes w8).writes z fits tt) one_byte

partition_writes : Writes partition any
partition_writes = mapped_writes _ _ _ any
    (int32_writes ⊠ uuid_writes ⊠ all_ints_writes ⊠ all_ints_writes ⊠ all_ints_writes ⊠ all_ints_writes ⊠ int32_writes ⊠ int32_writes
    ⊠ int32_writes ⊠ section_writes partition_tags any 0 1 (omega arith) partition_tags_write)

config_writes : Writes config any
config_writes = mapped_writes _ _ _ any (closed_writes _ (int8_writes ⊠ string_writes ⊠ string_writes ⊠ nullable_string_writes))

abbrev short_ints : Option (List ℤ) → Type 0
short_ints value = FieldFits (plain nullable_ints) value

ints_tag_writes : (number : ℕ) → WritesTags (ints_tag number) short_ints number (number + 1)
ints_tag_writes number = tag_writes number None is_none (plain nullable_ints) short_ints no_value (λ value fits. ints_writes.writes value fits tt) (λ value short. short)

leader_tag_writes : WritesTags leader_tag any 1 2
leader_tag_writes = tag_writes 1 (negsuc 1) (int_eq (negsuc 1)) (plain (signed_number w32)) any (same_number (negsuc 1)) (λ z fits. (signed_writes w32).writes z fits tt) four_bytes

stated_recovery_tag_writes : WritesTags stated_recovery_tag any 5 6
stated_recovery_tag_writes = tag_writes 5 (negsuc 0) (int_eq (negsuc 0)) (plain (signed_number w8)) any (same_number (negsuc 0)) (λ z fits. (signed_writes w8).writes z fits tt) one_byte

abbrev short_change : Option (List ℤ) × (ℤ × (Option (List ℤ) × (Option (List ℤ) × (Option (List ℤ) × ℤ)))) → Type 0
short_change s = short_ints s.0 × (any s.1.0 × (short_ints s.1.1.0 × (short_ints s.1.1.1.0 × (short_ints s.1.1.1.1.0 × any s.1.1.1.1.1))))

change_tags_write : WritesTags change_tags short_change 0 6
change_tags_write =
    both_writes _ _ short_ints _ 0 1 6 (ints_tag_writes 0) (both_writes _ _ any _ 1 2 6 leader_tag_writes
    (both_writes _ _ short_ints _ 2 3 6 (ints_tag_writes 2) (both_writes _ _ short_ints _ 3 4 6 (ints_tag_writes 3)
    (both_writes _ _ short_ints any 4 5 6 (ints_tag_writes 4) stated_recovery_tag_writes))))

partition_change_writes : Writes partition_change (λ c. short_change (c.isr, (c.leader, (c.replicas, (c.removing, (c.adding, c.recovery))))))
partition_change_writes = mapped_writes _ _ _ _
    (pair_writes _ _ _ int32_writes (pair_writes _ _ _ uuid_writes (section_writes change_tags short_change 0 6 (omega arith) change_tags_write)))

user_scram_credential_writes : Writes user_scram_credential any
user_scram_credential_writes = mapped_writes _ _ _ any (closed_writes _
    (string_writes ⊠ int8_writes ⊠ bytes_writes ⊠ bytes_writes ⊠ bytes_writes ⊠ int32_writes))

quota_entity_writes : Writes quota_entity any
quota_entity_writes = mapped_writes _ _ _ any (closed_writes _ (string_writes ⊠ nullable_string_writes))

quota_entities_writes : Writes quota_entities any
quota_entities_writes = record { writes = λ parts fits short. (parts, fits.0, (list_writes quota_entity quota_entity_writes).writes parts fits.1 tt) }

client_quota_writes : Writes client_quota any
client_quota_writes = mapped_writes _ _ _ any (closed_writes _ (quota_entities_writes ⊠ string_writes ⊠ int64_writes ⊠ int32_writes ⊠ flag_writes))

producer_ids_writes : Writes producer_ids any
producer_ids_writes = mapped_writes _ _ _ any (closed_writes _ (int32_writes ⊠ int64_writes ⊠ int64_writes))

access_control_entry_writes : Writes access_control_entry any
access_control_entry_writes = mapped_writes _ _ _ any (closed_writes _
    (uuid_writes ⊠ int8_writes ⊠ string_writes ⊠ int8_writes ⊠ string_writes ⊠ string_writes ⊠ int8_writes ⊠ int8_writes))

id_alone_writes : Writes id_alone any
id_alone_writes = closed_writes uuid uuid_writes

state_alone_writes : Writes state_alone any
state_alone_writes = closed_writes int8 int8_writes

name_and_mechanism_writes : Writes name_and_mechanism any
name_and_mechanism_writes = closed_writes _ (string_writes ⊠ int8_writes)

abbrev short_text : Option (List ℕ) → Type 0
short_text value = FieldFits text_content value

text_tags_write : WritesTags text_tags short_text 0 1
text_tags_write = tag_writes 0 None is_none text_content short_text no_value (λ value fits. (counted_writes 1).writes value fits tt) (λ value short. short)

tagged_text_writes : Writes tagged_text short_text
tagged_text_writes = section_writes text_tags short_text 0 1 (omega arith) text_tags_write

no_fields_writes : Writes no_fields any
no_fields_writes = section_writes nothing any 0 0 (omega arith) nothing_writes

-- ---- whole records

value_spells : {X : Type 0} (key version : ℕ) (form : Format CodecFault X) (x : X) → key < 2 ^ 32 → version < 2 ^ 32 → form.spells x (form.written x)
    → IsValue key version form x (head_written key version ++ form.written x)
value_spells key version form x known stated is =
    let whole : head_written key version ++ form.written x ≡ uvarint.written 1 ++ (uvarint.written key ++ (uvarint.written version ++ form.written x)) =
    append_assoc (uvarint.written 1) (uvarint.written key ++ uvarint.written version) (form.written x)
    ∙ ap (λ b. uvarint.written 1 ++ b) (append_assoc (uvarint.written key) (uvarint.written version) (form.written x)) in
    (uvarint.written 1, uvarint.written key, uvarint.written version, form.written x, whole, uvarint_spells 1 (omega arith), uvarint_spells key known, uvarint_spells version stated, is)

pub written_is_spelled : (m : MetaRecord) → Fits m → LengthsFit m → Spells m (bytes_of_record m)
written_is_spelled (RegisterBroker x) fits lengths = value_spells 0 2 register_broker x (omega arith) (omega arith) (register_broker_writes.writes x fits tt)
written_is_spelled (Topic x) fits lengths = value_spells 2 0 topic x (omega arith) (omega arith) (topic_writes.writes x fits tt)
written_is_spelled (Partition x) fits lengths = value_spells 3 0 partition x (omega arith) (omega arith) (partition_writes.writes x fits tt)
written_is_spelled (Config x) fits lengths = value_spells 4 0 config x (omega arith) (omega arith) (config_writes.writes x fits tt)
written_is_spelled (PartitionChange x) fits lengths =
    value_spells 5 0 partition_change x (omega arith) (omega arith) (partition_change_writes.writes x fits (lengths.isr, (tt, (lengths.replicas, (lengths.removing, (lengths.adding, tt))))))
written_is_spelled (RemoveTopic x) fits lengths = value_spells 9 0 id_alone x (omega arith) (omega arith) (id_alone_writes.writes x fits tt)
written_is_spelled (UserScramCredential x) fits lengths = value_spells 11 0 user_scram_credential x (omega arith) (omega arith) (user_scram_credential_writes.writes x fits tt)
written_is_spelled (ClientQuota x) fits lengths = value_spells 14 64 client_quota x (omega arith) (omega arith) (client_quota_writes.writes x fits tt)
written_is_spelled (ProducerIds x) fits lengths = value_spells 15 0 producer_ids x (omega arith) (omega arith) (producer_ids_writes.writes x fits tt)
written_is_spelled (AccessControlEntry x) fits lengths = value_spells 18 0 access_control_entry x (omega arith) (omega arith) (access_control_entry_writes.writes x fits tt)
written_is_spelled (RemoveAccessControlEntry x) fits lengths = value_spells 19 0 id_alone x (omega arith) (omega arith) (id_alone_writes.writes x fits tt)
written_is_spelled NoOp fits lengths = value_spells 20 0 no_fields tt (omega arith) (omega arith) (no_fields_writes.writes tt tt tt)
written_is_spelled (ZkMigrationState x) fits lengths = value_spells 21 0 state_alone x (omega arith) (omega arith) (state_alone_writes.writes x fits tt)
written_is_spelled (RemoveUserScramCredential name mechanism) fits lengths = value_spells 22 0 name_and_mechanism (name, mechanism) (omega arith) (omega arith) (name_and_mechanism_writes.writes (name, mechanism) fits tt)
written_is_spelled (BeginTransaction x) fits lengths = value_spells 23 0 tagged_text x (omega arith) (omega arith) (tagged_text_writes.writes x fits lengths)
written_is_spelled EndTransaction fits lengths = value_spells 24 0 no_fields tt (omega arith) (omega arith) (no_fields_writes.writes tt tt tt)
written_is_spelled (AbortTransaction x) fits lengths = value_spells 25 0 tagged_text x (omega arith) (omega arith) (tagged_text_writes.writes x fits lengths)

pub written_is_read : (m : MetaRecord) → Fits m → LengthsFit m → record_of (bytes_of_record m) ≡ Ok m
written_is_read m fits lengths = spelled_is_read m (bytes_of_record m) (written_is_spelled m fits lengths)
