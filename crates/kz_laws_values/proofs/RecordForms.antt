-- The forms of records are exact.
use Rattle.std.proofs.Common.{◌≡◌, ℕ, ◌+◌, pos, negsuc, is_none, List, length, None, Ok, refl, ap, ◌∙◌, subst}
use Rattle.std.specs.Ordering.{int_eq}
use Rattle.std.specs.Int.{w8, w16, w32, w64}
use Rattle.kz_types.specs.declared.record.QuotaEntity.{QuotaEntity}
use Rattle.kz_types.specs.QuotaEntities.{user_first}
use Rattle.kz_spec_data.specs.Fields.{Reading, Format, ◌>>=◌, unsigned_number, signed_number, id, nullable_bytes, nullable_text}
use Rattle.kz_spec_data.specs.Forms.{nullable_ints, ◌⊗◌, list_of, nothing, plain, text_content}
use Rattle.kz_spec_data.specs.Records.{int8, int16, uint16, int32, int64, uuid, string, nullable_string, bytes, ints, endpoint, feature, register_broker, topic, partition_tags, partition, config, ints_tag, leader_tag, stated_recovery_tag, change_tags, partition_change, user_scram_credential, quota_entity, quota_entities, client_quota, producer_ids, access_control_entry, id_alone, state_alone, name_and_mechanism, text_tags, tagged_text, no_fields}
use Rattle.kz_laws_values.proofs.Exact.{AreSmall, came, ok_same, Takes, Comes, Exact, pair_exact, mapped_exact}
use Rattle.kz_laws_values.proofs.Basics.{bytes_8, bytes_16, bytes_32, bytes_64, signs_8, signs_16, signs_32, signs_64, unsigned_exact, signed_exact, id_exact, field_exact, present_exact, flag_exact}
use Rattle.kz_laws_values.proofs.Counted.{counted_exact, text_exact, ints_exact}
use Rattle.kz_laws_values.proofs.RecordLists.{list_exact}
use Rattle.kz_laws_values.proofs.Sections.{ExactTags, section_exact, nothing_exact, closed_exact}
use Rattle.kz_laws_values.proofs.Known.{plain_exact, text_content_exact, tag_exact, both_exact, step_of_tag}

int8_exact : Exact int8
int8_exact = field_exact (signed_number w8) (signed_exact w8 bytes_8 signs_8)

int16_exact : Exact int16
int16_exact = field_exact (signed_number w16) (signed_exact w16 bytes_16 signs_16)

uint16_exact : Exact uint16
uint16_exact = field_exact (unsigned_number w16) (unsigned_exact w16 bytes_16)

int32_exact : Exact int32
int32_exact = field_exact (signed_number w32) (signed_exact w32 bytes_32 signs_32)

int64_exact : Exact int64
int64_exact = field_exact (signed_number w64) (signed_exact w64 bytes_64 signs_64)

uuid_exact : Exact uuid
uuid_exact = field_exact id id_exact

string_exact : Exact string
string_exact = present_exact nullable_text text_exact

nullable_string_exact : Exact nullable_string
nullable_string_exact = field_exact nullable_text text_exact

bytes_exact : Exact bytes
bytes_exact = present_exact nullable_bytes (counted_exact 1)

all_ints_exact : Exact ints
all_ints_exact = present_exact nullable_ints ints_exact

-- one after another
infixr 20 ◌⊠◌
◌⊠◌ : {E X Y : Type 0} {f : Format E X} {g : Format E Y} → Exact f → Exact g → Exact (f ⊗ g)
ef ⊠ eg = pair_exact _ _ ef eg

endpoint_exact : Exact endpoint
endpoint_exact = mapped_exact _ _ _ (record { there = λ x. refl; again = λ y. refl }) (closed_exact _
    (string_exact ⊠ string_exact ⊠ uint16_exact ⊠ int16_exact))

feature_exact : Exact feature
feature_exact = mapped_exact _ _ _ (record { there = λ x. refl; again = λ y. refl }) (closed_exact _
    (string_exact ⊠ int16_exact ⊠ int16_exact))

pub register_broker_exact : Exact register_broker
register_broker_exact = mapped_exact _ _ _ (record { there = λ x. refl; again = λ y. refl }) (closed_exact _
    (int32_exact ⊠ flag_exact ⊠ uuid_exact ⊠ int64_exact ⊠ list_exact endpoint endpoint_exact ⊠ list_exact feature feature_exact
    ⊠ nullable_string_exact ⊠ flag_exact ⊠ flag_exact))

pub topic_exact : Exact topic
topic_exact = mapped_exact _ _ _ (record { there = λ x. refl; again = λ y. refl }) (closed_exact _ (string_exact ⊠ uuid_exact))

partition_tags_exact : ExactTags partition_tags (step_of_tag 0 (plain (signed_number w8)))
partition_tags_exact = tag_exact 0 (pos 0) (int_eq (pos 0)) (plain (signed_number w8)) (plain_exact (signed_number w8) (signed_exact w8 bytes_8 signs_8))

pub partition_exact : Exact partition
partition_exact = mapped_exact _ _ _ (record { there = λ x. refl; again = λ y. refl })
    (int32_exact ⊠ uuid_exact ⊠ all_ints_exact ⊠ all_ints_exact ⊠ all_ints_exact ⊠ all_ints_exact ⊠ int32_exact ⊠ int32_exact
    ⊠ int32_exact ⊠ section_exact partition_tags _ partition_tags_exact)

pub config_exact : Exact config
config_exact = mapped_exact _ _ _ (record { there = λ x. refl; again = λ y. refl }) (closed_exact _
    (int8_exact ⊠ string_exact ⊠ string_exact ⊠ nullable_string_exact))

ints_tag_exact : (number : ℕ) → ExactTags (ints_tag number) (step_of_tag number (plain nullable_ints))
ints_tag_exact number = tag_exact number None is_none (plain nullable_ints) (plain_exact nullable_ints ints_exact)

leader_tag_exact : ExactTags leader_tag (step_of_tag 1 (plain (signed_number w32)))
leader_tag_exact = tag_exact 1 (negsuc 1) (int_eq (negsuc 1)) (plain (signed_number w32)) (plain_exact (signed_number w32) (signed_exact w32 bytes_32 signs_32))

stated_recovery_tag_exact : ExactTags stated_recovery_tag (step_of_tag 5 (plain (signed_number w8)))
stated_recovery_tag_exact = tag_exact 5 (negsuc 0) (int_eq (negsuc 0)) (plain (signed_number w8)) (plain_exact (signed_number w8) (signed_exact w8 bytes_8 signs_8))

pub partition_change_exact : Exact partition_change
partition_change_exact = mapped_exact _ _ _ (record { there = λ x. refl; again = λ y. refl })
    (int32_exact ⊠ uuid_exact ⊠ section_exact change_tags _ (both_exact _ _ _ _ (ints_tag_exact 0) (both_exact _ _ _ _ leader_tag_exact
    (both_exact _ _ _ _ (ints_tag_exact 2) (both_exact _ _ _ _ (ints_tag_exact 3) (both_exact _ _ _ _ (ints_tag_exact 4) stated_recovery_tag_exact))))))

pub user_scram_credential_exact : Exact user_scram_credential
user_scram_credential_exact = mapped_exact _ _ _ (record { there = λ x. refl; again = λ y. refl }) (closed_exact _
    (string_exact ⊠ int8_exact ⊠ bytes_exact ⊠ bytes_exact ⊠ bytes_exact ⊠ int32_exact))

quota_entity_exact : Exact quota_entity
quota_entity_exact = mapped_exact _ _ _ (record { there = λ x. refl; again = λ y. refl }) (closed_exact _ (string_exact ⊠ nullable_string_exact))

entities_taken : (parts : List QuotaEntity) (bytes rest : List ℕ) (at : ℕ) → quota_entities.spells parts bytes → Takes quota_entities.read parts bytes rest at
entities_taken parts bytes rest at s =
    ap (λ m. m >>= λ x. Ok (user_first x.0, x.1)) ((list_exact quota_entity quota_entity_exact).taken s.0 bytes rest at s.2)
    ∙ ap (λ ps. Ok (ps, record { at = at + length bytes; left = rest })) s.1

entities_given : (parts : List QuotaEntity) (r next : Reading) → AreSmall r.left → quota_entities.read r ≡ Ok (parts, next) → Comes quota_entities parts r.left next.left
entities_given parts r next small h =
    let c = came ((list_of quota_entity).read r) (λ x. Ok (user_first x.0, x.1)) (parts, next) h in
    let one = (list_exact quota_entity quota_entity_exact).given c.value.0 r c.value.1 small c.first in
    subst (λ q. Comes quota_entities q.0 r.left q.1.left) (ok_same (user_first c.value.0, c.value.1) (parts, next) c.second)
    (record { bytes = one.bytes; split = one.split; spelled = (c.value.0, refl, one.spelled) })

quota_entities_exact : Exact quota_entities
quota_entities_exact = record { taken = entities_taken; given = entities_given }

pub client_quota_exact : Exact client_quota
client_quota_exact = mapped_exact _ _ _ (record { there = λ x. refl; again = λ y. refl }) (closed_exact _
    (quota_entities_exact ⊠ string_exact ⊠ int64_exact ⊠ int32_exact ⊠ flag_exact))

pub producer_ids_exact : Exact producer_ids
producer_ids_exact = mapped_exact _ _ _ (record { there = λ x. refl; again = λ y. refl }) (closed_exact _ (int32_exact ⊠ int64_exact ⊠ int64_exact))

pub access_control_entry_exact : Exact access_control_entry
access_control_entry_exact = mapped_exact _ _ _ (record { there = λ x. refl; again = λ y. refl }) (closed_exact _
    (uuid_exact ⊠ int8_exact ⊠ string_exact ⊠ int8_exact ⊠ string_exact ⊠ string_exact ⊠ int8_exact ⊠ int8_exact))

pub id_alone_exact : Exact id_alone
id_alone_exact = closed_exact uuid uuid_exact

pub state_alone_exact : Exact state_alone
state_alone_exact = closed_exact int8 int8_exact

pub name_and_mechanism_exact : Exact name_and_mechanism
name_and_mechanism_exact = closed_exact _ (string_exact ⊠ int8_exact)

pub tagged_text_exact : Exact tagged_text
tagged_text_exact = section_exact text_tags _ (tag_exact 0 None is_none text_content text_content_exact)

pub no_fields_exact : Exact no_fields
no_fields_exact = section_exact nothing _ nothing_exact
