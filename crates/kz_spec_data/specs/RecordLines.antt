-- Records of the metadata log, as a script writes them: JSON objects with the record's name as `kind`, and exactly its
-- fields, under the names below. Tagged fields may be absent, which is their default. Whole numbers are of the range of
-- the field's type. Null stands for no text or, in a tagged field, for no list, and is no number, flag, id or object.
use Rattle.std.specs.Prelude.{ℕ, List, [], ◌∷◌, Option, option_and_then, codes}
use Rattle.serde_json.specs.Data.{Data}
use Rattle.kz_types.specs.declared.record.MetaRecord.{MetaRecord}
use Rattle.kz_spec_data.specs.Json.{json_of, text_member, by_name}
use Rattle.kz_spec_data.specs.TopicRecords.{topic_of, partition_of, partition_change_of, remove_topic_of}
use Rattle.kz_spec_data.specs.BrokerRecords.{register_broker_of, config_of, producer_ids_of}
use Rattle.kz_spec_data.specs.UserRecords.{user_scram_credential_of, remove_user_scram_credential_of, client_quota_of, access_control_entry_of, remove_access_control_entry_of}
use Rattle.kz_spec_data.specs.LogRecords.{no_op_of, zk_migration_state_of, begin_transaction_of, end_transaction_of, abort_transaction_of}

-- the records of the migration and of transactions, by their names
unfoldable pub log_forms : List (List ℕ × (Data → Option MetaRecord))
log_forms =
    (codes "NoOp", no_op_of)
    ∷ (codes "ZkMigrationState", zk_migration_state_of)
    ∷ (codes "BeginTransaction", begin_transaction_of)
    ∷ (codes "EndTransaction", end_transaction_of)
    ∷ (codes "AbortTransaction", abort_transaction_of)
    ∷ []

-- those of users and clients, and the ones above
unfoldable pub user_forms : List (List ℕ × (Data → Option MetaRecord))
user_forms =
    (codes "UserScramCredential", user_scram_credential_of)
    ∷ (codes "ClientQuota", client_quota_of)
    ∷ (codes "AccessControlEntry", access_control_entry_of)
    ∷ (codes "RemoveAccessControlEntry", remove_access_control_entry_of)
    ∷ (codes "RemoveUserScramCredential", remove_user_scram_credential_of)
    ∷ log_forms

-- those of topics, and the ones above
unfoldable pub topic_forms : List (List ℕ × (Data → Option MetaRecord))
topic_forms =
    (codes "Topic", topic_of)
    ∷ (codes "Partition", partition_of)
    ∷ (codes "PartitionChange", partition_change_of)
    ∷ (codes "RemoveTopic", remove_topic_of)
    ∷ user_forms

-- all records by their names
abbrev pub record_forms : List (List ℕ × (Data → Option MetaRecord))
record_forms =
    (codes "RegisterBroker", register_broker_of)
    ∷ (codes "Config", config_of)
    ∷ (codes "ProducerIds", producer_ids_of)
    ∷ topic_forms

-- the record that a JSON value is
unfoldable pub record_of : Data → Option MetaRecord
record_of d = option_and_then (λ kind. by_name record_forms kind d) (text_member (codes "kind") d)

-- the record that a text is
abbrev pub record_in : List ℕ → Option MetaRecord
record_in text = option_and_then record_of (json_of text)
