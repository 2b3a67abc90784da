-- Worked znodes that the laws by example share, and the records that stand for them.
use Rattle.std.specs.Prelude.{ℕ, false, ℤ, pos, List, [], ◌∷◌, ◌++◌, Option, Some, None, codes}
use Rattle.kz_types.specs.declared.id.Id.{Id}
use Rattle.kz_types.specs.declared.tree.Row.{Row}
use Rattle.kz_types.specs.declared.tree.Rendered.{Rendered}
use Rattle.kz_types.specs.declared.record.MetaRecord.{MetaRecord}
use Rattle.kz_types.specs.declared.record.MetaRecord.TheVariants as meta
use Rattle.kz_spec_data.specs.Metadata.{Image, empty_image}
use Rattle.kz_spec_data.specs.Image.{all_applied}

-- a znode with this data, of data version 0
abbrev pub row : List ℕ → List ℕ → Row
row path text = record { path = path; body = text; version = pos 0; owner = None; czxid = pos 1; mzxid = pos 1; pzxid = pos 1 }

-- a rendered znode with this data
abbrev pub znode_with : List ℕ → List ℕ → Rendered
znode_with path text = record { path = path; body = text }

-- a rendered znode as it stands when it was made
abbrev pub row_of_rendered : Rendered → Row
row_of_rendered r = row r.path r.body

-- the metadata that these records make at epoch 1
abbrev pub image_of_records : List MetaRecord → Image
image_of_records records = all_applied (pos 1) records empty_image

-- the metadata that these records make at epoch 1, and then further ones at epoch 3
abbrev pub made_later : List MetaRecord → List MetaRecord → Image
made_later records further = all_applied (pos 3) further (image_of_records records)

-- the znodes of a topic of three partitions, with its configuration, a user's quota and credential, and entries of the topic
abbrev pub orders_rows : List Row
orders_rows =
    row (codes "/brokers/topics") []
    ∷ row (codes "/brokers/topics/orders") (codes "{\"version\":3, \"topic_id\":\"AAECAwQFBgcICQoLDA0ODw\",\"partitions\":{\"0\":[1,2],\"1\":[2,3],\"2\":[3,1]},\"adding_replicas\":{},\"removing_replicas\":{},\"note\":1}")
    ∷ row (codes "/brokers/topics/orders/partitions") []
    ∷ row (codes "/brokers/topics/orders/partitions/0") []
    ∷ row (codes "/brokers/topics/orders/partitions/0/state") (codes "{\"controller_epoch\":5,\"leader\":1,\"version\":1,\"leader_epoch\":4,\"isr\":[1,2]}")
    ∷ row (codes "/brokers/topics/orders/partitions/1") []
    ∷ row (codes "/brokers/topics/orders/partitions/1/state") (codes "{\"controller_epoch\":5,\"leader\":2,\"version\":1,\"leader_epoch\":0,\"isr\":[2,3]}")
    ∷ row (codes "/brokers/topics/orders/partitions/2") []
    ∷ row (codes "/brokers/topics/orders/partitions/2/state") (codes "{\"controller_epoch\":5,\"leader\":3,\"version\":1,\"leader_epoch\":0,\"isr\":[3,1]}")
    ∷ row (codes "/config/topics") []
    ∷ row (codes "/config/topics/orders") (codes "{\"version\":1,\"config\":{\"retention.ms\":\"86400000\"}}")
    ∷ row (codes "/config/users") []
    ∷ row (codes "/config/users/alice") (codes "{\"version\":1,\"config\":{\"producer_byte_rate\":\"1024.0\",\"SCRAM-SHA-256\":\"salt=c2FsdA==,stored_key=a2V5,server_key=c2Vy,iterations=4096\"}}")
    ∷ row (codes "/kafka-acl/Topic") []
    ∷ row (codes "/kafka-acl/Topic/orders") (codes "{\"version\":1,\"acls\":[{\"principal\":\"User:alice\",\"permissionType\":\"Allow\",\"operation\":\"Read\",\"host\":\"*\"},{\"principal\":\"User:alice\",\"permissionType\":\"Allow\",\"operation\":\"Write\",\"host\":\"*\"}]}")
    ∷ []

-- the id whose bytes are 0 to 15
abbrev pub counting_id : Id
counting_id = record { bytes = 0 ∷ 1 ∷ 2 ∷ 3 ∷ 4 ∷ 5 ∷ 6 ∷ 7 ∷ 8 ∷ 9 ∷ 10 ∷ 11 ∷ 12 ∷ 13 ∷ 14 ∷ 15 ∷ [] }

-- a topic of that id
abbrev pub counting_topic : List ℕ → MetaRecord
counting_topic name = meta.Topic (record { name = name; topic_id = counting_id })

-- its partition of this number on these brokers, all in sync
abbrev pub partition_on : ℤ → List ℤ → ℤ → ℤ → MetaRecord
partition_on number replicas leader leader_epoch = meta.Partition (record { partition_id = number; topic_id = counting_id; replicas = replicas; isr = replicas; removing = []; adding = []; leader = leader; recovery = pos 0; leader_epoch = leader_epoch; partition_epoch = pos 0 })

-- the migrated entry of this number: a user is allowed this operation on a resource of this name
abbrev pub allowing_entry : ℕ → List ℕ → ℤ → MetaRecord
allowing_entry n name operation = meta.AccessControlEntry (record { id = record { bytes = 75 ∷ 82 ∷ 65 ∷ 70 ∷ 84 ∷ 77 ∷ 73 ∷ 71 ∷ 0 ∷ 0 ∷ 0 ∷ 0 ∷ 0 ∷ 0 ∷ 0 ∷ n ∷ [] }; resource_type = pos 2; resource_name = name; pattern_type = pos 3; principal = codes "User:alice"; host = codes "*"; operation = operation; permission = pos 3 })

-- the quota of a client of a user, where None is the default
abbrev pub quota_of_pair : Option (List ℕ) → Option (List ℕ) → MetaRecord
quota_of_pair user client = meta.ClientQuota (record { entity = record { kind = codes "user"; name = user } ∷ record { kind = codes "client-id"; name = client } ∷ []; key = codes "consumer_byte_rate"; value = record { whole = pos 7; micros = pos 500000 }; remove = false })

abbrev pub client_quota : List ℕ → List ℕ → MetaRecord
client_quota user client = quota_of_pair (Some user) (Some client)

-- the records of the topic and of what else stands with it
abbrev pub orders_records : List MetaRecord
orders_records =
    counting_topic (codes "orders")
    ∷ partition_on (pos 0) (pos 1 ∷ pos 2 ∷ []) (pos 1) (pos 4)
    ∷ partition_on (pos 1) (pos 2 ∷ pos 3 ∷ []) (pos 2) (pos 0)
    ∷ partition_on (pos 2) (pos 3 ∷ pos 1 ∷ []) (pos 3) (pos 0)
    ∷ meta.Config (record { resource_type = pos 2; resource_name = codes "orders"; name = codes "retention.ms"; value = Some (codes "86400000") })
    ∷ meta.UserScramCredential (record { name = codes "alice"; mechanism = pos 1; salt = codes "salt"; stored_key = codes "key"; server_key = codes "ser"; iterations = pos 4096 })
    ∷ meta.ClientQuota (record { entity = record { kind = codes "user"; name = Some (codes "alice") } ∷ []; key = codes "producer_byte_rate"; value = record { whole = pos 1024; micros = pos 0 }; remove = false })
    ∷ allowing_entry 0 (codes "orders") (pos 3)
    ∷ allowing_entry 1 (codes "orders") (pos 4)
    ∷ []

-- the data of a topic of that id, with these partitions
abbrev pub counting_data : List ℕ → List ℕ
counting_data partitions = codes "{\"version\":3,\"topic_id\":\"AAECAwQFBgcICQoLDA0ODw\",\"partitions\":" ++ (partitions ++ codes "}")

-- the data of a state: its leader, and its brokers in sync
abbrev pub state_data : List ℕ → List ℕ → List ℕ
state_data leader isr = codes "{\"version\":1,\"leader_epoch\":2,\"controller_epoch\":3,\"leader_recovery_state\":1,\"leader\":" ++ (leader ++ (codes ",\"isr\":" ++ (isr ++ codes "}")))

-- the data of a configuration with these members
abbrev pub config_data : List ℕ → List ℕ
config_data members = codes "{\"version\":1,\"config\":" ++ (members ++ codes "}")

-- the data of one entry, which allows a user this operation
abbrev pub entry_data : List ℕ → List ℕ
entry_data operation = codes "{\"version\":1,\"acls\":[{\"principal\":\"User:alice\",\"permissionType\":\"Allow\",\"operation\":" ++ (operation ++ codes ",\"host\":\"*\"}]}")

-- the data of the producer block, up to this id
abbrev pub block_data : List ℕ → List ℕ
block_data end = codes "{\"version\":1,\"broker\":3,\"block_start\":\"0\",\"block_end\":\"" ++ (end ++ codes "\"}")
