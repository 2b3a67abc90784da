-- Worked records that the laws by example share.
use Rattle.std.specs.Prelude.{ℕ, Bool, true, false, ℤ, pos, negsuc, List, [], ◌∷◌, ◌++◌, replicate, Option, Some, None, codes}
use Rattle.kz_types.specs.declared.id.Id.{Id}
use Rattle.kz_types.specs.declared.record.MetaRecord.{MetaRecord}
use Rattle.kz_types.specs.declared.record.MetaRecord.TheVariants as meta

-- the id whose last byte is this one
abbrev pub id : ℕ → Id
id n = record { bytes = replicate 15 0 ++ n ∷ [] }

abbrev pub topic : List ℕ → ℕ → MetaRecord
topic name n = meta.Topic (record { name = name; topic_id = id n })

-- partition 0 of a topic, on the brokers 1 and 2, led by 1
abbrev pub partition : ℕ → ℤ → MetaRecord
partition n leader_epoch = meta.Partition (record { partition_id = pos 0; topic_id = id n; replicas = pos 1 ∷ pos 2 ∷ []; isr = pos 1 ∷ pos 2 ∷ []; removing = []; adding = []; leader = pos 1; recovery = pos 0; leader_epoch = leader_epoch; partition_epoch = pos 0 })

-- a change of its brokers in sync and of its leader, where they are stated
abbrev pub change : ℕ → Option (List ℤ) → ℤ → MetaRecord
change n isr leader = meta.PartitionChange (record { partition_id = pos 0; topic_id = id n; isr = isr; leader = leader; replicas = None; removing = None; adding = None; recovery = negsuc 0 })

abbrev pub topic_member : List ℕ → List ℕ → Option (List ℕ) → MetaRecord
topic_member name member value = meta.Config (record { resource_type = pos 2; resource_name = name; name = member; value = value })

abbrev pub broker_member : List ℕ → List ℕ → Option (List ℕ) → MetaRecord
broker_member name member value = meta.Config (record { resource_type = pos 4; resource_name = name; name = member; value = value })

abbrev pub user_quota : List ℕ → List ℕ → Bool → MetaRecord
user_quota name key remove = meta.ClientQuota (record { entity = record { kind = codes "user"; name = Some name } ∷ []; key = key; value = record { whole = pos 1024; micros = pos 0 }; remove = remove })

abbrev pub credential : List ℕ → ℤ → ℤ → MetaRecord
credential name mechanism iterations = meta.UserScramCredential (record { name = name; mechanism = mechanism; salt = codes "s"; stored_key = codes "k"; server_key = codes "v"; iterations = iterations })

abbrev pub entry : ℕ → ℤ → List ℕ → MetaRecord
entry n kind name = meta.AccessControlEntry (record { id = id n; resource_type = kind; resource_name = name; pattern_type = pos 3; principal = codes "User:a"; host = codes "*"; operation = pos 3; permission = pos 3 })

abbrev pub block : ℤ → MetaRecord
block next = meta.ProducerIds (record { broker_id = negsuc 0; broker_epoch = negsuc 0; next = next })

-- a registration of a broker that is ready to migrate, in this epoch
abbrev pub registration : ℤ → ℤ → MetaRecord
registration broker epoch = meta.RegisterBroker (record { broker_id = broker; migrating = true; incarnation = id 7; broker_epoch = epoch; endpoints = []; features = []; rack = None; fenced = false; in_shutdown = false })
