-- The records that make the worked metadata of the law of metadata that returns.
use Rattle.std.specs.Prelude.{false, pos, List, [], ◌∷◌, ◌++◌, replicate, Some, codes}
use Rattle.kz_types.specs.declared.id.Id.{Id}
use Rattle.kz_types.specs.declared.record.MetaRecord.{MetaRecord}
use Rattle.kz_types.specs.declared.record.MetaRecord.TheVariants as meta

abbrev pub topic_id : Id
topic_id = record { bytes = replicate 15 0 ++ 7 ∷ [] }

abbrev pub topic : MetaRecord
topic = meta.Topic (record { name = codes "t"; topic_id = topic_id })

abbrev pub partition : MetaRecord
partition = meta.Partition (record { partition_id = pos 0; topic_id = topic_id; replicas = pos 1 ∷ pos 2 ∷ []; isr = pos 1 ∷ []; removing = []; adding = pos 2 ∷ []; leader = pos 1; recovery = pos 0; leader_epoch = pos 3; partition_epoch = pos 4 })

abbrev pub topic_member : MetaRecord
topic_member = meta.Config (record { resource_type = pos 2; resource_name = codes "t"; name = codes "retention.ms"; value = Some (codes "1") })

abbrev pub broker_member : MetaRecord
broker_member = meta.Config (record { resource_type = pos 4; resource_name = codes "1"; name = codes "a"; value = Some (codes "b") })

abbrev pub quota : MetaRecord
quota = meta.ClientQuota (record { entity = record { kind = codes "user"; name = Some (codes "u") } ∷ record { kind = codes "client-id"; name = Some (codes "c") } ∷ []; key = codes "producer_byte_rate"; value = record { whole = pos 1; micros = pos 500000 }; remove = false })

abbrev pub credential : MetaRecord
credential = meta.UserScramCredential (record { name = codes "u"; mechanism = pos 1; salt = codes "s"; stored_key = codes "k"; server_key = codes "v"; iterations = pos 4096 })

abbrev pub entry : MetaRecord
entry = meta.AccessControlEntry (record { id = record { bytes = replicate 15 0 ++ 9 ∷ [] }; resource_type = pos 2; resource_name = codes "t"; pattern_type = pos 3; principal = codes "User:u"; host = codes "*"; operation = pos 3; permission = pos 3 })

abbrev pub producer_ids : MetaRecord
producer_ids = meta.ProducerIds (record { broker_id = pos 1; broker_epoch = pos 0; next = pos 1000 })

-- a record of each kind of entity, in a batch of the epoch 5
unfoldable pub worked_records : List MetaRecord
worked_records = topic ∷ partition ∷ topic_member ∷ broker_member ∷ quota ∷ credential ∷ entry ∷ producer_ids ∷ []
