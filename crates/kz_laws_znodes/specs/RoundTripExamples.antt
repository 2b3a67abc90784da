-- Worked metadata that returns.
use Rattle.std.specs.Prelude.{pos, [], ◌∷◌, ◌++◌, replicate, Some, codes}
use Rattle.kz_spec_data.specs.Metadata.{Image}

-- a topic of one partition with its configuration, the configuration of a broker, a quota of a user's client, a credential of
-- the user, an access control entry, and a next producer id
abbrev pub example_image : Image
example_image = record {
  topics = record {
    name = codes "t";
    id = record { bytes = replicate 15 0 ++ 7 ∷ [] };
    partitions = record { number = pos 0; row = record { replicas = pos 1 ∷ pos 2 ∷ []; isr = pos 1 ∷ []; removing = []; adding = pos 2 ∷ []; leader = pos 1; recovery = pos 0; leader_epoch = pos 3; partition_epoch = pos 4; controller_epoch = pos 5 } } ∷ [];
    pairs = record { name = codes "retention.ms"; value = codes "1" } ∷ [];
  } ∷ [];
  broker_configs = record { name = codes "1"; pairs = record { name = codes "a"; value = codes "b" } ∷ [] } ∷ [];
  quotas = record { path = codes "/config/users/u/clients/c"; quotas = record { key = codes "producer_byte_rate"; value = record { whole = pos 1; micros = pos 500000 } } ∷ [] } ∷ [];
  users = record { name = codes "u"; scrams = record { mechanism = pos 1; value = record { salt = codes "s"; stored_key = codes "k"; server_key = codes "v"; iterations = pos 4096 } } ∷ [] } ∷ [];
  acls = record { id = record { bytes = replicate 15 0 ++ 9 ∷ [] }; row = record { kind = pos 2; pattern = pos 3; name = codes "t"; principal = codes "User:u"; host = codes "*"; operation = pos 3; permission = pos 3 } } ∷ [];
  brokers = [];
  next_producer = Some (pos 1000);
  state = pos 0;
}
