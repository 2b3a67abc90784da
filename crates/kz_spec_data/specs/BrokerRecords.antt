-- Records of brokers and what they take, as a script writes them.
use Rattle.std.specs.Prelude.{◌==◌, Option, Some, None, if◌then◌else◌, codes}
use Rattle.serde_json.specs.Data.{Data}
use Rattle.serde_json.specs.Find.{as_bool}
use Rattle.kz_types.specs.declared.record.Endpoint.{Endpoint}
use Rattle.kz_types.specs.declared.record.Feature.{Feature}
use Rattle.kz_types.specs.declared.record.MetaRecord.{MetaRecord}
use Rattle.kz_types.specs.declared.record.MetaRecord.TheVariants.{RegisterBroker, Config, ProducerIds}
use Rattle.kz_spec_data.specs.Json.{member_count, text_or_null, text_member}
use Rattle.kz_spec_data.specs.LineFields.{◌>>=◌, int8, int16, uint16, int32, int64, uuid, list_of, field}

-- an endpoint: exactly `name`, `host`, `port` and `protocol`
abbrev pub endpoint_of : Data → Option Endpoint
endpoint_of d = if member_count d == 4
    then (text_member (codes "name") d >>= λ name.
    text_member (codes "host") d >>= λ host.
    field (codes "port") uint16 d >>= λ port.
    field (codes "protocol") int16 d >>= λ protocol.
    Some (record { name = name; host = host; port = port; protocol = protocol }))
    else None

-- a feature: exactly `name`, `min` and `max`
abbrev pub feature_of : Data → Option Feature
feature_of d = if member_count d == 3
    then (text_member (codes "name") d >>= λ name.
    field (codes "min") int16 d >>= λ min.
    field (codes "max") int16 d >>= λ max.
    Some (record { name = name; min = min; max = max }))
    else None

-- exactly `kind`, `brokerId`, `migrating`, the id `incarnation`, `brokerEpoch`, the lists `endpoints` and `features`,
-- `rack`, which is a text or null, `fenced` and `inShutdown`
abbrev pub register_broker_of : Data → Option MetaRecord
register_broker_of d = if member_count d == 10
    then (field (codes "brokerId") int32 d >>= λ broker.
    field (codes "migrating") as_bool d >>= λ migrating.
    field (codes "incarnation") uuid d >>= λ incarnation.
    field (codes "brokerEpoch") int64 d >>= λ epoch.
    field (codes "endpoints") (list_of endpoint_of) d >>= λ endpoints.
    field (codes "features") (list_of feature_of) d >>= λ features.
    field (codes "rack") text_or_null d >>= λ rack.
    field (codes "fenced") as_bool d >>= λ fenced.
    field (codes "inShutdown") as_bool d >>= λ in_shutdown.
    Some (RegisterBroker (record { broker_id = broker; migrating = migrating; incarnation = incarnation; broker_epoch = epoch; endpoints = endpoints; features = features; rack = rack; fenced = fenced; in_shutdown = in_shutdown })))
    else None

-- exactly `kind`, `resourceType`, `resourceName`, `name` and `value`, which is a text or null
abbrev pub config_of : Data → Option MetaRecord
config_of d = if member_count d == 5
    then (field (codes "resourceType") int8 d >>= λ kind.
    text_member (codes "resourceName") d >>= λ resource.
    text_member (codes "name") d >>= λ name.
    field (codes "value") text_or_null d >>= λ value.
    Some (Config (record { resource_type = kind; resource_name = resource; name = name; value = value })))
    else None

-- exactly `kind`, `brokerId`, `brokerEpoch` and `next`
abbrev pub producer_ids_of : Data → Option MetaRecord
producer_ids_of d = if member_count d == 4
    then (field (codes "brokerId") int32 d >>= λ broker.
    field (codes "brokerEpoch") int64 d >>= λ epoch.
    field (codes "next") int64 d >>= λ next.
    Some (ProducerIds (record { broker_id = broker; broker_epoch = epoch; next = next })))
    else None
