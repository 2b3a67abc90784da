-- Records of users and clients and what they may do, as a script writes them.
use Rattle.std.specs.Prelude.{◌==◌, List, Option, Some, None, option_and_then, if◌then◌else◌, codes}
use Rattle.std.specs.Result.{result_ok}
use Rattle.serde_json.specs.Data.{Data}
use Rattle.serde_json.specs.Find.{as_str, as_bool}
use Rattle.kz_types.specs.QuotaEntities.{user_first}
use Rattle.kz_types.specs.Quotas.{is_quota}
use Rattle.kz_spec_data.specs.Quotas.{quota_of}
use Rattle.kz_types.specs.declared.row.QuotaValue.{QuotaValue}
use Rattle.kz_types.specs.declared.record.QuotaEntity.{QuotaEntity}
use Rattle.kz_types.specs.declared.record.MetaRecord.{MetaRecord}
use Rattle.kz_types.specs.declared.record.MetaRecord.TheVariants.{UserScramCredential, ClientQuota, AccessControlEntry, RemoveAccessControlEntry, RemoveUserScramCredential}
use Rattle.kz_spec_data.specs.Json.{member_count, text_or_null, text_member}
use Rattle.kz_spec_data.specs.LineFields.{◌>>=◌, int8, int32, int64, uuid, bytes, list_of, field}

-- ---- credentials

-- exactly `kind`, `name`, `mechanism`, `salt`, `storedKey` and `serverKey`, which are bytes in base64, and `iterations`
abbrev pub user_scram_credential_of : Data → Option MetaRecord
user_scram_credential_of d = if member_count d == 7
    then (text_member (codes "name") d >>= λ name.
    field (codes "mechanism") int8 d >>= λ mechanism.
    field (codes "salt") bytes d >>= λ salt.
    field (codes "storedKey") bytes d >>= λ stored.
    field (codes "serverKey") bytes d >>= λ server.
    field (codes "iterations") int32 d >>= λ iterations.
    Some (UserScramCredential (record { name = name; mechanism = mechanism; salt = salt; stored_key = stored; server_key = server; iterations = iterations })))
    else None

-- exactly `kind`, `name` and `mechanism`
abbrev pub remove_user_scram_credential_of : Data → Option MetaRecord
remove_user_scram_credential_of d = if member_count d == 3
    then (text_member (codes "name") d >>= λ name.
    field (codes "mechanism") int8 d >>= λ mechanism.
    Some (RemoveUserScramCredential name mechanism))
    else None

-- ---- quotas

-- a part of whom a quota speaks of: exactly `kind` and `name`, which is a text or null
abbrev pub entity_of : Data → Option QuotaEntity
entity_of d = if member_count d == 2
    then (text_member (codes "kind") d >>= λ kind.
    field (codes "name") text_or_null d >>= λ name.
    Some (record { kind = kind; name = name }))
    else None

-- the parts. A user and a client id are one value in either order
abbrev pub entities_of : Data → Option (List QuotaEntity)
entities_of d = list_of entity_of d >>= λ parts. Some (user_first parts)

-- the quota that a text is
abbrev pub quota : Data → Option QuotaValue
quota d = option_and_then (λ text. result_ok (quota_of text)) (as_str d)

-- a whole part and millionths that no text is
abbrev pub beyond_quotas : QuotaValue → Option QuotaValue
beyond_quotas q = if is_quota q then None else Some q

-- `whole` and `micros`: a whole part below 0, or millionths outside of 0 to 999999
abbrev pub parts_of_quota : Data → Option QuotaValue
parts_of_quota d =
    field (codes "whole") int64 d >>= λ whole.
    field (codes "micros") int32 d >>= λ micros.
    beyond_quotas (record { whole = whole; micros = micros })

-- With five members the value of a record is the quota in `value`; with six it is `whole` and `micros`.
abbrev pub quota_value_of : Data → Option QuotaValue
quota_value_of d =
    if member_count d == 5 then field (codes "value") quota d
    else if member_count d == 6 then parts_of_quota d
    else None

-- `kind`, `entity`, which is a list, `key`, `remove`, and `value` or both `whole` and `micros`
abbrev pub client_quota_of : Data → Option MetaRecord
client_quota_of d =
    field (codes "entity") entities_of d >>= λ entity.
    text_member (codes "key") d >>= λ key.
    quota_value_of d >>= λ value.
    field (codes "remove") as_bool d >>= λ remove.
    Some (ClientQuota (record { entity = entity; key = key; value = value; remove = remove }))

-- ---- access control entries

-- exactly `kind`, `id`, `resourceType`, `resourceName`, `patternType`, `principal`, `host`, `operation` and `permission`
abbrev pub access_control_entry_of : Data → Option MetaRecord
access_control_entry_of d = if member_count d == 9
    then (field (codes "id") uuid d >>= λ entry.
    field (codes "resourceType") int8 d >>= λ kind.
    text_member (codes "resourceName") d >>= λ resource.
    field (codes "patternType") int8 d >>= λ pattern.
    text_member (codes "principal") d >>= λ principal.
    text_member (codes "host") d >>= λ host.
    field (codes "operation") int8 d >>= λ operation.
    field (codes "permission") int8 d >>= λ permission.
    Some (AccessControlEntry (record { id = entry; resource_type = kind; resource_name = resource; pattern_type = pattern; principal = principal; host = host; operation = operation; permission = permission })))
    else None

-- exactly `kind` and `id`
abbrev pub remove_access_control_entry_of : Data → Option MetaRecord
remove_access_control_entry_of d = if member_count d == 2
    then (field (codes "id") uuid d >>= λ entry.
    Some (RemoveAccessControlEntry entry))
    else None
