-- Quotas and credentials in configurations.
use Rattle.std.specs.Prelude.{Bool, true, false, [], ◌∷◌, List}
use Rattle.std.specs.List.{list_all}
use Rattle.kz_types.specs.Quotas.{is_quota}
use Rattle.kz_types.specs.declared.bodies.QuotaRow.{QuotaRow}
use Rattle.kz_types.specs.declared.bodies.Body.{Body}
use Rattle.kz_types.specs.declared.bodies.Body.TheVariants as body
use Rattle.kz_types.specs.declared.key.EntityKey.{EntityKey}
use Rattle.kz_types.specs.declared.key.EntityKey.TheVariants.{Topic, Partition, TopicConfig, BrokerConfig, Client, User, UserClient, Ip, Acl, Producer}
use Rattle.kz_spec_data.specs.Credentials.{Entries}
use Rattle.kz_json.specs.declared.entries.Entry.{Entry}
use Rattle.kz_json.specs.declared.entries.Entry.TheVariants.{Quota, Credential}

-- what one member says
abbrev pub entry_value : Entry → Entries
entry_value (Quota row) = record { quotas = row ∷ []; scrams = [] }
entry_value (Credential pair) = record { quotas = []; scrams = pair ∷ [] }

-- an entity whose configuration is of quotas and credentials
abbrev pub has_quotas : EntityKey → Bool
has_quotas (Topic name) = false
has_quotas (Partition topic partition) = false
has_quotas (TopicConfig name) = false
has_quotas (BrokerConfig broker) = false
has_quotas (Client client) = true
has_quotas (User user) = true
has_quotas (UserClient user client) = true
has_quotas (Ip address) = true
has_quotas (Acl pattern kind name) = false
has_quotas Producer = false

-- each quota is in its range
abbrev pub are_quotas : List QuotaRow → Bool
are_quotas rows = list_all (λ row. is_quota row.value) rows

-- each quota of a body is in its range
abbrev pub keeps_quotas : Body → Bool
keeps_quotas (body.Topic id partitions) = true
keeps_quotas (body.State leader leader_epoch controller_epoch isr recovery) = true
keeps_quotas (body.Config pairs) = true
keeps_quotas (body.Quota quotas scrams) = are_quotas quotas
keeps_quotas (body.Acls rows) = true
keeps_quotas (body.Producer broker start end) = true
keeps_quotas body.Blank = true
