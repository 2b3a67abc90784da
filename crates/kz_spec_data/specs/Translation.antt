-- The records that stand for the znodes of the migrated area.
use Rattle.std.specs.Prelude.{ℕ, Bool, false, not, ◌||◌, ◌+◌, nat_lt, ℤ, pos, negsuc, ◌+ℤ◌, int_lt, List, [], ◌∷◌, ◌++◌, length, map, Option, Some, None, option_and_then, Result, Ok, Err, if◌then◌else◌, codes}
use Rattle.std.specs.Ordering.{int_eq, int_cmp}
use Rattle.std.specs.Int.{w64, to_be_bytes}
use Rattle.std.specs.List.{list_any, sum_by}
use Rattle.std.specs.Result.{result_ok}
use Rattle.std.specs.Fmt.{signed_decimal}
use Rattle.kz_types.specs.declared.limits.Limit.TheVariants as limits
use Rattle.kz_types.specs.Limits.{number_of_limit}
use Rattle.kz_types.specs.declared.limits.TheConstants.{MAX_EPOCH, MAX_RECORDS}
use Rattle.kz_types.specs.declared.id.Id.{Id}
use Rattle.kz_types.specs.declared.tree.Row.{Row}
use Rattle.kz_types.specs.declared.row.AclRow.{AclRow}
use Rattle.kz_types.specs.declared.bodies.Pair.{Pair}
use Rattle.kz_types.specs.declared.bodies.AssignmentRow.{AssignmentRow}
use Rattle.kz_types.specs.declared.bodies.QuotaRow.{QuotaRow}
use Rattle.kz_types.specs.declared.bodies.ScramPair.{ScramPair}
use Rattle.kz_types.specs.declared.bodies.Body.{Body}
use Rattle.kz_types.specs.declared.bodies.Body.TheVariants as body
use Rattle.kz_types.specs.declared.key.EntityKey.{EntityKey}
use Rattle.kz_types.specs.declared.key.EntityKey.TheVariants as key
use Rattle.kz_types.specs.declared.kind.Kind.{Kind}
use Rattle.kz_types.specs.declared.kind.Kind.TheVariants as kind
use Rattle.kz_types.specs.declared.fault.BodyFault.{BodyFault}
use Rattle.kz_types.specs.declared.fault.BodyFault.TheVariants as fault
use Rattle.kz_types.specs.declared.fault.ReadWhy.{ReadWhy}
use Rattle.kz_types.specs.declared.fault.ReadWhy.TheVariants as why
use Rattle.kz_types.specs.declared.record.MetaRecord.{MetaRecord}
use Rattle.kz_types.specs.declared.record.MetaRecord.TheVariants as meta
use Rattle.kz_types.specs.declared.record.PartitionRecord.{PartitionRecord}
use Rattle.kz_types.specs.declared.record.QuotaEntity.{QuotaEntity}
use Rattle.kz_types.specs.Paths.{kind_of, key_of, path_of}
use Rattle.kz_types.specs.Numbers.{is_in}
use Rattle.kz_spec_data.specs.Bodies.{read_body, are_some_of}
use Rattle.kz_types.specs.Ordered.{find}
use Rattle.kz_spec_data.specs.Tree.{row_at}
use Rattle.kz_spec_data.specs.Image.{empty_image, all_applied, same_id}
use Rattle.kz_spec_data.specs.Rendering.{Excess, excess}

-- A path that can't be translated, and why.
pub record Unreadable : Type 0 where
  pub path : List ℕ
  pub why : ReadWhy

abbrev pub Translated : Type 0
Translated = Result (List MetaRecord) Unreadable

-- the records of a znode, or why it can't be translated
abbrev pub RowRecords : Type 0
RowRecords = Result (List MetaRecord) ReadWhy

-- the fault of a member's value
abbrev pub bad_field : List ℕ → RowRecords
bad_field name = Err (why.Body (fault.BadField name))

-- ---- what other znodes say

-- the znode of an entity
abbrev pub row_of : EntityKey → List Row → Option Row
row_of k rows = row_at (path_of k) rows

-- what an entity's znode says, where it can be read
abbrev pub body_of_row : Row → Option Body
body_of_row r = option_and_then (λ k. result_ok (read_body k r.body)) (key_of r.path)

-- ---- topics

-- a leader of -2 is none, as -1 is
abbrev pub leader_of : ℤ → ℤ
leader_of leader = if int_eq leader (negsuc 1) then negsuc 0 else leader

-- the first replica, of which there is one
abbrev pub first_replica : List ℤ → ℤ
first_replica [] = negsuc 0
first_replica (id ∷ ids) = id

-- a partition without a state: all replicas are in sync, the first one leads
abbrev pub new_partition : Id → AssignmentRow → PartitionRecord
new_partition id a = record { partition_id = a.number; topic_id = id; replicas = a.replicas; isr = a.replicas; removing = a.removing; adding = a.adding; leader = first_replica a.replicas; recovery = pos 0; leader_epoch = pos 0; partition_epoch = pos 0 }

-- a partition with a state, whose znode has this data version
abbrev pub partition_with : Id → AssignmentRow → ℤ → Option Body → PartitionRecord
partition_with id a version (Some (body.State leader leader_epoch controller_epoch isr recovery)) = record { partition_id = a.number; topic_id = id; replicas = a.replicas; isr = isr; removing = a.removing; adding = a.adding; leader = leader_of leader; recovery = recovery; leader_epoch = leader_epoch; partition_epoch = version }
partition_with id a version b = new_partition id a

-- a partition by the znode of its state. Where that can't be read, its own path is told
abbrev pub partition_by : Id → AssignmentRow → Option Row → PartitionRecord
partition_by id a None = new_partition id a
partition_by id a (Some r) = partition_with id a r.version (body_of_row r)

abbrev pub partition_record : List Row → List ℕ → Id → AssignmentRow → MetaRecord
partition_record rows name id a = meta.Partition (partition_by id a (row_of (key.Partition name a.number) rows))

abbrev pub is_topic_with : Id → Option Body → Bool
is_topic_with id (Some (body.Topic other partitions)) = same_id id other
is_topic_with id b = false

-- whether a topic of these znodes has this id
abbrev pub is_taken : Id → List Row → Bool
is_taken id rows = list_any (λ r. is_topic_with id (body_of_row r)) rows

-- a topic, and then its partitions by rising number
abbrev pub topic_records : List Row → List ℕ → Id → List AssignmentRow → List MetaRecord
topic_records rows name id partitions = meta.Topic (record { name = name; topic_id = id }) ∷ map (partition_record rows name id) partitions

-- a topic whose id no topic before it has
abbrev pub records_of_topic : List Row → List Row → List ℕ → Result Body BodyFault → RowRecords
records_of_topic rows earlier name (Err e) = Err (why.Body e)
records_of_topic rows earlier name (Ok (body.Topic id partitions)) = if is_taken id earlier then Err why.SameId else Ok (topic_records rows name id partitions)
records_of_topic rows earlier name (Ok b) = Ok []

-- ---- states of partitions

abbrev pub number_of_assignment : AssignmentRow → ℤ
number_of_assignment a = a.number

abbrev pub assignments_in : Option Body → List AssignmentRow
assignments_in (Some (body.Topic id partitions)) = partitions
assignments_in b = []

-- the brokers of a partition, where its topic's znode assigns any
abbrev pub assignment_at : List ℕ → ℤ → List Row → Option AssignmentRow
assignment_at topic number rows = find int_cmp number_of_assignment number (assignments_in (option_and_then body_of_row (row_of (key.Topic topic) rows)))

-- none, or a replica
abbrev pub may_lead : List ℤ → ℤ → Bool
may_lead replicas leader = int_eq leader (negsuc 0) || is_in replicas leader

-- A state gives no record of its own: its partition stands after its topic.
abbrev pub records_of_state : List ℤ → Result Body BodyFault → RowRecords
records_of_state replicas (Err e) = Err (why.Body e)
records_of_state replicas (Ok (body.State leader leader_epoch controller_epoch isr recovery)) =
    if not (are_some_of replicas isr) then bad_field (codes "isr")
    else if not (may_lead replicas (leader_of leader)) then bad_field (codes "leader")
    else Ok []
records_of_state replicas (Ok b) = Ok []

-- the state of a partition that isn't assigned isn't read
abbrev pub records_if_assigned : Option AssignmentRow → Result Body BodyFault → RowRecords
records_if_assigned None read = Ok []
records_if_assigned (Some a) read = records_of_state a.replicas read

-- ---- configurations of topics and brokers

-- the name of a broker in a record: empty for all brokers
abbrev pub broker_name : Option ℤ → List ℕ
broker_name None = []
broker_name (Some id) = signed_decimal id

-- a member of the configuration of a resource: 2 is a topic, 4 a broker
abbrev pub config_record : ℤ → List ℕ → Pair → MetaRecord
config_record resource name p = meta.Config (record { resource_type = resource; resource_name = name; name = p.name; value = Some p.value })

-- the records of a configuration; the members rise, so an empty name comes first
abbrev pub config_records : ℤ → List ℕ → List Pair → RowRecords
config_records resource name [] = Ok []
config_records resource name (p ∷ ps) = if nat_lt 0 (length p.name) then Ok (map (config_record resource name) (p ∷ ps)) else Err (why.Body (fault.UnknownKey p.name))

abbrev pub records_of_config : ℤ → List ℕ → Result Body BodyFault → RowRecords
records_of_config resource name (Err e) = Err (why.Body e)
records_of_config resource name (Ok (body.Config pairs)) = config_records resource name pairs
records_of_config resource name (Ok b) = Ok []

-- the configuration of a topic that isn't there isn't read
abbrev pub records_if_there : Option Row → List ℕ → Result Body BodyFault → RowRecords
records_if_there None name read = Ok []
records_if_there (Some r) name read = records_of_config (pos 2) name read

-- ---- quotas and credentials

-- whom the quotas of an entity speak of
abbrev pub quota_entity : EntityKey → List QuotaEntity
quota_entity (key.Client client) = record { kind = codes "client-id"; name = client } ∷ []
quota_entity (key.User user) = record { kind = codes "user"; name = user } ∷ []
quota_entity (key.UserClient user client) = record { kind = codes "user"; name = user } ∷ record { kind = codes "client-id"; name = client } ∷ []
quota_entity (key.Ip address) = record { kind = codes "ip"; name = address } ∷ []
quota_entity k = []

abbrev pub quota_record : EntityKey → QuotaRow → MetaRecord
quota_record k q = meta.ClientQuota (record { entity = quota_entity k; key = q.key; value = q.value; remove = false })

abbrev pub scram_record : List ℕ → ScramPair → MetaRecord
scram_record name s = meta.UserScramCredential (record { name = name; mechanism = s.mechanism; salt = s.value.salt; stored_key = s.value.stored_key; server_key = s.value.server_key; iterations = s.value.iterations })

-- only a user with a name has credentials
abbrev pub scram_records : EntityKey → List ScramPair → List MetaRecord
scram_records (key.User (Some name)) scrams = map (scram_record name) scrams
scram_records k scrams = []

-- the members in byte order: the names of mechanisms come before those of quotas
abbrev pub records_of_quotas : EntityKey → Result Body BodyFault → RowRecords
records_of_quotas k (Err e) = Err (why.Body e)
records_of_quotas k (Ok (body.Quota quotas scrams)) = Ok (scram_records k scrams ++ map (quota_record k) quotas)
records_of_quotas k (Ok b) = Ok []

-- ---- access control entries

-- the id of a migrated entry: `KRAFTMIG` and its number, from 0 on over all znodes
abbrev pub migrated_id : ℕ → Id
migrated_id n = record { bytes = codes "KRAFTMIG" ++ to_be_bytes w64 n }

abbrev pub acl_record : ℕ → AclRow → MetaRecord
acl_record n row = meta.AccessControlEntry (record { id = migrated_id n; resource_type = row.kind; resource_name = row.name; pattern_type = row.pattern; principal = row.principal; host = row.host; operation = row.operation; permission = row.permission })

-- the records of entries, numbered from this number on
abbrev pub acl_records : ℕ → List AclRow → List MetaRecord
acl_records n [] = []
acl_records n (row ∷ rows) = acl_record n row ∷ acl_records (n + 1) rows

abbrev pub entries_in : Option Body → ℕ
entries_in (Some (body.Acls rows)) = length rows
entries_in b = 0

-- how many access control entries these znodes have
abbrev pub count_of_entries : List Row → ℕ
count_of_entries rows = sum_by (λ r. entries_in (body_of_row r)) rows

abbrev pub records_of_acls : List Row → Result Body BodyFault → RowRecords
records_of_acls earlier (Err e) = Err (why.Body e)
records_of_acls earlier (Ok (body.Acls rows)) = Ok (acl_records (count_of_entries earlier) rows)
records_of_acls earlier (Ok b) = Ok []

-- ---- producer ids

-- the greatest end of a block: after it begins the last block that there is
abbrev pub max_block_end : ℤ
max_block_end = pos 9223372036854774807

abbrev pub records_of_producer : Result Body BodyFault → RowRecords
records_of_producer (Err e) = Err (why.Body e)
records_of_producer (Ok (body.Producer broker start end)) =
    if int_lt max_block_end end then bad_field (codes "block_end")
    else Ok (meta.ProducerIds (record { broker_id = negsuc 0; broker_epoch = negsuc 0; next = end +ℤ pos 1 }) ∷ [])
records_of_producer (Ok b) = Ok []

-- ---- a znode

-- the records of an entity by its body, among these znodes and after the earlier ones
abbrev pub records_of : List Row → List Row → EntityKey → Result Body BodyFault → RowRecords
records_of rows earlier (key.Topic name) read = records_of_topic rows earlier name read
records_of rows earlier (key.Partition topic number) read = records_if_assigned (assignment_at topic number rows) read
records_of rows earlier (key.TopicConfig name) read = records_if_there (row_of (key.Topic name) rows) name read
records_of rows earlier (key.BrokerConfig broker) read = records_of_config (pos 4) (broker_name broker) read
records_of rows earlier (key.Acl pattern resource name) read = records_of_acls earlier read
records_of rows earlier key.Producer read = records_of_producer read
records_of rows earlier k read = records_of_quotas k read

-- the records of an entity's znode
abbrev pub entity_records : List Row → List Row → Option EntityKey → List ℕ → RowRecords
entity_records rows earlier None bytes = Ok []
entity_records rows earlier (Some k) bytes = records_of rows earlier k (read_body k bytes)

abbrev pub records_by_kind : List Row → List Row → Kind → Row → RowRecords
records_by_kind rows earlier kind.Entity r = entity_records rows earlier (key_of r.path) r.body
records_by_kind rows earlier kind.Stray r = Err why.Stray
records_by_kind rows earlier k r = Ok []

-- the records of one of these znodes, after the earlier ones
abbrev pub row_records : List Row → List Row → Row → RowRecords
row_records rows earlier r = records_by_kind rows earlier (kind_of r.path) r

-- ---- all znodes

abbrev pub records_then : List ℕ → RowRecords → Translated → Translated
records_then path (Err w) rest = Err (record { path = path; why = w })
records_then path (Ok rs) (Ok more) = Ok (rs ++ more)
records_then path (Ok rs) (Err e) = Err e

-- the records of the znodes after the earlier ones, or the first that can't be translated
abbrev pub records_after : List Row → List Row → List Row → Translated
records_after rows earlier [] = Ok []
records_after rows earlier (r ∷ rest) = records_then r.path (row_records rows earlier r) (records_after rows (earlier ++ r ∷ []) rest)

-- the records of these znodes, or the first that can't be translated
abbrev pub all_records : List Row → Translated
all_records rows = records_after rows [] rows

-- how many records beside the translated ones the limit leaves room for
abbrev pub further_records : ℕ
further_records = 4

abbrev pub records_unless_excess : Option Excess → List MetaRecord → Translated
records_unless_excess (Some e) rs = Err (record { path = e.path; why = why.Over e.number })
records_unless_excess None rs = if nat_lt MAX_RECORDS (length rs + further_records) then Err (record { path = codes "/brokers/topics"; why = why.Over (number_of_limit limits.Records) }) else Ok rs

abbrev pub within_limits : Translated → Translated
within_limits (Err e) = Err e
within_limits (Ok rs) = records_unless_excess (excess (all_applied MAX_EPOCH rs empty_image)) rs

-- The records of the znodes of the migrated area, which are given in path order, or the first path in path order that can't
-- be translated, and why; the limits are tested last.
unfoldable pub translate : List Row → Translated
translate rows = within_limits (all_records rows)
