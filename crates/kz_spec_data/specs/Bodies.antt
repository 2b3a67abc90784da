-- What the body of a migrated znode says, and the text that is written for it.
use Rattle.std.specs.Prelude.{ℕ, Bool, true, false, not, ◌&&◌, ◌==◌, nat_lt, ℤ, pos, negsuc, int_le, List, [], ◌∷◌, ◌++◌, map, length, Option, Some, None, option_map, option_and_then, unwrap_or, Result, Ok, Err, if◌then◌else◌, codes, bytes_eq}
use Rattle.std.specs.Str.{is_utf8}
use Rattle.std.specs.List.{list_all, list_any}
use Rattle.std.specs.Ordering.{int_eq}
use Rattle.serde_json.specs.Data.{Data, number, string, array, object, Items, no_items, item, Members, no_members, member, put}
use Rattle.serde_json.specs.Read.{read}
use Rattle.serde_json.specs.Find.{get, as_number, as_i64, as_str, as_array, as_object, of_integer}
use Rattle.serde_json.specs.View.{items_of}
use Rattle.serde_json.specs.Written.{compact_text}
use Rattle.kz_types.specs.declared.limits.TheConstants.{MAX_NUMBER}
use Rattle.kz_types.specs.Numbers.{number_in, digits_up_to, is_in, are_distinct}
use Rattle.std.specs.Fmt.{signed_decimal}
use Rattle.kz_types.specs.Ids.{id_of, id_text, zero_id}
use Rattle.kz_types.specs.declared.id.Id.{Id}
use Rattle.kz_types.specs.declared.row.AclRow.{AclRow}
use Rattle.kz_types.specs.declared.bodies.Pair.{Pair}
use Rattle.kz_types.specs.declared.bodies.AssignmentRow.{AssignmentRow}
use Rattle.kz_types.specs.declared.bodies.Body.{Body}
use Rattle.kz_types.specs.declared.bodies.Body.TheVariants as body
use Rattle.kz_types.specs.declared.fault.BodyFault.{BodyFault}
use Rattle.kz_types.specs.declared.fault.BodyFault.TheVariants.{NotJson, Missing, BadField, NoTopicId}
use Rattle.kz_types.specs.declared.key.EntityKey.{EntityKey}
use Rattle.kz_types.specs.declared.key.EntityKey.TheVariants.{Topic, Partition, TopicConfig, BrokerConfig, Client, User, UserClient, Ip, Acl, Producer}
use Rattle.kz_spec_data.specs.Credentials.{entries_of, quota_pair, credential_pair}

-- ---- members and their forms

-- the first fault, or what follows from the value
abbrev pub then_read : {A B : Type 0} → Result A BodyFault → (A → Result B BodyFault) → Result B BodyFault
then_read (Err fault) go = Err fault
then_read (Ok a) go = go a

-- a value of its form, or the fault of its member
abbrev pub of_form : {A : Type 0} → List ℕ → Option A → Result A BodyFault
of_form name None = Err (BadField name)
of_form name (Some a) = Ok a

-- a member that must be there
abbrev pub required_member : {A : Type 0} → List ℕ → (Data → Option A) → Option Data → Result A BodyFault
required_member name form None = Err (Missing name)
required_member name form (Some d) = of_form name (form d)

-- a member that may be absent
abbrev pub optional : {A : Type 0} → List ℕ → A → (Data → Option A) → Option Data → Result A BodyFault
optional name absent form None = Ok absent
optional name absent form (Some d) = of_form name (form d)

-- the member of an object, in its form
abbrev pub field : {A : Type 0} → List ℕ → (Data → Option A) → Data → Result A BodyFault
field name form d = required_member name form (get name d)

-- a whole number within bounds
abbrev pub within : ℤ → ℤ → ℤ → Option ℤ
within low high z = if int_le low z && int_le z high then Some z else None

abbrev pub whole : ℤ → ℤ → Data → Option ℤ
whole low high d = option_and_then (within low high) (option_and_then as_i64 (as_number d))

-- the greatest number of a field that names none
abbrev pub greatest : ℤ
greatest = pos MAX_NUMBER

-- the ids of brokers, from 0 on
abbrev pub brokers_in : Items → Option (List ℤ)
brokers_in no_items = Some []
brokers_in (item d ds) = option_and_then (λ id. option_map (λ ids. id ∷ ids) (brokers_in ds)) (whole (pos 0) greatest d)

abbrev pub brokers_of : Data → Option (List ℤ)
brokers_of d = option_and_then brokers_in (as_array d)

-- ---- configurations

-- the members of an object of texts
abbrev pub texts_in : Members → Option (List Pair)
texts_in no_members = Some []
texts_in (member name d ms) = option_and_then (λ value. option_map (λ pairs. record { name = name; value = value } ∷ pairs) (texts_in ms)) (as_str d)

abbrev pub texts_of : Data → Option (List Pair)
texts_of d = option_and_then texts_in (as_object d)

-- the names and values of a configuration, by rising name
abbrev pub pairs_of : Data → Result (List Pair) BodyFault
pairs_of d = then_read (field (codes "version") (whole (pos 1) (pos 1)) d) (λ version. field (codes "config") texts_of d)

abbrev pub config_of : Data → Result Body BodyFault
config_of d = then_read (pairs_of d) (λ pairs. Ok (body.Config pairs))

-- a configuration of quotas and credentials
abbrev pub quota_of_data : EntityKey → Data → Result Body BodyFault
quota_of_data key d = then_read (pairs_of d) (λ pairs. then_read (entries_of key pairs) (λ entries. Ok (body.Quota entries.quotas entries.scrams)))

-- ---- topics

-- replicas: at least one, and none twice
abbrev pub are_replicas : List ℤ → Bool
are_replicas ids = nat_lt 0 (length ids) && are_distinct ids

-- members of a list, none twice
abbrev pub are_some_of : List ℤ → List ℤ → Bool
are_some_of replicas ids = are_distinct ids && list_all (is_in replicas) ids

-- a partition, by rising number
abbrev pub place_row : AssignmentRow → List AssignmentRow → List AssignmentRow
place_row row [] = row ∷ []
place_row row (other ∷ rows) = if int_le row.number other.number then row ∷ other ∷ rows else other ∷ place_row row rows

-- a partition of that number with these replicas
abbrev pub row_of : Option ℤ → Option (List ℤ) → Option AssignmentRow
row_of found replicas = option_and_then (λ n. option_and_then (λ ids. if are_replicas ids
    then Some (record { number = n; replicas = ids; adding = []; removing = [] }) else None) replicas) found

-- the partitions of an object from numbers to replicas, one after another, by rising number
abbrev pub rows_onto : List AssignmentRow → Members → Option (List AssignmentRow)
rows_onto rows no_members = Some rows
rows_onto rows (member name d ms) = option_and_then (λ row. rows_onto (place_row row rows) ms) (row_of (number_in name) (brokers_of d))

abbrev pub rows_of : Data → Option (List AssignmentRow)
rows_of d = option_and_then (rows_onto []) (as_object d)

-- one that is there
abbrev pub is_there : {A : Type 0} → Option A → Bool
is_there None = false
is_there (Some a) = true

-- an object from numbers to brokers
abbrev pub are_lists : Members → Bool
are_lists no_members = true
are_lists (member name d ms) = is_there (number_in name) && is_there (brokers_of d) && are_lists ms

-- the brokers of a partition, where there is an object and it has the partition
abbrev pub list_at : Option Data → ℤ → List ℤ
list_at None partition = []
list_at (Some d) partition = unwrap_or (option_and_then brokers_of (get (signed_decimal partition) d)) []

-- the lists of the partitions that there are: some of their replicas, none twice
abbrev pub fit : List AssignmentRow → Data → Bool
fit rows d = list_all (λ row. are_some_of row.replicas (list_at (Some d) row.number)) rows

-- an object from numbers to brokers that fits the partitions. Other partitions are passed over
abbrev pub lists_for : List AssignmentRow → Data → Option (Option Data)
lists_for rows d = option_and_then (λ ms. if are_lists ms && fit rows d then Some (Some d) else None) (as_object d)

-- a partition with what is added and removed
abbrev pub with_lists : Option Data → Option Data → AssignmentRow → AssignmentRow
with_lists adding removing row = record row { adding = list_at adding row.number; removing = list_at removing row.number }

-- an id other than zero
abbrev pub topic_id_of : Option (List ℕ) → Result Id BodyFault
topic_id_of None = Err (BadField (codes "topic_id"))
topic_id_of (Some bytes) = if bytes_eq bytes zero_id then Err NoTopicId else Ok (record { bytes = bytes })

abbrev pub topic_id_in : Option Data → Result Id BodyFault
topic_id_in None = Err NoTopicId
topic_id_in (Some d) = topic_id_of (option_and_then id_of (as_str d))

abbrev pub topic_of_data : Data → Result Body BodyFault
topic_of_data d =
    then_read (field (codes "version") (whole (pos 1) (pos 3)) d)
    (λ version. then_read (field (codes "partitions") rows_of d)
    (λ rows. then_read (optional (codes "adding_replicas") None (lists_for rows) (get (codes "adding_replicas") d))
    (λ adding. then_read (optional (codes "removing_replicas") None (lists_for rows) (get (codes "removing_replicas") d))
    (λ removing. then_read (topic_id_in (get (codes "topic_id") d))
    (λ id. Ok (body.Topic id (map (with_lists adding removing) rows)))))))

-- ---- partitions

abbrev pub state_of_data : Data → Result Body BodyFault
state_of_data d =
    then_read (field (codes "version") (whole (pos 1) (pos 1)) d)
    (λ version. then_read (field (codes "leader") (whole (negsuc 1) greatest) d)
    (λ leader. then_read (field (codes "leader_epoch") (whole (pos 0) greatest) d)
    (λ leader_epoch. then_read (field (codes "controller_epoch") (whole (pos 0) greatest) d)
    (λ controller_epoch. then_read (field (codes "isr") brokers_of d)
    (λ isr. then_read (optional (codes "leader_recovery_state") (pos 0) (whole (pos 0) (pos 1)) (get (codes "leader_recovery_state") d))
    (λ recovery. Ok (body.State leader leader_epoch controller_epoch isr recovery)))))))

-- ---- access control entries

-- Kafka's code of an operation
abbrev pub operation_of : List ℕ → Option ℤ
operation_of name =
    if bytes_eq name (codes "All") then Some (pos 2)
    else if bytes_eq name (codes "Read") then Some (pos 3)
    else if bytes_eq name (codes "Write") then Some (pos 4)
    else if bytes_eq name (codes "Create") then Some (pos 5)
    else if bytes_eq name (codes "Delete") then Some (pos 6)
    else if bytes_eq name (codes "Alter") then Some (pos 7)
    else if bytes_eq name (codes "Describe") then Some (pos 8)
    else if bytes_eq name (codes "ClusterAction") then Some (pos 9)
    else if bytes_eq name (codes "DescribeConfigs") then Some (pos 10)
    else if bytes_eq name (codes "AlterConfigs") then Some (pos 11)
    else if bytes_eq name (codes "IdempotentWrite") then Some (pos 12)
    else None

abbrev pub operation_name : ℤ → List ℕ
operation_name operation =
    if int_eq operation (pos 2) then codes "All"
    else if int_eq operation (pos 3) then codes "Read"
    else if int_eq operation (pos 4) then codes "Write"
    else if int_eq operation (pos 5) then codes "Create"
    else if int_eq operation (pos 6) then codes "Delete"
    else if int_eq operation (pos 7) then codes "Alter"
    else if int_eq operation (pos 8) then codes "Describe"
    else if int_eq operation (pos 9) then codes "ClusterAction"
    else if int_eq operation (pos 10) then codes "DescribeConfigs"
    else if int_eq operation (pos 11) then codes "AlterConfigs"
    else codes "IdempotentWrite"

-- 2 denied, 3 allowed
abbrev pub permission_of : List ℕ → Option ℤ
permission_of name =
    if bytes_eq name (codes "Deny") then Some (pos 2)
    else if bytes_eq name (codes "Allow") then Some (pos 3)
    else None

abbrev pub permission_name : ℤ → List ℕ
permission_name permission = if int_eq permission (pos 2) then codes "Deny" else codes "Allow"

-- the text of a member
abbrev pub text_at : List ℕ → Data → Option (List ℕ)
text_at name d = option_and_then as_str (get name d)

-- an entry of a resource: its pattern, type and name, and four texts of which two are names of codes
abbrev pub entry_in : ℤ → ℤ → List ℕ → Data → Option AclRow
entry_in pattern kind name d =
    option_and_then (λ principal. option_and_then (λ permission. option_and_then (λ operation. option_map
    (λ host. record { kind = kind; pattern = pattern; name = name; principal = principal; host = host; operation = operation; permission = permission })
    (text_at (codes "host") d)) (option_and_then operation_of (text_at (codes "operation") d)))
    (option_and_then permission_of (text_at (codes "permissionType") d))) (text_at (codes "principal") d)

abbrev pub entries_in : ℤ → ℤ → List ℕ → Items → Option (List AclRow)
entries_in pattern kind name no_items = Some []
entries_in pattern kind name (item d ds) = option_and_then (λ row. option_map (λ rows. row ∷ rows) (entries_in pattern kind name ds)) (entry_in pattern kind name d)

abbrev pub entries_of_data : ℤ → ℤ → List ℕ → Data → Option (List AclRow)
entries_of_data pattern kind name d = option_and_then (entries_in pattern kind name) (as_array d)

abbrev pub acls_of_data : ℤ → ℤ → List ℕ → Data → Result Body BodyFault
acls_of_data pattern kind name d =
    then_read (field (codes "version") (whole (pos 1) (pos 1)) d)
    (λ version. then_read (field (codes "acls") (entries_of_data pattern kind name) d)
    (λ rows. Ok (body.Acls rows)))

-- ---- producer ids

-- one or more digits, leading zeros among them
abbrev pub digits_number : List ℕ → Option ℤ
digits_number text = if length text == 0 then None else option_map (λ n. pos n) (digits_up_to 9223372036854775807 text)

abbrev pub digits_of_data : Data → Option ℤ
digits_of_data d = option_and_then digits_number (as_str d)

abbrev pub producer_of_data : Data → Result Body BodyFault
producer_of_data d =
    then_read (field (codes "version") (whole (pos 1) (pos 1)) d)
    (λ version. then_read (field (codes "broker") (whole (negsuc 0) greatest) d)
    (λ broker. then_read (field (codes "block_start") digits_of_data d)
    (λ start. then_read (field (codes "block_end") digits_of_data d)
    (λ end. Ok (body.Producer broker start end)))))

-- ---- reading

-- what an object says of an entity
unfoldable pub body_of : EntityKey → Data → Result Body BodyFault
body_of (Topic name) d = topic_of_data d
body_of (Partition topic partition) d = state_of_data d
body_of (TopicConfig name) d = config_of d
body_of (BrokerConfig broker) d = config_of d
body_of (Client client) d = quota_of_data (Client client) d
body_of (User user) d = quota_of_data (User user) d
body_of (UserClient user client) d = quota_of_data (UserClient user client) d
body_of (Ip address) d = quota_of_data (Ip address) d
body_of (Acl pattern kind name) d = acls_of_data pattern kind name d
body_of Producer d = producer_of_data d

-- what empty data says of an entity, where it says something
unfoldable pub empty_body : EntityKey → Option Body
empty_body (Topic name) = None
empty_body (Partition topic partition) = None
empty_body (TopicConfig name) = Some (body.Config [])
empty_body (BrokerConfig broker) = Some (body.Config [])
empty_body (Client client) = Some (body.Quota [] [])
empty_body (User user) = Some (body.Quota [] [])
empty_body (UserClient user client) = Some (body.Quota [] [])
empty_body (Ip address) = Some (body.Quota [] [])
empty_body (Acl pattern kind name) = Some (body.Acls [])
empty_body Producer = Some body.Blank

-- the JSON value of a text
abbrev pub json_of : List ℕ → Option Data
json_of bytes = if is_utf8 bytes then read bytes else None

-- only an object is a body
abbrev pub object_if : Data → Option Members → Option Data
object_if d None = None
object_if d (Some ms) = Some d

abbrev pub object_of : Option Data → Option Data
object_of o = option_and_then (λ d. object_if d (as_object d)) o

abbrev pub body_of_object : EntityKey → Option Data → Result Body BodyFault
body_of_object key None = Err NotJson
body_of_object key (Some d) = body_of key d

abbrev pub body_of_json : EntityKey → Option Data → Result Body BodyFault
body_of_json key o = body_of_object key (object_of o)

abbrev pub body_unless_empty : EntityKey → List ℕ → Option Body → Result Body BodyFault
body_unless_empty key bytes (Some empty) = if length bytes == 0 then Ok empty else body_of_json key (json_of bytes)
body_unless_empty key bytes None = body_of_json key (json_of bytes)

-- what a body says, or the first fault of its bytes
unfoldable pub read_body : EntityKey → List ℕ → Result Body BodyFault
read_body key bytes = body_unless_empty key bytes (empty_body key)

-- ---- writing

abbrev pub whole_data : ℤ → Data
whole_data z = number (of_integer z)

abbrev pub brokers_data : List ℤ → Data
brokers_data ids = array (items_of (map whole_data ids))

-- members with texts, one after another
abbrev pub with_texts : Members → List Pair → Members
with_texts ms [] = ms
with_texts ms (pair ∷ pairs) = with_texts (put pair.name (string pair.value) ms) pairs

-- a configuration: its members in byte order
abbrev pub config_data : List Pair → Data
config_data pairs = object (member (codes "config") (object (with_texts no_members pairs)) (member (codes "version") (whole_data (pos 1)) no_members))

-- the member of a partition
abbrev pub with_list : AssignmentRow → List ℤ → Members → Members
with_list row ids ms = put (signed_decimal row.number) (brokers_data ids) ms

-- the same, but for an empty list
abbrev pub with_some : AssignmentRow → List ℤ → Members → Members
with_some row [] ms = ms
with_some row (id ∷ ids) ms = with_list row (id ∷ ids) ms

abbrev pub replicas_members : Members → List AssignmentRow → Members
replicas_members ms [] = ms
replicas_members ms (row ∷ rows) = replicas_members (with_list row row.replicas ms) rows

abbrev pub adding_members : Members → List AssignmentRow → Members
adding_members ms [] = ms
adding_members ms (row ∷ rows) = adding_members (with_some row row.adding ms) rows

abbrev pub removing_members : Members → List AssignmentRow → Members
removing_members ms [] = ms
removing_members ms (row ∷ rows) = removing_members (with_some row row.removing ms) rows

abbrev pub topic_data : Id → List AssignmentRow → Data
topic_data id rows = object
    (member (codes "adding_replicas") (object (adding_members no_members rows))
    (member (codes "partitions") (object (replicas_members no_members rows))
    (member (codes "removing_replicas") (object (removing_members no_members rows))
    (member (codes "topic_id") (string (id_text id.bytes))
    (member (codes "version") (whole_data (pos 3)) no_members)))))

abbrev pub state_data : ℤ → ℤ → ℤ → List ℤ → ℤ → Data
state_data leader leader_epoch controller_epoch isr recovery = object
    (member (codes "controller_epoch") (whole_data controller_epoch)
    (member (codes "isr") (brokers_data isr)
    (member (codes "leader") (whole_data leader)
    (member (codes "leader_epoch") (whole_data leader_epoch)
    (member (codes "leader_recovery_state") (whole_data recovery)
    (member (codes "version") (whole_data (pos 1)) no_members))))))

abbrev pub acl_data : AclRow → Data
acl_data row = object
    (member (codes "host") (string row.host)
    (member (codes "operation") (string (operation_name row.operation))
    (member (codes "permissionType") (string (permission_name row.permission))
    (member (codes "principal") (string row.principal) no_members))))

abbrev pub acls_data : List AclRow → Data
acls_data rows = object (member (codes "acls") (array (items_of (map acl_data rows))) (member (codes "version") (whole_data (pos 1)) no_members))

abbrev pub producer_data : ℤ → ℤ → ℤ → Data
producer_data broker start end = object
    (member (codes "block_end") (string (signed_decimal end))
    (member (codes "block_start") (string (signed_decimal start))
    (member (codes "broker") (whole_data broker)
    (member (codes "version") (whole_data (pos 1)) no_members))))

-- the text that is written for a body: compact, with members in byte order
unfoldable pub text_of_body : Body → List ℕ
text_of_body (body.Topic id rows) = compact_text (topic_data id rows)
text_of_body (body.State leader leader_epoch controller_epoch isr recovery) = compact_text (state_data leader leader_epoch controller_epoch isr recovery)
text_of_body (body.Config pairs) = compact_text (config_data pairs)
text_of_body (body.Quota quotas scrams) = compact_text (config_data (map quota_pair quotas ++ map credential_pair scrams))
text_of_body (body.Acls rows) = compact_text (acls_data rows)
text_of_body (body.Producer broker start end) = compact_text (producer_data broker start end)
text_of_body body.Blank = []

-- whether a body is of its entity's kind
unfoldable pub is_of_kind : EntityKey → Body → Bool
is_of_kind (Topic name) (body.Topic id rows) = true
is_of_kind (Partition topic partition) (body.State leader leader_epoch controller_epoch isr recovery) = true
is_of_kind (TopicConfig name) (body.Config pairs) = true
is_of_kind (BrokerConfig broker) (body.Config pairs) = true
is_of_kind (Client client) (body.Quota quotas scrams) = true
is_of_kind (User user) (body.Quota quotas scrams) = true
is_of_kind (UserClient user client) (body.Quota quotas scrams) = true
is_of_kind (Ip address) (body.Quota quotas scrams) = true
is_of_kind (Acl pattern kind name) (body.Acls rows) = true
is_of_kind Producer (body.Producer broker start end) = true
is_of_kind Producer body.Blank = true
is_of_kind key other = false
