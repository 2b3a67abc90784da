-- What the znodes translate to is records that a translation may give.
use Rattle.std.proofs.Common.{◌≡◌, ℕ, ◌+◌, ℤ, pos, nat_lt, int_lt, not, Bool, true, false, if◌then◌else◌, List, [], ◌∷◌, ◌++◌, length, map, Option, Some, None, All, subst}
use Rattle.std.specs.Prelude.{Result, Ok, Err, ⊤}
use Rattle.std.proofs.lemmas.List.Elements.{All-nil, All-cons, All-append, All-map}
use Rattle.kz_types.specs.declared.limits.TheConstants.{MAX_EPOCH, MAX_RECORDS}
use Rattle.kz_types.specs.declared.tree.Row.{Row}
use Rattle.kz_types.specs.declared.row.AclRow.{AclRow}
use Rattle.kz_types.specs.declared.bodies.Pair.{Pair}
use Rattle.kz_types.specs.declared.bodies.AssignmentRow.{AssignmentRow}
use Rattle.kz_types.specs.declared.bodies.ScramPair.{ScramPair}
use Rattle.kz_types.specs.declared.bodies.Body.{Body}
use Rattle.kz_types.specs.declared.bodies.Body.TheVariants as body
use Rattle.kz_types.specs.declared.key.EntityKey.{EntityKey}
use Rattle.kz_types.specs.declared.key.EntityKey.TheVariants as key
use Rattle.kz_types.specs.declared.kind.Kind.{Kind}
use Rattle.kz_types.specs.declared.kind.Kind.TheVariants as kind
use Rattle.kz_types.specs.declared.fault.BodyFault.{BodyFault}
use Rattle.kz_types.specs.declared.record.MetaRecord.{MetaRecord}
use Rattle.kz_types.specs.Paths.{kind_of, key_of}
use Rattle.kz_spec_data.specs.Bodies.{read_body, are_some_of}
use Rattle.kz_spec_data.specs.Image.{empty_image, all_applied}
use Rattle.kz_spec_data.specs.Rendering.{Excess, excess}
use Rattle.kz_spec_data.specs.Translation.{Translated, RowRecords, row_of, leader_of, partition_record, is_taken, topic_records, records_of_topic, assignment_at, may_lead, records_of_state, records_if_assigned, broker_name, config_record, config_records, records_of_config, records_if_there, quota_record, scram_record, scram_records, records_of_quotas, acl_record, acl_records, count_of_entries, records_of_acls, max_block_end, records_of_producer, records_of, entity_records, records_by_kind, row_records, records_then, records_after, all_records, further_records, records_unless_excess, within_limits, translate}
use Rattle.kz_spec_machine.specs.Sound.{IsTranslated}

abbrev Gives : {E : Type 0} → Result (List MetaRecord) E → Type 0
Gives (Ok rs) = All IsTranslated rs
Gives (Err e) = ⊤

nothing : All IsTranslated []
nothing = All-nil IsTranslated

where_true : {E : Type 0} (b : Bool) (r : Result (List MetaRecord) E) (e : E) → Gives r → Gives (if b then r else Err e)
where_true true r e gives = gives
where_true false r e gives = tt

unless_true : {E : Type 0} (b : Bool) (r : Result (List MetaRecord) E) (e : E) → Gives r → Gives (if b then Err e else r)
unless_true true r e gives = tt
unless_true false r e gives = gives

-- ---- the records of an entity

topic_gives : (rows earlier : List Row) (name : List ℕ) (read : Result Body BodyFault) → Gives (records_of_topic rows earlier name read)
topic_gives rows earlier name (Err e) = tt
topic_gives rows earlier name (Ok (body.Topic id partitions)) = unless_true (is_taken id earlier) (Ok (topic_records rows name id partitions)) _
    (All-cons IsTranslated _ (map (partition_record rows name id) partitions) tt (All-map IsTranslated (partition_record rows name id) partitions (λ k d within. tt)))
topic_gives rows earlier name (Ok (body.State leader leader_epoch controller_epoch isr recovery)) = nothing
topic_gives rows earlier name (Ok (body.Config pairs)) = nothing
topic_gives rows earlier name (Ok (body.Quota quotas scrams)) = nothing
topic_gives rows earlier name (Ok (body.Acls entries)) = nothing
topic_gives rows earlier name (Ok (body.Producer owner start end)) = nothing
topic_gives rows earlier name (Ok body.Blank) = nothing

state_gives : (replicas : List ℤ) (read : Result Body BodyFault) → Gives (records_of_state replicas read)
state_gives replicas (Err e) = tt
state_gives replicas (Ok (body.Topic id partitions)) = nothing
state_gives replicas (Ok (body.State leader leader_epoch controller_epoch isr recovery)) =
    unless_true (not (are_some_of replicas isr)) _ _ (unless_true (not (may_lead replicas (leader_of leader))) (Ok []) _ nothing)
state_gives replicas (Ok (body.Config pairs)) = nothing
state_gives replicas (Ok (body.Quota quotas scrams)) = nothing
state_gives replicas (Ok (body.Acls entries)) = nothing
state_gives replicas (Ok (body.Producer owner start end)) = nothing
state_gives replicas (Ok body.Blank) = nothing

assigned_gives : (a : Option AssignmentRow) (read : Result Body BodyFault) → Gives (records_if_assigned a read)
assigned_gives None read = nothing
assigned_gives (Some a) read = state_gives a.replicas read

pairs_give : (resource : ℤ) (name : List ℕ) (ps : List Pair) → Gives (config_records resource name ps)
pairs_give resource name [] = nothing
pairs_give resource name (p ∷ ps) = where_true (nat_lt 0 (length p.name)) (Ok (map (config_record resource name) (p ∷ ps))) _
    (All-map IsTranslated (config_record resource name) (p ∷ ps) (λ k d within. tt))

config_gives : (resource : ℤ) (name : List ℕ) (read : Result Body BodyFault) → Gives (records_of_config resource name read)
config_gives resource name (Err e) = tt
config_gives resource name (Ok (body.Topic id partitions)) = nothing
config_gives resource name (Ok (body.State leader leader_epoch controller_epoch isr recovery)) = nothing
config_gives resource name (Ok (body.Config pairs)) = pairs_give resource name pairs
config_gives resource name (Ok (body.Quota quotas scrams)) = nothing
config_gives resource name (Ok (body.Acls entries)) = nothing
config_gives resource name (Ok (body.Producer owner start end)) = nothing
config_gives resource name (Ok body.Blank) = nothing

there_gives : (r : Option Row) (name : List ℕ) (read : Result Body BodyFault) → Gives (records_if_there r name read)
there_gives None name read = nothing
there_gives (Some r) name read = config_gives (pos 2) name read

scrams_translated : (k : EntityKey) (scrams : List ScramPair) → All IsTranslated (scram_records k scrams)
scrams_translated (key.Topic name) scrams = All-nil IsTranslated
scrams_translated (key.Partition topic number) scrams = All-nil IsTranslated
scrams_translated (key.TopicConfig name) scrams = All-nil IsTranslated
scrams_translated (key.BrokerConfig broker) scrams = All-nil IsTranslated
scrams_translated (key.Client client) scrams = All-nil IsTranslated
scrams_translated (key.User None) scrams = All-nil IsTranslated
scrams_translated (key.User (Some name)) scrams = All-map IsTranslated (scram_record name) scrams (λ k d within. tt)
scrams_translated (key.UserClient user client) scrams = All-nil IsTranslated
scrams_translated (key.Ip address) scrams = All-nil IsTranslated
scrams_translated (key.Acl pattern resource name) scrams = All-nil IsTranslated
scrams_translated key.Producer scrams = All-nil IsTranslated

quotas_give : (k : EntityKey) (read : Result Body BodyFault) → Gives (records_of_quotas k read)
quotas_give k (Err e) = tt
quotas_give k (Ok (body.Topic id partitions)) = nothing
quotas_give k (Ok (body.State leader leader_epoch controller_epoch isr recovery)) = nothing
quotas_give k (Ok (body.Config pairs)) = nothing
quotas_give k (Ok (body.Quota quotas scrams)) = All-append IsTranslated (scram_records k scrams) (map (quota_record k) quotas) (scrams_translated k scrams) (All-map IsTranslated (quota_record k) quotas (λ j d within. tt))
quotas_give k (Ok (body.Acls entries)) = nothing
quotas_give k (Ok (body.Producer owner start end)) = nothing
quotas_give k (Ok body.Blank) = nothing

entries_translated : (n : ℕ) (rows : List AclRow) → All IsTranslated (acl_records n rows)
entries_translated n [] = All-nil IsTranslated
entries_translated n (row ∷ rows) = All-cons IsTranslated (acl_record n row) (acl_records (n + 1) rows) tt (entries_translated (n + 1) rows)

acls_give : (earlier : List Row) (read : Result Body BodyFault) → Gives (records_of_acls earlier read)
acls_give earlier (Err e) = tt
acls_give earlier (Ok (body.Topic id partitions)) = nothing
acls_give earlier (Ok (body.State leader leader_epoch controller_epoch isr recovery)) = nothing
acls_give earlier (Ok (body.Config pairs)) = nothing
acls_give earlier (Ok (body.Quota quotas scrams)) = nothing
acls_give earlier (Ok (body.Acls entries)) = entries_translated (count_of_entries earlier) entries
acls_give earlier (Ok (body.Producer owner start end)) = nothing
acls_give earlier (Ok body.Blank) = nothing

producer_gives : (read : Result Body BodyFault) → Gives (records_of_producer read)
producer_gives (Err e) = tt
producer_gives (Ok (body.Topic id partitions)) = nothing
producer_gives (Ok (body.State leader leader_epoch controller_epoch isr recovery)) = nothing
producer_gives (Ok (body.Config pairs)) = nothing
producer_gives (Ok (body.Quota quotas scrams)) = nothing
producer_gives (Ok (body.Acls entries)) = nothing
producer_gives (Ok (body.Producer owner start end)) = unless_true (int_lt max_block_end end) (Ok (_ ∷ [])) _ (All-cons IsTranslated _ [] tt (All-nil IsTranslated))
producer_gives (Ok body.Blank) = nothing

key_gives : (rows earlier : List Row) (k : EntityKey) (read : Result Body BodyFault) → Gives (records_of rows earlier k read)
key_gives rows earlier (key.Topic name) read = topic_gives rows earlier name read
key_gives rows earlier (key.Partition topic number) read = assigned_gives (assignment_at topic number rows) read
key_gives rows earlier (key.TopicConfig name) read = there_gives (row_of (key.Topic name) rows) name read
key_gives rows earlier (key.BrokerConfig broker) read = config_gives (pos 4) (broker_name broker) read
key_gives rows earlier (key.Client client) read = quotas_give (key.Client client) read
key_gives rows earlier (key.User user) read = quotas_give (key.User user) read
key_gives rows earlier (key.UserClient user client) read = quotas_give (key.UserClient user client) read
key_gives rows earlier (key.Ip address) read = quotas_give (key.Ip address) read
key_gives rows earlier (key.Acl pattern resource name) read = acls_give earlier read
key_gives rows earlier key.Producer read = producer_gives read

-- ---- the records of all znodes

entity_gives : (rows earlier : List Row) (k : Option EntityKey) (bytes : List ℕ) → Gives (entity_records rows earlier k bytes)
entity_gives rows earlier None bytes = nothing
entity_gives rows earlier (Some k) bytes = key_gives rows earlier k (read_body k bytes)

kind_gives : (rows earlier : List Row) (k : Kind) (r : Row) → Gives (records_by_kind rows earlier k r)
kind_gives rows earlier kind.Entity r = entity_gives rows earlier (key_of r.path) r.body
kind_gives rows earlier kind.Scaffold r = nothing
kind_gives rows earlier kind.Stray r = tt
kind_gives rows earlier kind.Base r = nothing
kind_gives rows earlier kind.Control r = nothing
kind_gives rows earlier kind.Reserved r = nothing
kind_gives rows earlier kind.Outside r = nothing

joined_gives : (path : List ℕ) (r : RowRecords) (rest : Translated) → Gives r → Gives rest → Gives (records_then path r rest)
joined_gives path (Err w) rest first second = tt
joined_gives path (Ok rs) (Ok more) first second = All-append IsTranslated rs more first second
joined_gives path (Ok rs) (Err e) first second = tt

after_gives : (rows earlier rest : List Row) → Gives (records_after rows earlier rest)
after_gives rows earlier [] = nothing
after_gives rows earlier (r ∷ rest) = joined_gives r.path (row_records rows earlier r) (records_after rows (earlier ++ r ∷ []) rest) (kind_gives rows earlier (kind_of r.path) r) (after_gives rows (earlier ++ r ∷ []) rest)

bounded_gives : (x : Option Excess) (rs : List MetaRecord) → All IsTranslated rs → Gives (records_unless_excess x rs)
bounded_gives (Some e) rs all = tt
bounded_gives None rs all = unless_true (nat_lt MAX_RECORDS (length rs + further_records)) (Ok rs) _ all

within_gives : (r : Translated) → Gives r → Gives (within_limits r)
within_gives (Err e) all = tt
within_gives (Ok rs) all = bounded_gives (excess (all_applied MAX_EPOCH rs empty_image)) rs all

translation_gives : (rows : List Row) → Gives (translate rows)
unfolding translate
translation_gives rows = within_gives (all_records rows) (after_gives rows [] rows)

of_ok : (r : Translated) (records : List MetaRecord) → r ≡ Ok records → Gives r → All IsTranslated records
of_ok r records is all = subst Gives is all

-- what a translation gives
pub all_translated : (rows : List Row) (records : List MetaRecord) → translate rows ≡ Ok records → All IsTranslated records
all_translated rows records is = of_ok (translate rows) records is (translation_gives rows)
