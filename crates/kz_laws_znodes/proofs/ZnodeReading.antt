-- What the bodies that are read say: their lists rise, and their values are in range.
use Rattle.std.proofs.Common.{◌≡◌, ℕ, ◌==◌, ℤ, pos, negsuc, Bool, true, false, List, [], length, Option, Some, None, Result, Ok, refl, subst, codes}
use Rattle.std.specs.Prelude.{⊤, IfSome, if◌then◌else◌, bytes_eq}
use Rattle.std.specs.Ordering.{int_cmp}
use Rattle.serde_json.specs.Data.{Data}
use Rattle.serde_json.specs.Find.{get, as_array}
use Rattle.kz_types.specs.Ids.{zero_id}
use Rattle.kz_types.specs.declared.id.Id.{Id}
use Rattle.kz_types.specs.declared.bodies.Pair.{Pair}
use Rattle.kz_types.specs.declared.bodies.QuotaRow.{QuotaRow}
use Rattle.kz_types.specs.declared.bodies.ScramPair.{ScramPair}
use Rattle.kz_types.specs.declared.bodies.Body.{Body}
use Rattle.kz_types.specs.declared.bodies.Body.TheVariants as body
use Rattle.kz_types.specs.declared.fault.BodyFault.{BodyFault}
use Rattle.kz_types.specs.declared.key.EntityKey.{EntityKey}
use Rattle.kz_types.specs.declared.key.EntityKey.TheVariants as key
use Rattle.kz_types.proofs.Maps.{Rises-map}
use Rattle.kz_spec_data.specs.Bodies.{optional, field, greatest, whole, brokers_of, pairs_of, config_of, quota_of_data, rows_of, lists_for, with_lists, topic_id_in, topic_of_data, state_of_data, entries_in, entries_of_data, acls_of_data, digits_of_data, producer_of_data, json_of, object_of, body_of, body_of_object, body_of_json, body_unless_empty, empty_body, read_body, is_of_kind}
use Rattle.kz_spec_data.specs.Credentials.{entries_of}
use Rattle.kz_spec_data.specs.Translation.{number_of_assignment}
use Rattle.kz_laws_values.specs.Readable.{IsState, IsBlock, AreRising}
use Rattle.kz_laws_values.proofs.Ranges.{state_in_range, block_in_range}
use Rattle.kz_laws_znodes.proofs.Sorted.{IsSorted, if_any, object_sorted}
use Rattle.kz_laws_znodes.proofs.ReadForms.{Holds, then_holds, then_any, optional_holds, field_holds, pairs_hold}
use Rattle.kz_laws_znodes.proofs.ReadTopics.{AreFound, found_rows, DoFit, none_fit, lists_hold, IsTopicBody, partitions_hold, id_holds}
use Rattle.kz_laws_znodes.proofs.ReadQuotas.{IsQuotaBodyRead, AreEntriesOf, entries_hold}
use Rattle.kz_laws_znodes.proofs.ReadEntries.{AreEntriesRead, entries_read}

-- what is read of an entity: a body of its kind, in range
abbrev pub IsBodyOf : EntityKey → Body → Type 0
IsBodyOf (key.Topic name) (body.Topic id rows) = IsTopicBody id rows
IsBodyOf (key.Partition topic partition) (body.State leader leader_epoch controller_epoch isr recovery) = IsState leader leader_epoch controller_epoch isr recovery
IsBodyOf (key.TopicConfig name) (body.Config pairs) = AreRising pairs
IsBodyOf (key.BrokerConfig broker) (body.Config pairs) = AreRising pairs
IsBodyOf (key.Client client) (body.Quota quotas scrams) = IsQuotaBodyRead (key.Client client) quotas scrams
IsBodyOf (key.User user) (body.Quota quotas scrams) = IsQuotaBodyRead (key.User user) quotas scrams
IsBodyOf (key.UserClient user client) (body.Quota quotas scrams) = IsQuotaBodyRead (key.UserClient user client) quotas scrams
IsBodyOf (key.Ip address) (body.Quota quotas scrams) = IsQuotaBodyRead (key.Ip address) quotas scrams
IsBodyOf (key.Acl pattern kind name) (body.Acls rows) = AreEntriesRead pattern kind name rows
IsBodyOf key.Producer (body.Producer broker start end) = IsBlock broker start end
IsBodyOf key.Producer body.Blank = ⊤
IsBodyOf k b = ⊥

topic_holds : (name : List ℕ) (d : Data) → IsSorted d → Holds (IsBodyOf (key.Topic name)) (topic_of_data d)
topic_holds name d s =
    then_any (IsBodyOf (key.Topic name)) (field (codes "version") (whole (pos 1) (pos 3)) d) _ (λ version.
    then_holds AreFound (IsBodyOf (key.Topic name)) (field (codes "partitions") rows_of d) _ (field_holds AreFound (codes "partitions") rows_of d found_rows s) (λ rows f.
    then_holds (DoFit rows) (IsBodyOf (key.Topic name)) (optional (codes "adding_replicas") None (lists_for rows) (get (codes "adding_replicas") d)) _
    (optional_holds (DoFit rows) (codes "adding_replicas") None (lists_for rows) (get (codes "adding_replicas") d) (none_fit rows) (lists_hold rows)) (λ adding a.
    then_holds (DoFit rows) (IsBodyOf (key.Topic name)) (optional (codes "removing_replicas") None (lists_for rows) (get (codes "removing_replicas") d)) _
    (optional_holds (DoFit rows) (codes "removing_replicas") None (lists_for rows) (get (codes "removing_replicas") d) (none_fit rows) (lists_hold rows)) (λ removing r.
    then_holds (λ (id : Id). bytes_eq id.bytes zero_id ≡ false) (IsBodyOf (key.Topic name)) (topic_id_in (get (codes "topic_id") d)) _ (id_holds (get (codes "topic_id") d)) (λ id i. record {
      id_is = i;
      order = Rises-map int_cmp number_of_assignment number_of_assignment (with_lists adding removing) (λ row. refl) rows f.rise;
      rows_are = partitions_hold adding removing rows f.bare a r;
    })))))

config_holds : (P : Body → Type 0) (d : Data) → ((pairs : List Pair) → AreRising pairs → P (body.Config pairs)) → IsSorted d → Holds P (config_of d)
config_holds P d so s = then_holds AreRising P (pairs_of d) _ (pairs_hold d s) so

quota_body_holds : (P : Body → Type 0) (k : EntityKey) (d : Data) → ((quotas : List QuotaRow) (scrams : List ScramPair) → IsQuotaBodyRead k quotas scrams → P (body.Quota quotas scrams)) → IsSorted d → Holds P (quota_of_data k d)
quota_body_holds P k d so s =
    then_holds AreRising P (pairs_of d) _ (pairs_hold d s) (λ pairs r.
    then_holds (AreEntriesOf k pairs) P (entries_of k pairs) _ (entries_hold k pairs r) (λ e h. so e.quotas e.scrams h.body))

acls_hold : (pattern kind : ℤ) (name : List ℕ) (d : Data) → IsSorted d → Holds (IsBodyOf (key.Acl pattern kind name)) (acls_of_data pattern kind name d)
acls_hold pattern kind name d s =
    then_any (IsBodyOf (key.Acl pattern kind name)) (field (codes "version") (whole (pos 1) (pos 1)) d) _ (λ version.
    then_holds (AreEntriesRead pattern kind name) (IsBodyOf (key.Acl pattern kind name)) (field (codes "acls") (entries_of_data pattern kind name) d) _
    (field_holds (AreEntriesRead pattern kind name) (codes "acls") (entries_of_data pattern kind name) d (λ e sorted. if_any (AreEntriesRead pattern kind name) (entries_in pattern kind name) (as_array e) (entries_read pattern kind name)) s) (λ rows h. h))

-- a state, whatever its numbers
abbrev IsStateBody : Body → Type 0
IsStateBody b = is_of_kind (key.Partition [] (pos 0)) b ≡ true

state_kind : (d : Data) → Holds IsStateBody (state_of_data d)
unfolding is_of_kind
state_kind d =
    then_any IsStateBody (field (codes "version") (whole (pos 1) (pos 1)) d) _ (λ version.
    then_any IsStateBody (field (codes "leader") (whole (negsuc 1) greatest) d) _ (λ leader.
    then_any IsStateBody (field (codes "leader_epoch") (whole (pos 0) greatest) d) _ (λ leader_epoch.
    then_any IsStateBody (field (codes "controller_epoch") (whole (pos 0) greatest) d) _ (λ controller_epoch.
    then_any IsStateBody (field (codes "isr") brokers_of d) _ (λ isr.
    then_any IsStateBody (optional (codes "leader_recovery_state") (pos 0) (whole (pos 0) (pos 1)) (get (codes "leader_recovery_state") d)) _ (λ recovery. refl))))))

abbrev IsProducerBody : Body → Type 0
IsProducerBody b = is_of_kind key.Producer b ≡ true

producer_kind : (d : Data) → Holds IsProducerBody (producer_of_data d)
unfolding is_of_kind
producer_kind d =
    then_any IsProducerBody (field (codes "version") (whole (pos 1) (pos 1)) d) _ (λ version.
    then_any IsProducerBody (field (codes "broker") (whole (negsuc 0) greatest) d) _ (λ broker.
    then_any IsProducerBody (field (codes "block_start") digits_of_data d) _ (λ start.
    then_any IsProducerBody (field (codes "block_end") digits_of_data d) _ (λ end. refl))))

-- what holds of what the data of an object says holds of what its text does, and where empty data says something, of that
said : (P : Body → Type 0) (k : EntityKey) (bytes : List ℕ) → ((d : Data) → IsSorted d → Holds P (body_of k d)) → IfSome (empty_body k) P → Holds P (read_body k bytes)
unfolding read_body
said P k bytes so = by (empty_body k) (object (object_of (json_of bytes)) (object_sorted bytes))
  where
    object : (o : Option Data) → IfSome o IsSorted → Holds P (body_of_object k o)
    object None s = tt
    object (Some d) s = so d s

    test : (t : Bool) (empty : Body) → P empty → Holds P (body_of_json k (json_of bytes)) → Holds P (if t then Ok empty else body_of_json k (json_of bytes))
    test true empty here h = here
    test false empty here h = h

    by : (e : Option Body) → Holds P (body_of_json k (json_of bytes)) → IfSome e P → Holds P (body_unless_empty k bytes e)
    by None h here = h
    by (Some empty) h here = test (length bytes == 0) empty here h

no_quotas : (k : EntityKey) → IsQuotaBodyRead k [] []
no_quotas k = record { quotas_are = tt; scrams_are = tt; quotas_rise = tt; scrams_rise = tt }

holds_of : (P : Body → Type 0) (r : Result Body BodyFault) (b : Body) → r ≡ Ok b → Holds P r → P b
holds_of P r b is h = subst (Holds P) is h

state_body : (topic bytes : List ℕ) (partition : ℤ) (b : Body) → read_body (key.Partition topic partition) bytes ≡ Ok b → IsStateBody b → IsBodyOf (key.Partition topic partition) b
unfolding is_of_kind
state_body topic bytes partition (body.Topic id rows) is kind = absurd (cc)
state_body topic bytes partition (body.State leader leader_epoch controller_epoch isr recovery) is kind = state_in_range topic bytes partition leader leader_epoch controller_epoch isr recovery is
state_body topic bytes partition (body.Config pairs) is kind = absurd (cc)
state_body topic bytes partition (body.Quota quotas scrams) is kind = absurd (cc)
state_body topic bytes partition (body.Acls rows) is kind = absurd (cc)
state_body topic bytes partition (body.Producer broker start end) is kind = absurd (cc)
state_body topic bytes partition body.Blank is kind = absurd (cc)

producer_body : (bytes : List ℕ) (b : Body) → read_body key.Producer bytes ≡ Ok b → IsProducerBody b → IsBodyOf key.Producer b
unfolding is_of_kind
producer_body bytes (body.Topic id rows) is kind = absurd (cc)
producer_body bytes (body.State leader leader_epoch controller_epoch isr recovery) is kind = absurd (cc)
producer_body bytes (body.Config pairs) is kind = absurd (cc)
producer_body bytes (body.Quota quotas scrams) is kind = absurd (cc)
producer_body bytes (body.Acls rows) is kind = absurd (cc)
producer_body bytes (body.Producer broker start end) is kind = block_in_range bytes broker start end is
producer_body bytes body.Blank is kind = tt

pub read_is : (k : EntityKey) (bytes : List ℕ) (b : Body) → read_body k bytes ≡ Ok b → IsBodyOf k b
unfolding body_of empty_body is_of_kind
read_is (key.Topic name) bytes b is = holds_of (IsBodyOf (key.Topic name)) (read_body (key.Topic name) bytes) b is (said (IsBodyOf (key.Topic name)) (key.Topic name) bytes (topic_holds name) tt)
read_is (key.Partition topic partition) bytes b is = state_body topic bytes partition b is (holds_of IsStateBody (read_body (key.Partition topic partition) bytes) b is (said IsStateBody (key.Partition topic partition) bytes (λ d s. state_kind d) tt))
read_is (key.TopicConfig name) bytes b is = holds_of (IsBodyOf (key.TopicConfig name)) (read_body (key.TopicConfig name) bytes) b is (said (IsBodyOf (key.TopicConfig name)) (key.TopicConfig name) bytes (λ d s. config_holds (IsBodyOf (key.TopicConfig name)) d (λ pairs r. r) s) tt)
read_is (key.BrokerConfig broker) bytes b is = holds_of (IsBodyOf (key.BrokerConfig broker)) (read_body (key.BrokerConfig broker) bytes) b is (said (IsBodyOf (key.BrokerConfig broker)) (key.BrokerConfig broker) bytes (λ d s. config_holds (IsBodyOf (key.BrokerConfig broker)) d (λ pairs r. r) s) tt)
read_is (key.Client client) bytes b is = holds_of (IsBodyOf (key.Client client)) (read_body (key.Client client) bytes) b is (said (IsBodyOf (key.Client client)) (key.Client client) bytes (λ d s. quota_body_holds (IsBodyOf (key.Client client)) (key.Client client) d (λ quotas scrams h. h) s) (no_quotas (key.Client client)))
read_is (key.User user) bytes b is = holds_of (IsBodyOf (key.User user)) (read_body (key.User user) bytes) b is (said (IsBodyOf (key.User user)) (key.User user) bytes (λ d s. quota_body_holds (IsBodyOf (key.User user)) (key.User user) d (λ quotas scrams h. h) s) (no_quotas (key.User user)))
read_is (key.UserClient user client) bytes b is = holds_of (IsBodyOf (key.UserClient user client)) (read_body (key.UserClient user client) bytes) b is (said (IsBodyOf (key.UserClient user client)) (key.UserClient user client) bytes (λ d s. quota_body_holds (IsBodyOf (key.UserClient user client)) (key.UserClient user client) d (λ quotas scrams h. h) s) (no_quotas (key.UserClient user client)))
read_is (key.Ip address) bytes b is = holds_of (IsBodyOf (key.Ip address)) (read_body (key.Ip address) bytes) b is (said (IsBodyOf (key.Ip address)) (key.Ip address) bytes (λ d s. quota_body_holds (IsBodyOf (key.Ip address)) (key.Ip address) d (λ quotas scrams h. h) s) (no_quotas (key.Ip address)))
read_is (key.Acl pattern kind name) bytes b is = holds_of (IsBodyOf (key.Acl pattern kind name)) (read_body (key.Acl pattern kind name) bytes) b is (said (IsBodyOf (key.Acl pattern kind name)) (key.Acl pattern kind name) bytes (acls_hold pattern kind name) tt)
read_is key.Producer bytes b is = producer_body bytes b is (holds_of IsProducerBody (read_body key.Producer bytes) b is (said IsProducerBody key.Producer bytes (λ d s. producer_kind d) refl))
