-- What the bodies of entities can be.
use Rattle.std.proofs.Common.{◌≡◌, ℕ, suc, ◌+◌, ◌≤◌, Bool, true, false, cond, ◌==◌, List, [], ◌∷◌, length, Option, Some, None, is_some, Result, Ok, Err, IfOk, IfSome, option_and_then, refl, sym, ap, ◌∙◌, subst, arith}
use Rattle.std.specs.Prelude.{⊤}
use Rattle.std.specs.Result.{result_ok}
use Rattle.serde_json.specs.Data.{Data}
use Rattle.kz_types.specs.declared.tree.Row.{Row}
use Rattle.kz_types.specs.declared.row.AclRow.{AclRow}
use Rattle.kz_types.specs.declared.record.MetaRecord.{MetaRecord}
use Rattle.kz_types.specs.declared.key.EntityKey.{EntityKey}
use Rattle.kz_types.specs.declared.key.EntityKey.TheVariants as key
use Rattle.kz_types.specs.declared.kind.Kind.TheVariants as kind
use Rattle.kz_types.specs.declared.bodies.Body.{Body}
use Rattle.kz_types.specs.declared.bodies.Body.TheVariants as body
use Rattle.kz_types.specs.declared.fault.BodyFault.{BodyFault}
use Rattle.kz_types.specs.Paths.{key_of, kind_of}
use Rattle.kz_spec_data.specs.Bodies.{then_read, body_of, empty_body, object_of, json_of, body_of_object, body_unless_empty, read_body, config_of, quota_of_data, topic_of_data, state_of_data, producer_of_data}
use Rattle.kz_spec_data.specs.Translation.{RowRecords, entries_in, count_of_entries, acl_records, records_of_acls, records_of, entity_records, records_by_kind, row_records, body_of_row}

-- what holds of each body that may follow holds of the body that is read
pub then_kept : {A : Type 0} (P : Body → Type 0) (r : Result A BodyFault) (go : A → Result Body BodyFault) → ((a : A) → r ≡ Ok a → IfOk (go a) P) → IfOk (then_read r go) P
then_kept P (Err e) go h = tt
then_kept P (Ok a) go h = h a refl

-- what holds of each body of an object and of empty data holds of the body that is read
module _ (k : EntityKey) (P : Body → Type 0) (filled : (d : Data) → IfOk (body_of k d) P) where
  of_object : (o : Option Data) → IfOk (body_of_object k o) P
  of_object None = tt
  of_object (Some d) = filled d

  unless_empty : (b : Bool) (empty : Body) (o : Option Data) → P empty → IfOk (cond b (Ok empty) (body_of_object k o)) P
  unless_empty true empty o h = h
  unless_empty false empty o h = of_object o

  of_empty : (bytes : List ℕ) (empty : Option Body) → IfSome empty P → IfOk (body_unless_empty k bytes empty) P
  of_empty bytes None h = of_object (object_of (json_of bytes))
  of_empty bytes (Some empty) h = unless_empty (length bytes == 0) empty (object_of (json_of bytes)) h

  pub read_kept : (bytes : List ℕ) → IfSome (empty_body k) P → IfOk (read_body k bytes) P
  unfolding read_body
  read_kept bytes h = of_empty bytes (empty_body k) h

-- ---- access control entries

pub zero_least : (n : ℕ) → 0 ≤ n
zero_least n = omega arith

itself_least : (n : ℕ) → n ≤ n
itself_least n = omega arith

-- what was read is these records, where it could be read
abbrev IsSame : RowRecords → List MetaRecord → Type 0
IsSame (Ok rs) more = rs ≡ more
IsSame (Err e) more = ⊤

abbrev HasNoEntries : Body → Type 0
HasNoEntries b = entries_in (Some b) ≡ 0

config_has_none : (d : Data) → IfOk (config_of d) HasNoEntries
config_has_none d = search (then_kept)

quota_has_none : (k : EntityKey) (d : Data) → IfOk (quota_of_data k d) HasNoEntries
quota_has_none k d = search (then_kept)

topic_has_none : (d : Data) → IfOk (topic_of_data d) HasNoEntries
topic_has_none d = search (then_kept)

state_has_none : (d : Data) → IfOk (state_of_data d) HasNoEntries
state_has_none d = search (then_kept) depth 8

producer_has_none : (d : Data) → IfOk (producer_of_data d) HasNoEntries
producer_has_none d = search (then_kept)

none_is_few : (read : Result Body BodyFault) (n : ℕ) → IfOk read HasNoEntries → entries_in (result_ok read) ≤ n
none_is_few (Err e) n h = zero_least n
none_is_few (Ok b) n h = subst (λ m. m ≤ n) (sym h) (zero_least n)

-- there are as many records as entries
count_of_records : (n : ℕ) (rows : List AclRow) → length (acl_records n rows) ≡ length rows
count_of_records n [] = refl
count_of_records n (row ∷ rows) = ap suc (count_of_records (n + 1) rows)

few_acls : (earlier : List Row) (read : Result Body BodyFault) (more : List MetaRecord) → IsSame (records_of_acls earlier read) more → entries_in (result_ok read) ≤ length more
few_acls earlier (Err e) more h = zero_least (length more)
few_acls earlier (Ok (body.Acls rows)) more h = subst (λ n. length rows ≤ n) (sym (count_of_records (count_of_entries earlier) rows) ∙ ap (λ rs. length rs) h) (itself_least (length rows))
few_acls earlier (Ok (body.Topic id partitions)) more h = zero_least (length more)
few_acls earlier (Ok (body.State leader leader_epoch controller_epoch isr recovery)) more h = zero_least (length more)
few_acls earlier (Ok (body.Config pairs)) more h = zero_least (length more)
few_acls earlier (Ok (body.Quota quotas scrams)) more h = zero_least (length more)
few_acls earlier (Ok (body.Producer broker start end)) more h = zero_least (length more)
few_acls earlier (Ok body.Blank) more h = zero_least (length more)

few_of_key : (rows earlier : List Row) (k : EntityKey) (bytes : List ℕ) (more : List MetaRecord) → IsSame (records_of rows earlier k (read_body k bytes)) more → entries_in (result_ok (read_body k bytes)) ≤ length more
unfolding body_of empty_body
few_of_key rows earlier (key.Topic name) bytes more h = none_is_few _ _ (read_kept (key.Topic name) HasNoEntries topic_has_none bytes tt)
few_of_key rows earlier (key.Partition topic number) bytes more h = none_is_few _ _ (read_kept (key.Partition topic number) HasNoEntries state_has_none bytes tt)
few_of_key rows earlier (key.TopicConfig name) bytes more h = none_is_few _ _ (read_kept (key.TopicConfig name) HasNoEntries config_has_none bytes refl)
few_of_key rows earlier (key.BrokerConfig broker) bytes more h = none_is_few _ _ (read_kept (key.BrokerConfig broker) HasNoEntries config_has_none bytes refl)
few_of_key rows earlier (key.Client client) bytes more h = none_is_few _ _ (read_kept (key.Client client) HasNoEntries (quota_has_none (key.Client client)) bytes refl)
few_of_key rows earlier (key.User user) bytes more h = none_is_few _ _ (read_kept (key.User user) HasNoEntries (quota_has_none (key.User user)) bytes refl)
few_of_key rows earlier (key.UserClient user client) bytes more h = none_is_few _ _ (read_kept (key.UserClient user client) HasNoEntries (quota_has_none (key.UserClient user client)) bytes refl)
few_of_key rows earlier (key.Ip address) bytes more h = none_is_few _ _ (read_kept (key.Ip address) HasNoEntries (quota_has_none (key.Ip address)) bytes refl)
few_of_key rows earlier (key.Acl pattern kind name) bytes more h = few_acls earlier (read_body (key.Acl pattern kind name) bytes) more h
few_of_key rows earlier key.Producer bytes more h = none_is_few _ _ (read_kept key.Producer HasNoEntries producer_has_none bytes refl)

if_so : {A : Type 0} (b : Bool) (x y : A) → b ≡ true → cond b x y ≡ x
if_so b x y e = rw e refl

pub with_a_key : (path : List ℕ) (k : EntityKey) → key_of path ≡ Some k → kind_of path ≡ kind.Entity
unfolding kind_of
with_a_key path k e = if_so _ _ _ (ap (λ o. is_some o) e)

few_by_key : (rows earlier : List Row) (r : Row) (o : Option EntityKey) (more : List MetaRecord) → key_of r.path ≡ o → IsSame (row_records rows earlier r) more
    → entries_in (option_and_then (λ k. result_ok (read_body k r.body)) o) ≤ length more
few_by_key rows earlier r None more e h = zero_least (length more)
few_by_key rows earlier r (Some k) more e h = few_of_key rows earlier k r.body more
    (subst (λ x. IsSame x more) (ap (λ x. records_by_kind rows earlier x r) (with_a_key r.path k e) ∙ ap (λ o. entity_records rows earlier o r.body) e) h)

-- a znode has no more access control entries than records
pub few_entries : (rows earlier : List Row) (r : Row) (more : List MetaRecord) → Ok more ≡ row_records rows earlier r → entries_in (body_of_row r) ≤ length more
few_entries rows earlier r more e = few_by_key rows earlier r (key_of r.path) more refl (subst (λ x. IsSame x more) e refl)
