-- What znodes say of an entity.
use Rattle.std.proofs.Common.{◌≡◌, ◌≢◌, ℕ, ◌+◌, ℤ, pos, Bool, true, false, cond, List, [], ◌∷◌, ◌++◌, length, Option, Some, None, Ordering, is_eq, refl, sym, ap, ◌∙◌, length-append}
use Rattle.std.specs.Prelude.{Result, Ok, Err, option_map, option_and_then, ◌+ℤ◌}
use Rattle.std.specs.Option.{option_or}
use Rattle.std.specs.List.{flat_map}
use Rattle.std.specs.Result.{result_ok}
use Rattle.std.proofs.lemmas.List.Sums.{sum_by-cons}
use Rattle.kz_types.specs.declared.id.Id.{Id}
use Rattle.kz_types.specs.declared.tree.Row.{Row}
use Rattle.kz_types.specs.declared.row.AclRow.{AclRow}
use Rattle.kz_types.specs.declared.bodies.Pair.{Pair}
use Rattle.kz_types.specs.declared.bodies.AssignmentRow.{AssignmentRow}
use Rattle.kz_types.specs.declared.bodies.QuotaRow.{QuotaRow}
use Rattle.kz_types.specs.declared.bodies.ScramPair.{ScramPair}
use Rattle.kz_types.specs.declared.bodies.Body.{Body}
use Rattle.kz_types.specs.declared.bodies.Body.TheVariants as body
use Rattle.kz_types.specs.declared.fault.BodyFault.{BodyFault}
use Rattle.kz_types.specs.declared.key.EntityKey.{EntityKey}
use Rattle.kz_types.specs.declared.key.EntityKey.TheVariants as key
use Rattle.kz_types.specs.Paths.{key_of}
use Rattle.kz_types.specs.Order.{TotalOrder, bytes_cmp}
use Rattle.kz_types.specs.Ordered.{find, put, Rises}
use Rattle.kz_types.proofs.Order.{bytes_order}
use Rattle.kz_types.proofs.Lookup.{find_here, find_skip, find-put_same, find-put_other, Rises-put}
use Rattle.kz_types.proofs.Append.{find-append}
use Rattle.kz_spec_data.specs.Bodies.{read_body}
use Rattle.kz_spec_data.specs.Tree.{path_of_row, row_at}
use Rattle.kz_spec_data.specs.Translation.{body_of_row, entries_in, count_of_entries}
use Rattle.kz_laws_znodes.proofs.ZnodeGroups.{grown}

-- ---- the entity of a znode

-- An entity, and what is read of it.
pub record Entity : Type 0 where
  pub who : EntityKey
  pub what : Body

abbrev pub entity_by : Option EntityKey → List ℕ → Option Entity
entity_by k bytes = option_and_then (λ who. option_map (λ b. record { who = who; what = b }) (result_ok (read_body who bytes))) k

-- the entity of a znode, where it holds one that is read
abbrev pub entity_of : Row → Option Entity
entity_of r = entity_by (key_of r.path) r.body

pub entity_read : (r : Row) (k : EntityKey) (b : Body) → key_of r.path ≡ Some k → read_body k r.body ≡ Ok b → entity_of r ≡ Some (record { who = k; what = b })
entity_read r k b holds is = ap (λ o. entity_by o r.body) holds ∙ ap (λ x. option_map (λ b. record { who = k; what = b }) (result_ok x)) is

pub entity_unread : (r : Row) (k : EntityKey) (e : BodyFault) → key_of r.path ≡ Some k → read_body k r.body ≡ Err e → entity_of r ≡ None
entity_unread r k e holds is = ap (λ o. entity_by o r.body) holds ∙ ap (λ x. option_map (λ b. record { who = k; what = b }) (result_ok x)) is

pub no_entity : (r : Row) → key_of r.path ≡ None → entity_of r ≡ None
no_entity r none = ap (λ o. entity_by o r.body) none

-- ---- what it says

-- What a topic's znode says.
pub record Assignment : Type 0 where
  pub id : Id
  pub rows : List AssignmentRow

abbrev pub topic_said : EntityKey → Body → Option Assignment
topic_said k (body.Topic id rows) = Some (record { id = id; rows = rows })
topic_said k b = None

abbrev pub of_topic : EntityKey → List Pair → Option (List Pair)
of_topic (key.TopicConfig name) pairs = Some pairs
of_topic k pairs = None

abbrev pub topic_config_said : EntityKey → Body → Option (List Pair)
topic_config_said k (body.Config pairs) = of_topic k pairs
topic_config_said k b = None

abbrev pub of_broker : EntityKey → List Pair → Option (List Pair)
of_broker (key.BrokerConfig broker) pairs = Some pairs
of_broker k pairs = None

abbrev pub broker_config_said : EntityKey → Body → Option (List Pair)
broker_config_said k (body.Config pairs) = of_broker k pairs
broker_config_said k b = None

abbrev pub quotas_said : EntityKey → Body → Option (List QuotaRow)
quotas_said k (body.Quota quotas scrams) = Some quotas
quotas_said k b = None

abbrev pub of_user : EntityKey → List ScramPair → Option (List ScramPair)
of_user (key.User (Some name)) scrams = Some scrams
of_user k scrams = None

abbrev pub scrams_said : EntityKey → Body → Option (List ScramPair)
scrams_said k (body.Quota quotas scrams) = of_user k scrams
scrams_said k b = None

abbrev pub entries_said : EntityKey → Body → List AclRow
entries_said k (body.Acls rows) = rows
entries_said k b = []

-- the next producer id is the one after the block
abbrev pub next_said : EntityKey → Body → Option ℤ
next_said k (body.Producer broker start end) = Some (end +ℤ pos 1)
next_said k b = None

-- ---- what znodes say at a path

abbrev pub pick : {A : Type 0} → (EntityKey → Body → Option A) → Option Entity → Option A
pick say None = None
pick say (Some e) = say e.who e.what

abbrev pub said : {A : Type 0} → (EntityKey → Body → Option A) → List ℕ → List Row → Option A
said say path rows = option_and_then (λ r. pick say (entity_of r)) (row_at path rows)

abbrev pub pick_row : {A : Type 0} → (EntityKey → Body → Option A) → Row → Option A
pick_row say r = pick say (entity_of r)

module _ {A : Type 0} (say : EntityKey → Body → Option A) (path : List ℕ) (earlier : List Row) (r : Row) where
  joined : said say path (earlier ++ r ∷ []) ≡ option_and_then (pick_row say) (option_or (row_at path earlier) (row_at path (r ∷ [])))
  joined = ap (option_and_then (pick_row say)) (find-append bytes_cmp path_of_row path earlier (r ∷ []))

  nothing_more : pick say (entity_of r) ≡ None → (b : Bool) (o : Option Row) → option_and_then (pick_row say) (option_or o (cond b (Some r) None)) ≡ option_and_then (pick_row say) o
  nothing_more nothing b (Some x) = refl
  nothing_more nothing true None = nothing
  nothing_more nothing false None = refl

  -- a znode that says nothing changes nothing
  pub unsaid : pick say (entity_of r) ≡ None → said say path (earlier ++ r ∷ []) ≡ said say path earlier
  unsaid nothing = joined ∙ nothing_more nothing (is_eq (bytes_cmp path r.path)) (row_at path earlier)

  or_none : (o : Option Row) → option_or o None ≡ o
  or_none None = refl
  or_none (Some x) = refl

  -- and so does one at another path
  pub said_elsewhere : path ≢ r.path → said say path (earlier ++ r ∷ []) ≡ said say path earlier
  said_elsewhere ne = joined ∙ ap (λ o. option_and_then (pick_row say) (option_or (row_at path earlier) o)) (find_skip bytes_order path_of_row path r [] ne) ∙ ap (option_and_then (pick_row say)) (or_none (row_at path earlier))

  -- where no znode was, a new one says what it says
  pub said_here : path ≡ r.path → row_at path earlier ≡ None → said say path (earlier ++ r ∷ []) ≡ pick say (entity_of r)
  said_here e absent = joined ∙ ap (λ o. option_and_then (pick_row say) (option_or o (row_at path (r ∷ [])))) absent ∙ ap (option_and_then (pick_row say)) (find_here bytes_order path_of_row path r [] e)

pub said_nowhere : {A : Type 0} (say : EntityKey → Body → Option A) (path : List ℕ) (rows : List Row) → row_at path rows ≡ None → said say path rows ≡ None
said_nowhere say path rows absent = ap (option_and_then (pick_row say)) absent

-- ---- entries

abbrev pub entries_by : Option Entity → List AclRow
entries_by None = []
entries_by (Some e) = entries_said e.who e.what

abbrev pub entries_of : Row → List AclRow
entries_of r = entries_by (entity_of r)

-- all entries of these znodes, in their order
abbrev pub all_entries : List Row → List AclRow
all_entries rows = flat_map entries_of rows

counted : (o : Option EntityKey) (bytes : List ℕ) → entries_in (option_and_then (λ k. result_ok (read_body k bytes)) o) ≡ length (entries_by (entity_by o bytes))
counted None bytes = refl
counted (Some k) bytes = by (read_body k bytes)
  where
    by : (r : Result Body BodyFault) → entries_in (result_ok r) ≡ length (entries_by (option_map (λ b. record { who = k; what = b }) (result_ok r)))
    by (Err e) = refl
    by (Ok (body.Topic id rows)) = refl
    by (Ok (body.State leader leader_epoch controller_epoch isr recovery)) = refl
    by (Ok (body.Config pairs)) = refl
    by (Ok (body.Quota quotas scrams)) = refl
    by (Ok (body.Acls rows)) = refl
    by (Ok (body.Producer broker start end)) = refl
    by (Ok body.Blank) = refl

pub entries_counted : (rows : List Row) → count_of_entries rows ≡ length (all_entries rows)
entries_counted [] = refl
entries_counted (r ∷ rows) =
    let one = counted (key_of r.path) r.body in
    let rest = entries_counted rows in
    sum_by-cons (λ x. entries_in (body_of_row x)) r rows ∙ ap (λ n. n + count_of_entries rows) one ∙ ap (λ n. length (entries_of r) + n) rest ∙ sym (length-append (entries_of r) (all_entries rows))

-- ---- lists of lists

-- the item of a key and a list, unless the list is empty
abbrev pub listed : {A X K : Type 0} → (K → List A → X) → K → List A → Option X
listed make k [] = None
listed make k (a ∷ rest) = Some (make k (a ∷ rest))

-- what may be absent, as a list
abbrev pub or_empty : {A : Type 0} → Option (List A) → List A
or_empty None = []
or_empty (Some list) = list

module _ {A X K : Type 0} {cmp : K → K → Ordering} (o : TotalOrder cmp) (key : X → K) (make : K → List A → X) (keeps : (k : K) (list : List A) → key (make k list) ≡ k) where
  pub grown_rises : (k : K) (list : List A) (xs : List X) → Rises cmp key xs → Rises cmp key (grown cmp key make k list xs)
  grown_rises k [] xs h = h
  grown_rises k (a ∷ rest) xs h = Rises-put o key (make k (a ∷ rest)) xs h

  pub grown_here : (k : K) (list : List A) (xs : List X) → find cmp key k xs ≡ None → find cmp key k (grown cmp key make k list xs) ≡ listed make k list
  grown_here k [] xs absent = absent
  grown_here k (a ∷ rest) xs absent = ap (λ q. find cmp key q (put cmp key (make k (a ∷ rest)) xs)) (sym (keeps k (a ∷ rest))) ∙ find-put_same o key (make k (a ∷ rest)) xs

  pub grown_elsewhere : (j k : K) (list : List A) (xs : List X) → j ≢ k → find cmp key j (grown cmp key make k list xs) ≡ find cmp key j xs
  grown_elsewhere j k [] xs ne = refl
  grown_elsewhere j k (a ∷ rest) xs ne = find-put_other o key (make k (a ∷ rest)) xs j (λ e. ne (e ∙ keeps k (a ∷ rest)))
