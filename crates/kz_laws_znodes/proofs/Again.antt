-- The znodes of a rendering can be translated.
use Rattle.std.proofs.Common.{◌≡◌, ◌≢◌, ◌⊎◌, ℕ, ◌<◌, ◌≤◌, ℤ, ◌≤ℤ◌, pos, negsuc, Bool, true, false, cond, ◌||◌, List, [], ◌∷◌, ◌++◌, length, map, get_or, Option, Some, None, Contains, All, refl, sym, ap, ◌∙◌, subst, inl, inr, codes, arith, append_assoc, eq-or-lt_of_le}
use Rattle.std.specs.Prelude.{Ok, Err, nat_lt, int_lt, ◌+ℤ◌, option_map, option_and_then, if◌then◌else◌}
use Rattle.std.specs.List.{AllPairs}
use Rattle.std.specs.Ordering.{int_cmp, int_eq}
use Rattle.std.specs.Result.{result_ok}
use Rattle.std.proofs.lemmas.Bool.{cases_lt, false≢true, lt-ltb}
use Rattle.std.proofs.lemmas.Int.{ints}
use Rattle.std.proofs.lemmas.Slice.Eq.{bytes_eq-Decides}
use Rattle.std.proofs.lemmas.List.Elements.{All-contains, All-head, Contains-get_or, All-map, at_from_Contains, Contains-append_left, Contains-append_right}
use Rattle.std.proofs.lemmas.List.Folds.{list_any_none}
use Rattle.kz_types.specs.declared.id.Id.{Id}
use Rattle.kz_types.specs.declared.tree.Row.{Row}
use Rattle.kz_types.specs.declared.tree.Rendered.{Rendered}
use Rattle.kz_types.specs.declared.bodies.Pair.{Pair}
use Rattle.kz_types.specs.declared.bodies.QuotaRow.{QuotaRow}
use Rattle.kz_types.specs.declared.bodies.ScramPair.{ScramPair}
use Rattle.kz_types.specs.declared.bodies.Body.{Body}
use Rattle.kz_types.specs.declared.bodies.Body.TheVariants as body
use Rattle.kz_types.specs.declared.image.TopicEntry.{TopicEntry}
use Rattle.kz_types.specs.declared.image.PartitionEntry.{PartitionEntry}
use Rattle.kz_types.specs.declared.key.EntityKey.{EntityKey}
use Rattle.kz_types.specs.declared.key.EntityKey.TheVariants as key
use Rattle.kz_types.specs.declared.fault.BodyFault.TheVariants as fault
use Rattle.kz_types.specs.declared.fault.ReadWhy.TheVariants as why
use Rattle.kz_types.specs.declared.record.MetaRecord.{MetaRecord}
use Rattle.kz_types.specs.declared.record.MetaRecord.TheVariants as meta
use Rattle.kz_types.specs.Paths.{key_of, path_of}
use Rattle.kz_types.specs.Order.{bytes_cmp}
use Rattle.kz_types.specs.Ordered.{find, Rises}
use Rattle.kz_types.proofs.Order.{bytes_order, int_order}
use Rattle.kz_types.proofs.Lookup.{some_is_none, same_some, contained_is_found, Contains-head}
use Rattle.kz_types.proofs.Append.{Rises_left}
use Rattle.kz_types.proofs.Maps.{find-map, Rises-map}
use Rattle.kz_types.specs.Numbers.{is_in}
use Rattle.kz_spec_data.specs.Bodies.{read_body}
use Rattle.kz_spec_data.specs.Tree.{path_of_row, row_at, path_of_rendered}
use Rattle.kz_spec_data.specs.Metadata.{Image, same_id, number_of_partition}
use Rattle.kz_spec_data.specs.ImageRules.{is_empty, is_epoch}
use Rattle.kz_spec_data.specs.InOrder.{IsInOrder}
use Rattle.kz_spec_data.specs.Legal.{IsMember, IsConfiguration}
use Rattle.kz_spec_data.specs.Rendering.{topic_znode, assignment_of, state_body, quotas_of_user, acl_key, render}
use Rattle.kz_spec_data.specs.Translation.{row_of, body_of_row, is_topic_with, is_taken, topic_records, number_of_assignment, assignments_in, assignment_at, may_lead, leader_of, records_if_assigned, config_record, config_records, records_if_there, scram_records, quota_record, bad_field, max_block_end, records_of_producer, broker_name, acl_records, count_of_entries, records_of, entity_records, records_by_kind, row_records, records_then, records_after, all_records}
use Rattle.kz_laws_values.specs.Readable.{AreBrokers}
use Rattle.kz_laws_znodes.specs.RoundTrip.{new_znode, znodes_of, IsWritable, HasRoom, MayReturn}
use Rattle.kz_laws_znodes.proofs.Within.{from_map}
use Rattle.kz_laws_znodes.proofs.Scaffolds.{IsScaffold}
use Rattle.kz_laws_znodes.proofs.Shown.{Shown, shown_topic, shown_state, shown_topic_config, shown_config, shown_parent, shown_quotas, shown_user, shown_entries, shown_producer, shown_blank, shown_scaffold, shown, topic_facts, partition_facts}
use Rattle.kz_laws_znodes.proofs.Bodies.{RowFacts, facts, brokers}
use Rattle.kz_laws_znodes.proofs.Partitions.{lt_fails}
use Rattle.kz_laws_znodes.proofs.Held.{IsHeld, has_quotas, quota_kind_of, topic_held, state_held, topic_config_held, config_held, quota_held, user_held, parent_held, resource_rows, entries_held, producer_held, blank_held}
use Rattle.kz_laws_znodes.proofs.Found.{Entry, low_epoch, entry_of, render_rises, topic_found}
use Rattle.kz_laws_znodes.proofs.Walk.{IsKeyed, AreRows, HasRecords, AllHaveRecords, kind_is_entity, absent_here}

-- ---- ids of topics

at_place : {A : Type 0} (xs : List A) (x : A) → Contains xs x → (n : ℕ) × (n < length xs) × ((d : A) → get_or xs n d ≡ x)
at_place xs x has = let k = at_from_Contains xs x has in (k.0, k.1, k.2)

-- of topics no two of which have one id, two with one id are one
same_by_id : (topics : List TopicEntry) → AllPairs (λ (t u : TopicEntry). t.id ≢ u.id) topics → (t u : TopicEntry) → Contains topics t → Contains topics u → t.id ≡ u.id → t ≡ u
same_by_id topics apart t u has other e =
    let a = at_place topics t has in
    let b = at_place topics u other in
    by a.0 b.0 a.1 b.1 a.2 b.2 (cases_lt a.0 b.0)
  where
    by : (m n : ℕ) → m < length topics → n < length topics → ((d : TopicEntry) → get_or topics m d ≡ t) → ((d : TopicEntry) → get_or topics n d ≡ u) → (m < n) ⊎ (n ≤ m) → t ≡ u
    by m n lm ln at_t at_u (inl less) = absurd (apart m n t less ln (ap (λ (x : TopicEntry). x.id) (at_t t) ∙ e ∙ ap (λ (x : TopicEntry). x.id) (sym (at_u t))))
    by m n lm ln at_t at_u (inr more) = elim (eq-or-lt_of_le more) [
      | inl is ↦ sym (at_t t) ∙ ap (λ k. get_or topics k t) (sym is) ∙ at_u t
      | inr less ↦ absurd (apart n m t less lm (ap (λ (x : TopicEntry). x.id) (at_u t) ∙ sym e ∙ ap (λ (x : TopicEntry). x.id) (sym (at_t t))))
    ]

-- ---- leaders

pub leader_kept : (replicas : List ℤ) (leader : ℤ) → AreBrokers replicas → may_lead replicas leader ≡ true → leader_of leader ≡ leader
leader_kept replicas leader h may = by (int_eq leader (negsuc 1)) refl
  where
    same_number : (a b : ℤ) → int_eq a b ≡ true → a ≡ b
    same_number a b e = grind (arith, ints)

    absent : (ids : List ℤ) → AreBrokers ids → is_in ids (negsuc 1) ≡ true → ⊥
    absent [] h is = absurd (cc)
    absent (id ∷ ids) h is = either (int_eq (negsuc 1) id) refl is (absent ids h.1)
      where
        low : negsuc 1 ≡ id → ⊥
        low e = omega (arith, ints, subst (λ z. pos 0 ≤ℤ z) (sym e) h.0.0)

        either : (t : Bool) → int_eq (negsuc 1) id ≡ t → t || is_in ids (negsuc 1) ≡ true → (is_in ids (negsuc 1) ≡ true → ⊥) → ⊥
        either true e k rest = low (same_number (negsuc 1) id e)
        either false e k rest = rest k

    by : (t : Bool) → int_eq leader (negsuc 1) ≡ t → cond t (negsuc 0) leader ≡ leader
    by true e = absurd (absent replicas h (ap (may_lead replicas) (sym (same_number leader (negsuc 1) e)) ∙ may))
    by false e = refl

-- ---- configurations

first_named : (name : List ℕ) → is_empty name ≡ false → nat_lt 0 (length name) ≡ true
first_named [] e = absurd (cc)
first_named (b ∷ bs) e = lt-ltb 0 (length (b ∷ bs)) (omega arith)

config_ok : (resource : ℤ) (name : List ℕ) (pairs : List Pair) → All IsMember pairs → (one : List MetaRecord) × (config_records resource name pairs ≡ Ok one)
config_ok resource name [] named = ([], refl)
config_ok resource name (p ∷ ps) named = (map (config_record resource name) (p ∷ ps), ap (λ t. if t then Ok (map (config_record resource name) (p ∷ ps)) else Err (why.Body (fault.UnknownKey p.name))) (first_named p.name (All-head IsMember p ps named)))

there_ok : (o : Option Row) (name : List ℕ) (pairs : List Pair) → All IsMember pairs → (one : List MetaRecord) × (records_if_there o name (Ok (body.Config pairs)) ≡ Ok one)
there_ok None name pairs named = ([], refl)
there_ok (Some x) name pairs named = config_ok (pos 2) name pairs named

quotas_ok : (rows earlier : List Row) (k : EntityKey) (quotas : List QuotaRow) (scrams : List ScramPair) → has_quotas k ≡ true → records_of rows earlier k (Ok (body.Quota quotas scrams)) ≡ Ok (scram_records k scrams ++ map (quota_record k) quotas)
quotas_ok rows earlier (key.Topic name) quotas scrams h = absurd (false≢true h)
quotas_ok rows earlier (key.Partition topic partition) quotas scrams h = absurd (false≢true h)
quotas_ok rows earlier (key.TopicConfig name) quotas scrams h = absurd (false≢true h)
quotas_ok rows earlier (key.BrokerConfig broker) quotas scrams h = absurd (false≢true h)
quotas_ok rows earlier (key.Client client) quotas scrams h = refl
quotas_ok rows earlier (key.User user) quotas scrams h = refl
quotas_ok rows earlier (key.UserClient user client) quotas scrams h = refl
quotas_ok rows earlier (key.Ip address) quotas scrams h = refl
quotas_ok rows earlier (key.Acl pattern resource name) quotas scrams h = absurd (false≢true h)
quotas_ok rows earlier key.Producer quotas scrams h = absurd (false≢true h)

block_ok : (next : ℤ) → next ≤ℤ pos 9223372036854773808 → int_lt max_block_end (next +ℤ pos 999) ≡ false
block_ok next h = lt_fails max_block_end (next +ℤ pos 999) (omega (arith, ints, h))

-- ---- all znodes

-- where each znode has records, all have
all_ok : (rows earlier todo : List Row) → rows ≡ earlier ++ todo → AllHaveRecords rows → (rs : List MetaRecord) × (records_after rows earlier todo ≡ Ok rs)
all_ok rows earlier [] whole h = ([], refl)
all_ok rows earlier (r ∷ todo) whole h =
    let one = h earlier r todo whole in
    let rest = all_ok rows (earlier ++ r ∷ []) todo (whole ∙ sym (append_assoc earlier (r ∷ []) todo)) h in
    (one.0 ++ rest.0, (λ j. records_then r.path (one.1 j) (rest.1 j)))

module _ (i : Image) (o : IsInOrder i) (w : IsWritable i) (m : MayReturn i) where
  abbrev rows : List Row
  rows = znodes_of i

  pub row_found : (path : List ℕ) → row_at path rows ≡ option_map new_znode (find bytes_cmp path_of_rendered path (render i))
  row_found path = find-map bytes_cmp path_of_rendered path_of_row new_znode (λ r. refl) path (render i)

  -- What a znode of the rendering is.
  pub record RowIs (r : Row) : Type 0 where
    pub source : Rendered
    pub is : r ≡ new_znode source
    pub shows : Shown i source

  pub row_is : (r : Row) → Contains rows r → RowIs r
  row_is r has = let f = from_map new_znode (render i) r has in record { source = f.source; is = f.is; shows = shown i o w f.source f.has }

  pub are_rows : AreRows rows
  are_rows = record {
    rising = Rises-map bytes_cmp path_of_rendered path_of_row new_znode (λ r. refl) (render i) (render_rises i);
    versions = All-map (λ (r : Row). is_epoch r.version ≡ true) new_znode (render i) (λ k d within. refl);
    keyed = λ r has k e. let x = row_is r has in by r x.source x.is k e (entry_of i o w m x.source x.shows);
  }
    where
      by : (r : Row) (x : Rendered) → r ≡ new_znode x → (k : EntityKey) → key_of r.path ≡ Some k → Entry i x ⊎ IsScaffold x.path → IsKeyed r k
      by r x is k e (inl entry) =
          let same : entry.who ≡ k = same_some entry.who k (sym entry.holds.keyed ∙ ap (λ (y : Row). key_of y.path) (sym is) ∙ e) in
          subst (λ (y : Row). IsKeyed y k) (sym is) (subst (IsKeyed (new_znode x)) same (record { placed = entry.holds.placed; good = entry.holds.good; fits = entry.holds.fits }))
      by r x is k e (inr scaffold) = absurd (some_is_none (sym e ∙ ap (λ (y : Row). key_of y.path) is ∙ scaffold.none))

  -- ---- each has records

  pub body_of_held : (x : Rendered) (k : EntityKey) (b : Body) → IsHeld x k b → body_of_row (new_znode x) ≡ Some b
  body_of_held x k b h = ap (option_and_then (λ j. result_ok (read_body j x.body))) h.keyed ∙ ap result_ok h.read

  -- the records of a znode that holds an entity
  records_held : (earlier : List Row) (x : Rendered) (k : EntityKey) (b : Body) → IsHeld x k b → row_records rows earlier (new_znode x) ≡ records_of rows earlier k (Ok b)
  records_held earlier x k b h =
      ap (λ kd. records_by_kind rows earlier kd (new_znode x)) (kind_is_entity x.path k h.keyed)
      ∙ ap (λ j. entity_records rows earlier j x.body) h.keyed
      ∙ ap (records_of rows earlier k) h.read

  -- the znodes of a topic is an earlier one only where the topic is another
  pub topic_row : (t : TopicEntry) → Contains i.topics t → row_of (key.Topic t.name) rows ≡ Some (new_znode (topic_znode t))
  topic_row t has = row_found (path_of (key.Topic t.name)) ∙ ap (option_map new_znode) (topic_found i o w m t has)

  not_of_topic : (t : TopicEntry) (x : Rendered) (k : EntityKey) (b : Body) → IsHeld x k b → is_topic_with t.id (Some b) ≡ false → is_topic_with t.id (body_of_row (new_znode x)) ≡ false
  not_of_topic t x k b h other = ap (is_topic_with t.id) (body_of_held x k b h) ∙ other

  -- no other znode has the id of a topic
  other_id : (t : TopicEntry) → Contains i.topics t → (x : Rendered) → Shown i x → (x.path ≢ path_of (key.Topic t.name)) → is_topic_with t.id (body_of_row (new_znode x)) ≡ false
  other_id t has x (shown_topic u other is) ne = not_of_topic t x (key.Topic u.name) (body.Topic u.id (map assignment_of u.partitions)) (subst (λ y. IsHeld y (key.Topic u.name) (body.Topic u.id (map assignment_of u.partitions))) (sym is) (topic_held i o w u other)) (by (same_id t.id u.id) refl)
    where
      id_from : (a b : Id) → a.bytes ≡ b.bytes → a ≡ b
      id_from a b e = ap (λ (bytes : List ℕ). record { bytes = bytes }) e

      by : (b : Bool) → same_id t.id u.id ≡ b → same_id t.id u.id ≡ false
      by false e = e
      by true e =
          let ids : t.id ≡ u.id = id_from t.id u.id ((bytes_eq-Decides t.id.bytes u.id.bytes).0 e) in
          let same : t ≡ u = same_by_id i.topics o.legal.topics.apart t u has other ids in
          absurd (ne (ap (λ (y : Rendered). y.path) is ∙ ap (λ (v : TopicEntry). path_of (key.Topic v.name)) (sym same)))
  other_id t has x (shown_state u p other within is) ne = not_of_topic t x (key.Partition u.name p.number) (state_body p.row) (subst (λ y. IsHeld y (key.Partition u.name p.number) (state_body p.row)) (sym is) (state_held i o w u p other within (low_epoch i o w m u p other within))) refl
  other_id t has x (shown_topic_config u other p ps some is) ne = not_of_topic t x (key.TopicConfig u.name) (body.Config u.pairs) (subst (λ y. IsHeld y (key.TopicConfig u.name) (body.Config u.pairs)) (sym is) (topic_config_held i o w u other)) refl
  other_id t has x (shown_config c other is) ne = let h = config_held i o w c other in not_of_topic t x (key.BrokerConfig h.0) (body.Config c.pairs) (subst (λ y. IsHeld y (key.BrokerConfig h.0) (body.Config c.pairs)) (sym is) h.2) refl
  other_id t has x (shown_parent user good is) ne = not_of_topic t x (key.User user) (body.Quota [] []) (subst (λ y. IsHeld y (key.User user) (body.Quota [] [])) (sym is) (parent_held i o w user good)) refl
  other_id t has x (shown_quotas q k other named is) ne = not_of_topic t x k (body.Quota q.quotas []) (subst (λ y. IsHeld y k (body.Quota q.quotas [])) (sym is) (quota_held i o w q k other named)) refl
  other_id t has x (shown_user u other is) ne = not_of_topic t x (key.User (Some u.name)) (body.Quota (quotas_of_user u.name i.quotas) u.scrams) (subst (λ y. IsHeld y (key.User (Some u.name)) (body.Quota (quotas_of_user u.name i.quotas) u.scrams)) (sym is) (user_held i o w u other)) refl
  other_id t has x (shown_entries a other is) ne = not_of_topic t x (acl_key a.row) (body.Acls (resource_rows i o w a.row)) (subst (λ y. IsHeld y (acl_key a.row) (body.Acls (resource_rows i o w a.row))) (sym is) (entries_held i o w a other)) refl
  other_id t has x (shown_producer next some is) ne = not_of_topic t x key.Producer (body.Producer (negsuc 0) next (next +ℤ pos 999)) (subst (λ y. IsHeld y key.Producer (body.Producer (negsuc 0) next (next +ℤ pos 999))) (sym is) (producer_held i o w next some m.next)) refl
  other_id t has x (shown_blank is) ne = not_of_topic t x key.Producer body.Blank (subst (λ y. IsHeld y key.Producer body.Blank) (sym is) (blank_held i o w)) refl
  other_id t has x (shown_scaffold scaffold) ne = ap (λ k. is_topic_with t.id (option_and_then (λ j. result_ok (read_body j x.body)) k)) scaffold.none

  module _ (earlier : List Row) (r : Row) (rest : List Row) (whole : rows ≡ earlier ++ r ∷ rest) where
    abbrev Ok_here : Rendered → Type 0
    Ok_here x = (one : List MetaRecord) × (row_records rows earlier (new_znode x) ≡ Ok one)

    ok_by : (x : Rendered) (k : EntityKey) (b : Body) → IsHeld x k b → (one : List MetaRecord) × (records_of rows earlier k (Ok b) ≡ Ok one) → Ok_here x
    ok_by x k b h ok = (ok.0, records_held earlier x k b h ∙ ok.1)

    earlier_differs : (y : Row) → Contains earlier y → y.path ≢ r.path
    earlier_differs y has e =
        let there = contained_is_found bytes_order path_of_row earlier y (Rises_left bytes_order path_of_row earlier (r ∷ rest) (subst (Rises bytes_cmp path_of_row) whole are_rows.rising)) has in
        some_is_none (sym there ∙ ap (λ p. row_at p earlier) e ∙ absent_here rows earlier r rest whole are_rows)

    not_taken : (t : TopicEntry) → Contains i.topics t → r.path ≡ path_of (key.Topic t.name) → is_taken t.id earlier ≡ false
    not_taken t has at = list_any_none (λ y. is_topic_with t.id (body_of_row y)) earlier (λ k d within.
        let y : Row = get_or earlier k d in
        let here : Contains earlier y = Contains-get_or earlier k d within in
        let x = row_is y (subst (λ xs. Contains xs y) (sym whole) (Contains-append_left earlier (r ∷ rest) y here)) in
        ap (λ z. is_topic_with t.id (body_of_row z)) x.is
        ∙ other_id t has x.source x.shows (λ e. earlier_differs y here (ap (λ (z : Row). z.path) x.is ∙ e ∙ sym at)))

    state_ok : (t : TopicEntry) (p : PartitionEntry) → Contains i.topics t → Contains t.partitions p → records_if_assigned (assignment_at t.name p.number rows) (Ok (state_body p.row)) ≡ Ok []
    state_ok t p has within =
        let f = partition_facts i o w t p has within in
        let g : RowFacts p.row = facts p f in
        let there : assignment_at t.name p.number rows ≡ Some (assignment_of p) =
        ap (λ y. find int_cmp number_of_assignment p.number (assignments_in (option_and_then body_of_row y))) (topic_row t has)
        ∙ ap (λ b. find int_cmp number_of_assignment p.number (assignments_in b)) (body_of_held (topic_znode t) (key.Topic t.name) (body.Topic t.id (map assignment_of t.partitions)) (topic_held i o w t has))
        ∙ find-map int_cmp number_of_partition number_of_assignment assignment_of (λ q. refl) p.number t.partitions
        ∙ ap (option_map assignment_of) (contained_is_found int_order number_of_partition t.partitions p (topic_facts i o w t has).order.0 within) in
        let lead : may_lead p.row.replicas (leader_of p.row.leader) ≡ true = ap (may_lead p.row.replicas) (leader_kept p.row.replicas p.row.leader (brokers p f) g.leader) ∙ g.leader in
        ap (λ a. records_if_assigned a (Ok (state_body p.row))) there ∙ (rw (g.isr, lead) refl)

    producer_ok : (next : ℤ) → i.next_producer ≡ Some next → (one : List MetaRecord) × (records_of_producer (Ok (body.Producer (negsuc 0) next (next +ℤ pos 999))) ≡ Ok one)
    producer_ok next some =
        let one : List MetaRecord = meta.ProducerIds (record { broker_id = negsuc 0; broker_epoch = negsuc 0; next = (next +ℤ pos 999) +ℤ pos 1 }) ∷ [] in
        (one, ap (λ t. if t then bad_field (codes "block_end") else Ok one) (block_ok next (subst HasRoom some m.next)))

    by_shown : (x : Rendered) → r ≡ new_znode x → Shown i x → Ok_here x
    by_shown x at (shown_topic t has is) =
        let place : r.path ≡ path_of (key.Topic t.name) = ap (λ (y : Row). y.path) at ∙ ap (λ (y : Rendered). y.path) is in
        ok_by x (key.Topic t.name) (body.Topic t.id (map assignment_of t.partitions)) (subst (λ y. IsHeld y (key.Topic t.name) (body.Topic t.id (map assignment_of t.partitions))) (sym is) (topic_held i o w t has))
        (topic_records rows t.name t.id (map assignment_of t.partitions), ap (λ b. if b then Err why.SameId else Ok (topic_records rows t.name t.id (map assignment_of t.partitions))) (not_taken t has place))
    by_shown x at (shown_state t p has within is) = ok_by x (key.Partition t.name p.number) (state_body p.row) (subst (λ y. IsHeld y (key.Partition t.name p.number) (state_body p.row)) (sym is) (state_held i o w t p has within (low_epoch i o w m t p has within))) ([], state_ok t p has within)
    by_shown x at (shown_topic_config t has p ps some is) =
        ok_by x (key.TopicConfig t.name) (body.Config t.pairs) (subst (λ y. IsHeld y (key.TopicConfig t.name) (body.Config t.pairs)) (sym is) (topic_config_held i o w t has))
        (there_ok (row_of (key.Topic t.name) rows) t.name t.pairs (topic_facts i o w t has).legal.each_member)
    by_shown x at (shown_config c has is) =
        let h = config_held i o w c has in
        ok_by x (key.BrokerConfig h.0) (body.Config c.pairs) (subst (λ y. IsHeld y (key.BrokerConfig h.0) (body.Config c.pairs)) (sym is) h.2)
        (config_ok (pos 4) (broker_name h.0) c.pairs (All-contains IsConfiguration i.broker_configs c o.legal.configs has).1)
    by_shown x at (shown_parent user good is) = ok_by x (key.User user) (body.Quota [] []) (subst (λ y. IsHeld y (key.User user) (body.Quota [] [])) (sym is) (parent_held i o w user good)) (_, quotas_ok rows earlier (key.User user) [] [] refl)
    by_shown x at (shown_quotas q k has named is) = ok_by x k (body.Quota q.quotas []) (subst (λ y. IsHeld y k (body.Quota q.quotas [])) (sym is) (quota_held i o w q k has named)) (_, quotas_ok rows earlier k q.quotas [] (quota_kind_of i o w q k has named))
    by_shown x at (shown_user u has is) = ok_by x (key.User (Some u.name)) (body.Quota (quotas_of_user u.name i.quotas) u.scrams) (subst (λ y. IsHeld y (key.User (Some u.name)) (body.Quota (quotas_of_user u.name i.quotas) u.scrams)) (sym is) (user_held i o w u has)) (_, quotas_ok rows earlier (key.User (Some u.name)) (quotas_of_user u.name i.quotas) u.scrams refl)
    by_shown x at (shown_entries a has is) = ok_by x (acl_key a.row) (body.Acls (resource_rows i o w a.row)) (subst (λ y. IsHeld y (acl_key a.row) (body.Acls (resource_rows i o w a.row))) (sym is) (entries_held i o w a has)) (acl_records (count_of_entries earlier) (resource_rows i o w a.row), refl)
    by_shown x at (shown_producer next some is) = ok_by x key.Producer (body.Producer (negsuc 0) next (next +ℤ pos 999)) (subst (λ y. IsHeld y key.Producer (body.Producer (negsuc 0) next (next +ℤ pos 999))) (sym is) (producer_held i o w next some m.next)) (producer_ok next some)
    by_shown x at (shown_blank is) = ok_by x key.Producer body.Blank (subst (λ y. IsHeld y key.Producer body.Blank) (sym is) (blank_held i o w)) ([], refl)
    by_shown x at (shown_scaffold scaffold) = ([], ap (λ kd. records_by_kind rows earlier kd (new_znode x)) scaffold.kind_is)

    pub has_records : HasRecords rows earlier r
    has_records =
        let x = row_is r (subst (λ xs. Contains xs r) (sym whole) (Contains-append_right earlier (r ∷ rest) r (Contains-head r rest))) in
        let ok = by_shown x.source x.is x.shows in
        (ok.0, ap (row_records rows earlier) x.is ∙ ok.1)

  -- the records of the znodes of the rendering
  pub records_again : (rs : List MetaRecord) × (all_records rows ≡ Ok rs)
  records_again = all_ok rows [] rows refl (λ earlier r rest whole. has_records earlier r rest whole)
