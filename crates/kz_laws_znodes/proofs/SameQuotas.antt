-- The quotas and credentials that return.
use Rattle.std.proofs.Common.{◌≡◌, ◌⊎◌, ℕ, ◌<◌, pos, negsuc, Bool, true, false, cond, List, [], ◌∷◌, ◌++◌, length, map, Option, Some, None, Contains, refl, sym, ap, ◌∙◌, subst, inl, inr, arith}
use Rattle.std.specs.Prelude.{Ok, ◌+ℤ◌}
use Rattle.std.specs.Str.{is_utf8}
use Rattle.std.specs.List.{flat_map}
use Rattle.std.proofs.lemmas.List.Elements.{All-contains, Contains-append_left, Contains-append_right}
use Rattle.kz_types.specs.declared.tree.Row.{Row}
use Rattle.kz_types.specs.declared.tree.Rendered.{Rendered}
use Rattle.kz_types.specs.declared.bodies.QuotaRow.{QuotaRow}
use Rattle.kz_types.specs.declared.bodies.ScramPair.{ScramPair}
use Rattle.kz_types.specs.declared.bodies.Body.TheVariants as body
use Rattle.kz_types.specs.declared.image.QuotaEntry.{QuotaEntry}
use Rattle.kz_types.specs.declared.image.ScramEntry.{ScramEntry}
use Rattle.kz_types.specs.declared.key.EntityKey.{EntityKey}
use Rattle.kz_types.specs.declared.key.EntityKey.TheVariants as key
use Rattle.kz_types.specs.Paths.{key_of, path_of}
use Rattle.kz_types.specs.Order.{bytes_cmp}
use Rattle.kz_types.specs.Ordered.{find}
use Rattle.kz_types.proofs.Order.{bytes_order}
use Rattle.kz_types.proofs.Lookup.{some_is_none, found_is_contained, key_of_found, contained_is_found, same_items, Contains-head}
use Rattle.kz_spec_data.specs.Bodies.{read_body}
use Rattle.kz_spec_data.specs.Tree.{path_of_rendered}
use Rattle.kz_spec_data.specs.Metadata.{Image, path_of_quotas, name_of_user}
use Rattle.kz_spec_data.specs.Image.{quotas_in}
use Rattle.kz_spec_data.specs.InOrder.{IsQuotaFilled, IsUserFilled, IsInOrder}
use Rattle.kz_spec_data.specs.Rendering.{znode, topic_znodes, assignment_of, state_body, config_znode, quota_parents, znode_of_quotas, own_znodes, user_znode, quota_znodes, acl_key, render, entity_znodes}
use Rattle.kz_laws_values.proofs.Legal.{IsGoodKey}
use Rattle.kz_laws_values.proofs.Keys.{path_holds}
use Rattle.kz_laws_znodes.specs.RoundTrip.{new_znode, znodes_of, AreQuotasWritable, IsUserWritable, IsWritable, MayReturn}
use Rattle.kz_laws_znodes.proofs.Within.{to_flat, to_map}
use Rattle.kz_laws_znodes.proofs.Shown.{Shown, shown_topic, shown_state, shown_topic_config, shown_config, shown_parent, shown_quotas, shown_user, shown_entries, shown_producer, shown_blank, shown_scaffold, shown, quota_key_good, after_quotas}
use Rattle.kz_laws_znodes.proofs.Held.{IsHeld, has_quotas, quota_kind_of, quota_path, topic_held, state_held, topic_config_held, config_held, quota_held, user_held, parent_held, resource_rows, entries_held, producer_held, blank_held}
use Rattle.kz_laws_znodes.proofs.Found.{low_epoch, is_there}
use Rattle.kz_laws_znodes.proofs.FoundQuotas.{quotas_at, no_scrams, with_scrams}
use Rattle.kz_laws_znodes.proofs.SameTopics.{held_says, scaffold_says, said_found, said_missing}
use Rattle.kz_laws_znodes.proofs.OtherSteps.{quota_list, scram_list}
use Rattle.kz_laws_znodes.proofs.QuotaWalk.{same_user}
use Rattle.kz_laws_znodes.proofs.Saying.{entity_read, pick, pick_row, quotas_said, scrams_said, of_user, said, listed, or_empty}
use Rattle.kz_laws_znodes.proofs.Says.{scrams_in_rows, SaysQuotas, SaysUsers}

nothing_of_user : (k : EntityKey) → or_empty (of_user k []) ≡ []
nothing_of_user (key.Topic name) = refl
nothing_of_user (key.Partition topic partition) = refl
nothing_of_user (key.TopicConfig name) = refl
nothing_of_user (key.BrokerConfig broker) = refl
nothing_of_user (key.Client client) = refl
nothing_of_user (key.User None) = refl
nothing_of_user (key.User (Some name)) = refl
nothing_of_user (key.UserClient user client) = refl
nothing_of_user (key.Ip address) = refl
nothing_of_user (key.Acl pattern kind name) = refl
nothing_of_user key.Producer = refl

module _ (i : Image) (o : IsInOrder i) (w : IsWritable i) (m : MayReturn i) where
  abbrev rows : List Row
  rows = znodes_of i

  -- whether a key is of one of the users with credentials
  abbrev IsUser : EntityKey → Type 0
  IsUser k = (u : ScramEntry) × Contains i.users u × (k ≡ key.User (Some u.name))

  is_user_or : (k : EntityKey) → IsUser k ⊎ ((u : ScramEntry) → Contains i.users u → k ≡ key.User (Some u.name) → ⊥)
  is_user_or (key.Topic name) = inr (λ u has e. cc)
  is_user_or (key.Partition topic partition) = inr (λ u has e. cc)
  is_user_or (key.TopicConfig name) = inr (λ u has e. cc)
  is_user_or (key.BrokerConfig broker) = inr (λ u has e. cc)
  is_user_or (key.Client client) = inr (λ u has e. cc)
  is_user_or (key.User None) = inr (λ u has e. let names : None ≡ Some u.name = cc in some_is_none (sym names))
  is_user_or (key.User (Some name)) = by (find bytes_cmp name_of_user name i.users) refl
    where
      by : (u : Option ScramEntry) → find bytes_cmp name_of_user name i.users ≡ u → IsUser (key.User (Some name)) ⊎ ((u : ScramEntry) → Contains i.users u → key.User (Some name) ≡ key.User (Some u.name) → ⊥)
      by None e = inr (λ u has is. let names : name ≡ u.name = cc in some_is_none (sym (ap (λ n. find bytes_cmp name_of_user n i.users) names ∙ contained_is_found bytes_order name_of_user i.users u o.users.rising has) ∙ e))
      by (Some u) e = inl (u, found_is_contained bytes_order name_of_user name i.users u e, ap (λ n. key.User (Some n)) (sym (key_of_found bytes_order name_of_user name i.users u e)))
  is_user_or (key.UserClient user client) = inr (λ u has e. cc)
  is_user_or (key.Ip address) = inr (λ u has e. cc)
  is_user_or (key.Acl pattern kind name) = inr (λ u has e. cc)
  is_user_or key.Producer = inr (λ u has e. cc)

  -- the znode of an entity that may have quotas says them
  quotas_are_said : (k : EntityKey) → IsGoodKey k → has_quotas k ≡ true → (r : Rendered) → find bytes_cmp path_of_rendered (path_of k) (render i) ≡ Some r → said quotas_said (path_of k) rows ≡ Some (quotas_at i o w m k)
  quotas_are_said k good kind r found =
      said_found i o w m quotas_said (path_of k) r found ∙ by (is_user_or k)
    where
      keyed : key_of r.path ≡ Some k
      keyed = ap key_of (key_of_found bytes_order path_of_rendered (path_of k) (render i) r found) ∙ path_holds k good.0 good.1

      read : (scrams : List ScramPair) → read_body k r.body ≡ Ok (body.Quota (quotas_at i o w m k) scrams) → pick_row quotas_said (new_znode r) ≡ Some (quotas_at i o w m k)
      read scrams e = ap (pick quotas_said) (entity_read (new_znode r) k (body.Quota (quotas_at i o w m k) scrams) keyed e)

      by : IsUser k ⊎ ((u : ScramEntry) → Contains i.users u → k ≡ key.User (Some u.name) → ⊥) → pick_row quotas_said (new_znode r) ≡ Some (quotas_at i o w m k)
      by (inl user) = read user.0.scrams (with_scrams i o w m k good kind r found user.0 user.1 user.2)
      by (inr none) = read [] (no_scrams i o w m k good kind r found none)

  -- what says quotas is the znode of an entity that may have some
  abbrev IsOfQuotas : Rendered → Type 0
  IsOfQuotas x = (k : EntityKey) × IsGoodKey k × (has_quotas k ≡ true) × (path_of k ≡ x.path)

  who_says_quotas : (x : Rendered) → Shown i x → IsOfQuotas x ⊎ (pick_row quotas_said (new_znode x) ≡ None)
  who_says_quotas x (shown_topic t has is) = inr (held_says i o w m quotas_said x (key.Topic t.name) (body.Topic t.id (map assignment_of t.partitions)) (subst (λ y. IsHeld y (key.Topic t.name) (body.Topic t.id (map assignment_of t.partitions))) (sym is) (topic_held i o w t has)))
  who_says_quotas x (shown_state u p has within is) = inr (held_says i o w m quotas_said x (key.Partition u.name p.number) (state_body p.row) (subst (λ y. IsHeld y (key.Partition u.name p.number) (state_body p.row)) (sym is) (state_held i o w u p has within (low_epoch i o w m u p has within))))
  who_says_quotas x (shown_topic_config u has p ps some is) = inr (held_says i o w m quotas_said x (key.TopicConfig u.name) (body.Config u.pairs) (subst (λ y. IsHeld y (key.TopicConfig u.name) (body.Config u.pairs)) (sym is) (topic_config_held i o w u has)))
  who_says_quotas x (shown_config c has is) = let h = config_held i o w c has in inr (held_says i o w m quotas_said x (key.BrokerConfig h.0) (body.Config c.pairs) (subst (λ y. IsHeld y (key.BrokerConfig h.0) (body.Config c.pairs)) (sym is) h.2))
  who_says_quotas x (shown_parent user good is) = inl (key.User user, good, refl, sym (ap (λ (y : Rendered). y.path) is))
  who_says_quotas x (shown_quotas q k has named is) = inl (k, quota_key_good i o w q k has named, quota_kind_of i o w q k has named, sym (ap (λ (y : Rendered). y.path) is))
  who_says_quotas x (shown_user u has is) = inl (key.User (Some u.name), (user_held i o w u has).good, refl, sym (ap (λ (y : Rendered). y.path) is))
  who_says_quotas x (shown_entries a has is) = inr (held_says i o w m quotas_said x (acl_key a.row) (body.Acls (resource_rows i o w a.row)) (subst (λ y. IsHeld y (acl_key a.row) (body.Acls (resource_rows i o w a.row))) (sym is) (entries_held i o w a has)))
  who_says_quotas x (shown_producer next some is) = inr (held_says i o w m quotas_said x key.Producer (body.Producer (negsuc 0) next (next +ℤ pos 999)) (subst (λ y. IsHeld y key.Producer (body.Producer (negsuc 0) next (next +ℤ pos 999))) (sym is) (producer_held i o w next some m.next)))
  who_says_quotas x (shown_blank is) = inr (held_says i o w m quotas_said x key.Producer body.Blank (subst (λ y. IsHeld y key.Producer body.Blank) (sym is) (blank_held i o w)))
  who_says_quotas x (shown_scaffold scaffold) = inr (scaffold_says i o w m quotas_said x scaffold.none)

  among_quotas : (x : Rendered) → Contains (quota_znodes i.quotas i.users) x → Contains (entity_znodes i) x
  among_quotas x has = Contains-append_right (flat_map topic_znodes i.topics) (map config_znode i.broker_configs ++ (quota_znodes i.quotas i.users ++ after_quotas i o w)) x
      (Contains-append_right (map config_znode i.broker_configs) (quota_znodes i.quotas i.users ++ after_quotas i o w) x (Contains-append_left (quota_znodes i.quotas i.users) (after_quotas i o w) x has))

  own_found : (q : QuotaEntry) (k : EntityKey) → Contains i.quotas q → key_of q.path ≡ Some k → (r : Rendered) × (find bytes_cmp path_of_rendered (path_of k) (render i) ≡ Some r)
  own_found q k has named =
      let x : Rendered = znode k (body.Quota q.quotas []) in
      is_there i o w m x (among_quotas x (Contains-append_right (flat_map quota_parents i.quotas) (flat_map own_znodes i.quotas ++ map (user_znode i.quotas) i.users) x (Contains-append_left (flat_map own_znodes i.quotas) (map (user_znode i.quotas) i.users) x
      (to_flat own_znodes i.quotas q x has (subst (λ j. Contains (znode_of_quotas q.quotas j) x) (sym named) (Contains-head x []))))))

  user_found : (u : ScramEntry) → Contains i.users u → (r : Rendered) × (find bytes_cmp path_of_rendered (path_of (key.User (Some u.name))) (render i) ≡ Some r)
  user_found u has =
      let x : Rendered = user_znode i.quotas u in
      is_there i o w m x (among_quotas x (Contains-append_right (flat_map quota_parents i.quotas) (flat_map own_znodes i.quotas ++ map (user_znode i.quotas) i.users) x (Contains-append_right (flat_map own_znodes i.quotas) (map (user_znode i.quotas) i.users) x
      (to_map (user_znode i.quotas) i.users u has))))

  listed_quotas : (q : QuotaEntry) (quotas : List QuotaRow) → q.quotas ≡ quotas → 0 < length quotas → listed quota_list q.path quotas ≡ Some q
  listed_quotas q [] e some = absurd (omega arith)
  listed_quotas q (x ∷ xs) e some = ap (λ quotas. Some (record { path = q.path; quotas = quotas })) (sym e)

  pub quotas_return : (quotas : List QuotaEntry) → SaysQuotas rows quotas → quotas ≡ i.quotas
  quotas_return quotas s = same_items bytes_order path_of_quotas quotas i.quotas s.rise o.quotas.rising (λ path. s.each path ∙ by path (find bytes_cmp path_of_quotas path i.quotas) refl)
    where
      here : (q : QuotaEntry) → Contains i.quotas q → listed quota_list q.path (or_empty (said quotas_said q.path rows)) ≡ Some q
      here q has =
          let writable = All-contains AreQuotasWritable i.quotas q w.quotas has in
          let k : EntityKey = writable.entity in
          let place : path_of k ≡ q.path = quota_path i o w q k has writable.read in
          let r = own_found q k has writable.read in
          ap (λ p. listed quota_list q.path (or_empty (said quotas_said p rows))) (sym place)
          ∙ ap (λ x. listed quota_list q.path (or_empty x)) (quotas_are_said k (quota_key_good i o w q k has writable.read) (quota_kind_of i o w q k has writable.read) r.0 r.1)
          ∙ ap (λ x. listed quota_list q.path (quotas_in x)) (ap (λ p. find bytes_cmp path_of_quotas p i.quotas) place ∙ contained_is_found bytes_order path_of_quotas i.quotas q o.quotas.rising has)
          ∙ listed_quotas q q.quotas refl (All-contains IsQuotaFilled i.quotas q o.quotas.filled has).0

      missing : (path : List ℕ) → find bytes_cmp path_of_quotas path i.quotas ≡ None → (x : Option Rendered) → find bytes_cmp path_of_rendered path (render i) ≡ x → listed quota_list path (or_empty (said quotas_said path rows)) ≡ None
      missing path absent None e = ap (λ x. listed quota_list path (or_empty x)) (said_missing i o w m quotas_said path e)
      missing path absent (Some x) e = elim (who_says_quotas x (shown i o w x (found_is_contained bytes_order path_of_rendered path (render i) x e))) [
        | inl k ↦
            let place : path_of k.0 ≡ path = k.3 ∙ key_of_found bytes_order path_of_rendered path (render i) x e in
            ap (λ p. listed quota_list path (or_empty (said quotas_said p rows))) (sym place)
            ∙ ap (λ y. listed quota_list path (or_empty y)) (quotas_are_said k.0 k.1 k.2 x (ap (λ p. find bytes_cmp path_of_rendered p (render i)) place ∙ e))
            ∙ ap (λ y. listed quota_list path (quotas_in y)) (ap (λ p. find bytes_cmp path_of_quotas p i.quotas) place ∙ absent)
        | inr none ↦ ap (λ y. listed quota_list path (or_empty y)) (said_found i o w m quotas_said path x e ∙ none)
      ]

      by : (path : List ℕ) (q : Option QuotaEntry) → find bytes_cmp path_of_quotas path i.quotas ≡ q → listed quota_list path (or_empty (said quotas_said path rows)) ≡ find bytes_cmp path_of_quotas path i.quotas
      by path None e = missing path e (find bytes_cmp path_of_rendered path (render i)) refl ∙ sym e
      by path (Some q) e =
          let place : q.path ≡ path = key_of_found bytes_order path_of_quotas path i.quotas q e in
          subst (λ p. listed quota_list p (or_empty (said quotas_said p rows)) ≡ Some q) place (here q (found_is_contained bytes_order path_of_quotas path i.quotas q e)) ∙ sym e

  -- ---- users

  -- a znode that says credentials is a user's
  abbrev IsOfUser : Rendered → Type 0
  IsOfUser x = (u : ScramEntry) × Contains i.users u × (x.path ≡ path_of (key.User (Some u.name)))

  who_says_scrams : (x : Rendered) → Shown i x → IsOfUser x ⊎ (or_empty (pick_row scrams_said (new_znode x)) ≡ [])
  who_says_scrams x (shown_topic t has is) = inr (ap or_empty (held_says i o w m scrams_said x (key.Topic t.name) (body.Topic t.id (map assignment_of t.partitions)) (subst (λ y. IsHeld y (key.Topic t.name) (body.Topic t.id (map assignment_of t.partitions))) (sym is) (topic_held i o w t has))))
  who_says_scrams x (shown_state u p has within is) = inr (ap or_empty (held_says i o w m scrams_said x (key.Partition u.name p.number) (state_body p.row) (subst (λ y. IsHeld y (key.Partition u.name p.number) (state_body p.row)) (sym is) (state_held i o w u p has within (low_epoch i o w m u p has within)))))
  who_says_scrams x (shown_topic_config u has p ps some is) = inr (ap or_empty (held_says i o w m scrams_said x (key.TopicConfig u.name) (body.Config u.pairs) (subst (λ y. IsHeld y (key.TopicConfig u.name) (body.Config u.pairs)) (sym is) (topic_config_held i o w u has))))
  who_says_scrams x (shown_config c has is) = let h = config_held i o w c has in inr (ap or_empty (held_says i o w m scrams_said x (key.BrokerConfig h.0) (body.Config c.pairs) (subst (λ y. IsHeld y (key.BrokerConfig h.0) (body.Config c.pairs)) (sym is) h.2)))
  who_says_scrams x (shown_parent user good is) = inr (ap or_empty (held_says i o w m scrams_said x (key.User user) (body.Quota [] []) (subst (λ y. IsHeld y (key.User user) (body.Quota [] [])) (sym is) (parent_held i o w user good))) ∙ nothing_of_user (key.User user))
  who_says_scrams x (shown_quotas q k has named is) = inr (ap or_empty (held_says i o w m scrams_said x k (body.Quota q.quotas []) (subst (λ y. IsHeld y k (body.Quota q.quotas [])) (sym is) (quota_held i o w q k has named))) ∙ nothing_of_user k)
  who_says_scrams x (shown_user u has is) = inl (u, has, ap (λ (y : Rendered). y.path) is)
  who_says_scrams x (shown_entries a has is) = inr (ap or_empty (held_says i o w m scrams_said x (acl_key a.row) (body.Acls (resource_rows i o w a.row)) (subst (λ y. IsHeld y (acl_key a.row) (body.Acls (resource_rows i o w a.row))) (sym is) (entries_held i o w a has))))
  who_says_scrams x (shown_producer next some is) = inr (ap or_empty (held_says i o w m scrams_said x key.Producer (body.Producer (negsuc 0) next (next +ℤ pos 999)) (subst (λ y. IsHeld y key.Producer (body.Producer (negsuc 0) next (next +ℤ pos 999))) (sym is) (producer_held i o w next some m.next))))
  who_says_scrams x (shown_blank is) = inr (ap or_empty (held_says i o w m scrams_said x key.Producer body.Blank (subst (λ y. IsHeld y key.Producer body.Blank) (sym is) (blank_held i o w))))
  who_says_scrams x (shown_scaffold scaffold) = inr (ap or_empty (scaffold_says i o w m scrams_said x scaffold.none))

  listed_scrams : (u : ScramEntry) (scrams : List ScramPair) → u.scrams ≡ scrams → 0 < length scrams → listed scram_list u.name scrams ≡ Some u
  listed_scrams u [] e some = absurd (omega arith)
  listed_scrams u (x ∷ xs) e some = ap (λ scrams. Some (record { name = u.name; scrams = scrams })) (sym e)

  pub users_return : (users : List ScramEntry) → SaysUsers rows users → users ≡ i.users
  users_return users s = same_items bytes_order name_of_user users i.users s.rise o.users.rising (λ name. s.each name ∙ by name (find bytes_cmp name_of_user name i.users) refl)
    where
      here : (u : ScramEntry) → Contains i.users u → cond (is_utf8 u.name) (scrams_in_rows rows u.name) None ≡ Some u
      here u has =
          let writable = All-contains IsUserWritable i.users u w.users has in
          let k : EntityKey = key.User (Some u.name) in
          let r = user_found u has in
          let good : IsGoodKey k = (user_held i o w u has).good in
          let keyed : key_of r.0.path ≡ Some k = ap key_of (key_of_found bytes_order path_of_rendered (path_of k) (render i) r.0 r.1) ∙ path_holds k good.0 good.1 in
          ap (λ b. cond b (scrams_in_rows rows u.name) None) writable.0
          ∙ ap (λ x. listed scram_list u.name (or_empty x)) (said_found i o w m scrams_said (path_of k) r.0 r.1
          ∙ ap (pick scrams_said) (entity_read (new_znode r.0) k (body.Quota (quotas_at i o w m k) u.scrams) keyed (with_scrams i o w m k good refl r.0 r.1 u has refl)))
          ∙ listed_scrams u u.scrams refl (All-contains IsUserFilled i.users u o.users.filled has).0

      nothing : (name : List ℕ) → is_utf8 name ≡ true → find bytes_cmp name_of_user name i.users ≡ None → (x : Option Rendered) → find bytes_cmp path_of_rendered (path_of (key.User (Some name))) (render i) ≡ x → scrams_in_rows rows name ≡ None
      nothing name text absent None e = ap (λ x. listed scram_list name (or_empty x)) (said_missing i o w m scrams_said (path_of (key.User (Some name))) e)
      nothing name text absent (Some x) e = elim (who_says_scrams x (shown i o w x (found_is_contained bytes_order path_of_rendered (path_of (key.User (Some name))) (render i) x e))) [
        | inl u ↦
            let names : name ≡ u.0.name = same_user name u.0.name text (All-contains IsUserWritable i.users u.0 w.users u.1).0 (sym (key_of_found bytes_order path_of_rendered (path_of (key.User (Some name))) (render i) x e) ∙ u.2) in
            absurd (some_is_none (sym (ap (λ n. find bytes_cmp name_of_user n i.users) names ∙ contained_is_found bytes_order name_of_user i.users u.0 o.users.rising u.1) ∙ absent))
        | inr none ↦ ap (λ y. listed scram_list name (or_empty y)) (said_found i o w m scrams_said (path_of (key.User (Some name))) x e) ∙ ap (listed scram_list name) none
      ]

      missing : (name : List ℕ) → find bytes_cmp name_of_user name i.users ≡ None → (t : Bool) → is_utf8 name ≡ t → cond t (scrams_in_rows rows name) None ≡ None
      missing name absent true text = nothing name text absent (find bytes_cmp path_of_rendered (path_of (key.User (Some name))) (render i)) refl
      missing name absent false text = refl

      by : (name : List ℕ) (u : Option ScramEntry) → find bytes_cmp name_of_user name i.users ≡ u → cond (is_utf8 name) (scrams_in_rows rows name) None ≡ find bytes_cmp name_of_user name i.users
      by name None e = missing name e (is_utf8 name) refl ∙ sym e
      by name (Some u) e =
          let names : u.name ≡ name = key_of_found bytes_order name_of_user name i.users u e in
          subst (λ n. cond (is_utf8 n) (scrams_in_rows rows n) None ≡ Some u) names (here u (found_is_contained bytes_order name_of_user name i.users u e)) ∙ sym e
