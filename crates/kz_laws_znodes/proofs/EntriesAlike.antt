-- The znodes of access control entries, and that of producer ids, at a path.
use Rattle.std.proofs.Common.{◌≡◌, ◌≢◌, ℕ, ℤ, pos, negsuc, Bool, true, false, cond, List, [], ◌∷◌, map, filter, Option, Some, None, Contains, refl, sym, ap, ◌∙◌, subst, inl, inr}
use Rattle.std.specs.Prelude.{◌+ℤ◌, option_map}
use Rattle.std.specs.Str.{bytes_eq}
use Rattle.std.proofs.lemmas.Slice.Eq.{bytes_eq-Decides}
use Rattle.kz_types.specs.declared.tree.Rendered.{Rendered}
use Rattle.kz_types.specs.declared.bodies.Body.{Body}
use Rattle.kz_types.specs.declared.bodies.Body.TheVariants as body
use Rattle.kz_types.specs.declared.row.AclRow.{AclRow}
use Rattle.kz_types.specs.declared.image.AclEntry.{AclEntry}
use Rattle.kz_types.specs.declared.key.EntityKey.{EntityKey}
use Rattle.kz_types.specs.declared.key.EntityKey.TheVariants as key
use Rattle.kz_types.specs.Paths.{is_legal, path_of}
use Rattle.kz_types.proofs.Lookup.{same_some, Contains-head, Contains-tail, Contains-nil, Contains-cons_cases}
use Rattle.kz_spec_data.specs.Metadata.{Image}
use Rattle.kz_spec_data.specs.InOrder.{IsInOrder}
use Rattle.kz_spec_data.specs.Rendering.{znode, acl_key, row_of_acl, acl_znode, producer_znodes}
use Rattle.kz_laws_values.proofs.Legal.{IsGoodKey}
use Rattle.kz_laws_values.proofs.Keys.{one_key}
use Rattle.kz_laws_znodes.specs.RoundTrip.{IsWritable}
use Rattle.kz_laws_znodes.proofs.Within.{from_map, to_map}
use Rattle.kz_laws_znodes.proofs.Held.{facts_of_acl}
use Rattle.kz_spec_data.specs.Entities.{acl_body, rows_of_resource, entity}
use Rattle.kz_spec_data.specs.Spans.{spanned_paths}
use Rattle.kz_laws_znodes.proofs.Lasts.{last_at}
use Rattle.kz_laws_znodes.proofs.Spans.{own_path}
use Rattle.kz_laws_znodes.proofs.Spanned.{HoldTheSame}
use Rattle.kz_laws_znodes.proofs.DeltaTopics.{entity_znode, same_entity}
use Rattle.kz_laws_znodes.proofs.DeltaGroups.{Gives, groups_alike}

-- ---- entries of one resource

abbrev is_at : EntityKey → AclEntry → Bool
is_at k a = bytes_eq (path_of (acl_key a.row)) (path_of k)

-- one of the entries is of the resource, where there are rows of it
pub some_entry : (k : EntityKey) (acls : List AclEntry) → rows_of_resource k acls ≢ [] → (a : AclEntry) × Contains acls a × (path_of (acl_key a.row) ≡ path_of k)
some_entry k [] some = absurd (some refl)
some_entry k (a ∷ acls) some = by (is_at k a) refl some (some_entry k acls)
  where
    by : (b : Bool) → is_at k a ≡ b → (map row_of_acl (cond b (a ∷ filter (is_at k) acls) (filter (is_at k) acls)) ≢ []) → (rows_of_resource k acls ≢ [] → (c : AclEntry) × Contains acls c × (path_of (acl_key c.row) ≡ path_of k))
        → (c : AclEntry) × Contains (a ∷ acls) c × (path_of (acl_key c.row) ≡ path_of k)
    by true e some later = (a, Contains-head a acls, (bytes_eq-Decides (path_of (acl_key a.row)) (path_of k)).0 e)
    by false e some later = let r = later some in (r.0, Contains-tail a acls r.0 r.1, r.2)

-- there are rows, where one of the entries is of the resource
pub some_rows : (k : EntityKey) (acls : List AclEntry) (a : AclEntry) → Contains acls a → path_of (acl_key a.row) ≡ path_of k → (r : AclRow) × ((rs : List AclRow) × (rows_of_resource k acls ≡ r ∷ rs))
some_rows k [] a has at = absurd (Contains-nil a has)
some_rows k (b ∷ acls) a has at = by (is_at k b) refl (λ has. some_rows k acls a has at)
  where
    rest : is_at k b ≡ false → Contains acls a
    rest other = elim (Contains-cons_cases b acls a has) [
      | inl e ↦ let yes : is_at k b ≡ true = (bytes_eq-Decides (path_of (acl_key b.row)) (path_of k)).1 (ap (λ (x : AclEntry). path_of (acl_key x.row)) e ∙ at) in absurd (cc (yes, other))
      | inr later ↦ later
    ]

    by : (t : Bool) → is_at k b ≡ t → (Contains acls a → (r : AclRow) × ((rs : List AclRow) × (rows_of_resource k acls ≡ r ∷ rs)))
        → (r : AclRow) × ((rs : List AclRow) × (map row_of_acl (cond t (b ∷ filter (is_at k) acls) (filter (is_at k) acls)) ≡ r ∷ rs))
    by true e later = (b.row, (map row_of_acl (filter (is_at k) acls), refl))
    by false e later = later (rest e)

pub body_of_rows : (rows : List AclRow) (r : AclRow) (rs : List AclRow) → rows ≡ r ∷ rs → acl_body rows ≡ Some (body.Acls rows)
body_of_rows [] r rs e = absurd (cc (e))
body_of_rows (x ∷ xs) r rs e = refl

pub rows_of_body : (rows : List AclRow) (b : Body) → acl_body rows ≡ Some b → (b ≡ body.Acls rows) × (rows ≢ [])
rows_of_body [] b e = absurd (cc (e))
rows_of_body (x ∷ xs) b e = (sym (same_some (body.Acls (x ∷ xs)) b e), λ none. cc (none))

-- ---- the znodes of resources

-- a key of a resource
abbrev IsResource : EntityKey → Type 0
IsResource (key.Acl pattern kind name) = IsGoodKey (key.Acl pattern kind name)
IsResource k = ⊥

good_resource : (k : EntityKey) → IsResource k → IsGoodKey k
good_resource (key.Acl pattern kind name) good = good
good_resource (key.Topic name) none = absurd none
good_resource (key.Partition topic number) none = absurd none
good_resource (key.TopicConfig name) none = absurd none
good_resource (key.BrokerConfig broker) none = absurd none
good_resource (key.Client client) none = absurd none
good_resource (key.User user) none = absurd none
good_resource (key.UserClient user client) none = absurd none
good_resource (key.Ip address) none = absurd none
good_resource key.Producer none = absurd none

one_resource : (j k : EntityKey) → IsResource j → IsResource k → path_of j ≡ path_of k → j ≡ k
one_resource j k g h same = let a = good_resource j g in let b = good_resource k h in one_key j k a.0 a.1 b.0 b.1 same

module _ (i : Image) (o : IsInOrder i) (w : IsWritable i) where
  abbrev rows_held : EntityKey → Option Body
  rows_held k = acl_body (rows_of_resource k i.acls)

  acl_each : (r : Rendered) → Contains (map (acl_znode i.acls) i.acls) r → (k : EntityKey) × IsResource k × ((b : Body) × (rows_held k ≡ Some b) × (r ≡ znode k b))
  acl_each r has =
      let f = from_map (acl_znode i.acls) i.acls r has in
      let a : AclEntry = f.source in
      let rows = some_rows (acl_key a.row) i.acls a f.has refl in
      (acl_key a.row, (facts_of_acl i o w a f.has).good, (body.Acls (rows_of_resource (acl_key a.row) i.acls), body_of_rows (rows_of_resource (acl_key a.row) i.acls) rows.0 rows.1.0 rows.1.1, f.is))

  acl_there : (k : EntityKey) (b : Body) → IsResource k → rows_held k ≡ Some b → Contains (map (acl_znode i.acls) i.acls) (znode k b)
  acl_there k b good is =
      let rows = rows_of_body (rows_of_resource k i.acls) b is in
      let a = some_entry k i.acls rows.1 in
      let g = (facts_of_acl i o w a.0 a.1).good in
      let h = good_resource k good in
      let same : acl_key a.0.row ≡ k = one_key (acl_key a.0.row) k g.0 g.1 h.0 h.1 a.2 in
      let made : acl_znode i.acls a.0 ≡ znode k b = ap (λ j. znode j (body.Acls (rows_of_resource j i.acls))) same ∙ ap (znode k) (sym rows.0) in
      subst (Contains (map (acl_znode i.acls) i.acls)) made (to_map (acl_znode i.acls) i.acls a.0 a.1)

  acls_given : Gives path_of IsResource one_resource znode (λ k b. refl) (map (acl_znode i.acls) i.acls) rows_held
  acls_given = record { each = acl_each; there = acl_there }

module _ (old new : Image) (oo : IsInOrder old) (wo : IsWritable old) (on : IsInOrder new) (wn : IsWritable new) (p : List ℕ) (hold : HoldTheSame old new p) where
  same_rows : (k : EntityKey) → IsResource k → path_of k ≡ p → acl_body (rows_of_resource k old.acls) ≡ acl_body (rows_of_resource k new.acls)
  same_rows (key.Acl pattern kind name) good at = hold (key.Acl pattern kind name) good (subst (Contains (spanned_paths (key.Acl pattern kind name))) at (own_path (key.Acl pattern kind name)))
  same_rows (key.Topic name) none at = absurd none
  same_rows (key.Partition topic number) none at = absurd none
  same_rows (key.TopicConfig name) none at = absurd none
  same_rows (key.BrokerConfig broker) none at = absurd none
  same_rows (key.Client client) none at = absurd none
  same_rows (key.User user) none at = absurd none
  same_rows (key.UserClient user client) none at = absurd none
  same_rows (key.Ip address) none at = absurd none
  same_rows key.Producer none at = absurd none

  pub acls_alike : last_at p (map (acl_znode old.acls) old.acls) ≡ last_at p (map (acl_znode new.acls) new.acls)
  acls_alike = groups_alike path_of IsResource one_resource znode (λ k b. refl) p (map (acl_znode old.acls) old.acls) (map (acl_znode new.acls) new.acls) (rows_held old oo wo) (rows_held new on wn) (acls_given old oo wo) (acls_given new on wn) same_rows

  -- ---- producer ids

  producer_good : IsGoodKey key.Producer
  unfolding is_legal
  producer_good = (refl, tt)

  producer_is : (next : Option ℤ) → producer_znodes next ≡ entity_znode key.Producer (option_map (λ n. body.Producer (negsuc 0) n (n +ℤ pos 999)) next)
  producer_is None = refl
  producer_is (Some n) = refl

  pub producer_alike : last_at p (producer_znodes old.next_producer) ≡ last_at p (producer_znodes new.next_producer)
  producer_alike =
      ap (last_at p) (producer_is old.next_producer)
      ∙ same_entity p key.Producer (entity old key.Producer) (entity new key.Producer) (λ at. hold key.Producer producer_good (subst (Contains (spanned_paths key.Producer)) (sym at) (own_path key.Producer)))
      ∙ ap (last_at p) (sym (producer_is new.next_producer))
