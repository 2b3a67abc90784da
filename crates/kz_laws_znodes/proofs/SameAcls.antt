-- The access control entries that return.
use Rattle.std.proofs.Common.{◌≡◌, ◌≢◌, ◌⊎◌, ℕ, ◌+◌, pos, negsuc, Bool, true, false, cond, List, [], ◌∷◌, ◌++◌, map, filter, Some, Less, Contains, refl, sym, ap, ◌∙◌, subst, inl, inr, append-nil}
use Rattle.std.specs.Prelude.{◌+ℤ◌, option_map}
use Rattle.std.specs.Str.{bytes_eq}
use Rattle.std.proofs.lemmas.Bool.{false≢true}
use Rattle.std.proofs.lemmas.Slice.Eq.{bytes_eq-Decides}
use Rattle.std.proofs.lemmas.Grind.{flat_map-append}
use Rattle.std.proofs.lemmas.List.Elements.{All-contains, filter-append, Contains-append_left, Contains-append_right}
use Rattle.kz_types.specs.declared.tree.Row.{Row}
use Rattle.kz_types.specs.declared.tree.Rendered.{Rendered}
use Rattle.kz_types.specs.declared.row.AclRow.{AclRow}
use Rattle.kz_types.specs.declared.bodies.Body.{Body}
use Rattle.kz_types.specs.declared.bodies.Body.TheVariants as body
use Rattle.kz_types.specs.declared.image.AclEntry.{AclEntry}
use Rattle.kz_types.specs.declared.key.EntityKey.{EntityKey}
use Rattle.kz_types.specs.declared.key.EntityKey.TheVariants as key
use Rattle.kz_types.specs.Paths.{path_of}
use Rattle.kz_types.specs.Order.{bytes_cmp}
use Rattle.kz_types.specs.Ordered.{Rises}
use Rattle.kz_types.proofs.Order.{bytes_order, less_differs}
use Rattle.kz_types.proofs.Lookup.{Contains-head, Contains-tail, Contains-nil, Contains-cons_cases}
use Rattle.kz_types.proofs.Append.{below_split, above_split, all_from_rises_above}
use Rattle.kz_spec_data.specs.Tree.{path_of_row, row_at}
use Rattle.kz_spec_data.specs.Metadata.{Image}
use Rattle.kz_spec_data.specs.InOrder.{IsInOrder}
use Rattle.kz_spec_data.specs.Rendering.{assignment_of, state_body, quotas_of_user, acl_key, row_of_acl, acl_znode}
use Rattle.kz_spec_data.specs.Translation.{migrated_id}
use Rattle.kz_laws_znodes.specs.RoundTrip.{new_znode, znodes_of, IsWritable, MayReturn, entries_of_resource}
use Rattle.kz_laws_znodes.proofs.Shown.{Shown, shown_topic, shown_state, shown_topic_config, shown_config, shown_parent, shown_quotas, shown_user, shown_entries, shown_producer, shown_blank, shown_scaffold}
use Rattle.kz_laws_znodes.proofs.Held.{IsHeld, topic_held, state_held, topic_config_held, config_held, quota_held, user_held, parent_held, resource_rows, facts_of_acl, entries_held, producer_held, blank_held}
use Rattle.kz_laws_znodes.proofs.Found.{found_at, low_epoch, acl_at, acl_found}
use Rattle.kz_laws_znodes.proofs.Again.{row_found, row_is, are_rows}
use Rattle.kz_laws_znodes.proofs.Walk.{Split, split_at_found}
use Rattle.kz_laws_znodes.proofs.OtherSteps.{numbered}
use Rattle.kz_laws_znodes.proofs.Saying.{entity_read, no_entity, entries_said, entries_by, entries_of, all_entries}
use Rattle.kz_laws_znodes.proofs.Says.{SaysEntries}

-- ---- entries by their resource

abbrev path_of_entry : AclRow → List ℕ
path_of_entry e = path_of (acl_key e)

-- whether an entry is of the resource at this path
abbrev pub is_on : List ℕ → AclRow → Bool
is_on path e = bytes_eq (path_of_entry e) path

-- the entries of the resource at a path
abbrev pub rows_on : List AclEntry → List ℕ → List AclRow
rows_on acls path = map row_of_acl (filter (λ (a : AclEntry). is_on path a.row) acls)

pub same_bytes : (xs ys : List ℕ) → bytes_eq xs ys ≡ true → xs ≡ ys
same_bytes xs ys e = (bytes_eq-Decides xs ys).0 e

pub other_bytes : (xs ys : List ℕ) → xs ≢ ys → bytes_eq xs ys ≡ false
other_bytes xs ys ne = by (bytes_eq xs ys) refl
  where
    by : (t : Bool) → bytes_eq xs ys ≡ t → bytes_eq xs ys ≡ false
    by true e = absurd (ne (same_bytes xs ys e))
    by false e = e

numbered_rows : (path : List ℕ) (n : ℕ) (es : List AclRow) → rows_on (numbered n es) path ≡ filter (is_on path) es
numbered_rows path n [] = refl
numbered_rows path n (e ∷ es) = by (is_on path e) (numbered_rows path (n + 1) es)
  where
    by : (t : Bool) → rows_on (numbered (n + 1) es) path ≡ filter (is_on path) es
        → map row_of_acl (cond t (record { id = migrated_id n; row = e } ∷ filter (λ (a : AclEntry). is_on path a.row) (numbered (n + 1) es)) (filter (λ (a : AclEntry). is_on path a.row) (numbered (n + 1) es)))
        ≡ cond t (e ∷ filter (is_on path) es) (filter (is_on path) es)
    by true rest = ap (λ xs. e ∷ xs) rest
    by false rest = rest

-- the entries of one resource, of which those of another are taken
kept : (path other : List ℕ) (acls : List AclEntry) (t : Bool) → bytes_eq other path ≡ t → filter (is_on path) (rows_on acls other) ≡ cond t (rows_on acls other) []
kept path other [] true e = refl
kept path other [] false e = refl
kept path other (a ∷ rest) t e = by (is_on other a.row) refl (kept path other rest t e)
  where
    on : is_on other a.row ≡ true → is_on path a.row ≡ t
    on h = ap (λ p. bytes_eq p path) (same_bytes (path_of_entry a.row) other h) ∙ e

    taken : (s : Bool) → is_on path a.row ≡ s → s ≡ t → filter (is_on path) (rows_on rest other) ≡ cond t (rows_on rest other) [] → cond s (a.row ∷ filter (is_on path) (rows_on rest other)) (filter (is_on path) (rows_on rest other)) ≡ cond t (a.row ∷ rows_on rest other) []
    taken s h same more = (λ j. cond (same j) (a.row ∷ more j) (more j)) ∙ last t
      where
        last : (u : Bool) → cond u (a.row ∷ cond u (rows_on rest other) []) (cond u (rows_on rest other) []) ≡ cond u (a.row ∷ rows_on rest other) []
        last true = refl
        last false = refl

    by : (s : Bool) → is_on other a.row ≡ s → filter (is_on path) (rows_on rest other) ≡ cond t (rows_on rest other) []
        → filter (is_on path) (map row_of_acl (cond s (a ∷ filter (λ (b : AclEntry). is_on other b.row) rest) (filter (λ (b : AclEntry). is_on other b.row) rest)))
        ≡ cond t (map row_of_acl (cond s (a ∷ filter (λ (b : AclEntry). is_on other b.row) rest) (filter (λ (b : AclEntry). is_on other b.row) rest))) []
    by true h more = taken (is_on path a.row) refl (on h) more
    by false h more = more

-- an entry of a resource, or none
pub any_or_none : (path : List ℕ) (acls : List AclEntry) → ((a : AclEntry) × Contains acls a × (path_of_entry a.row ≡ path)) ⊎ ((a : AclEntry) → Contains acls a → path_of_entry a.row ≢ path)
any_or_none path [] = inr (λ a has. absurd (Contains-nil a has))
any_or_none path (a ∷ rest) = by (is_on path a.row) refl (any_or_none path rest)
  where
    none : is_on path a.row ≡ false → ((b : AclEntry) → Contains rest b → path_of_entry b.row ≢ path) → (b : AclEntry) → Contains (a ∷ rest) b → path_of_entry b.row ≢ path
    none h more b has = elim (Contains-cons_cases a rest b has) [
      | inl e ↦ λ is. false≢true (sym h ∙ (bytes_eq-Decides (path_of_entry a.row) path).1 (ap (λ (x : AclEntry). path_of_entry x.row) e ∙ is))
      | inr later ↦ more b later
    ]

    later : is_on path a.row ≡ false → ((b : AclEntry) × Contains rest b × (path_of_entry b.row ≡ path)) ⊎ ((b : AclEntry) → Contains rest b → path_of_entry b.row ≢ path)
        → ((b : AclEntry) × Contains (a ∷ rest) b × (path_of_entry b.row ≡ path)) ⊎ ((b : AclEntry) → Contains (a ∷ rest) b → path_of_entry b.row ≢ path)
    later h (inl b) = inl (b.0, Contains-tail a rest b.0 b.1, b.2)
    later h (inr more) = inr (none h more)

    by : (t : Bool) → is_on path a.row ≡ t → ((b : AclEntry) × Contains rest b × (path_of_entry b.row ≡ path)) ⊎ ((b : AclEntry) → Contains rest b → path_of_entry b.row ≢ path)
        → ((b : AclEntry) × Contains (a ∷ rest) b × (path_of_entry b.row ≡ path)) ⊎ ((b : AclEntry) → Contains (a ∷ rest) b → path_of_entry b.row ≢ path)
    by true h more = inl (a, Contains-head a rest, same_bytes (path_of_entry a.row) path h)
    by false h more = later h more

none_on : (path : List ℕ) (acls : List AclEntry) → ((a : AclEntry) → Contains acls a → path_of_entry a.row ≢ path) → rows_on acls path ≡ []
none_on path [] h = refl
none_on path (a ∷ rest) h =
    ap (λ t. map row_of_acl (cond t (a ∷ filter (λ (b : AclEntry). is_on path b.row) rest) (filter (λ (b : AclEntry). is_on path b.row) rest))) (other_bytes (path_of_entry a.row) path (h a (Contains-head a rest)))
    ∙ none_on path rest (λ b has. h b (Contains-tail a rest b has))

-- where a resource has entries, one of the list is of it
pub one_on : (path : List ℕ) (acls : List AclEntry) → rows_on acls path ≢ [] → (a : AclEntry) × Contains acls a × (path_of_entry a.row ≡ path)
one_on path acls some = elim (any_or_none path acls) [
  | inl a ↦ a
  | inr none ↦ absurd (some (none_on path acls none))
]

pub some_on : (path : List ℕ) (acls : List AclEntry) (a : AclEntry) → Contains acls a → path_of_entry a.row ≡ path → rows_on acls path ≢ []
some_on path [] a has is none = Contains-nil a has
some_on path (b ∷ rest) a has is none = elim (Contains-cons_cases b rest a has) [
  | inl e ↦ first (is_on path b.row) ((bytes_eq-Decides (path_of_entry b.row) path).1 (ap (λ (x : AclEntry). path_of_entry x.row) e ∙ is)) none
  | inr later ↦ some_on path rest a later is (after (is_on path b.row) none)
]
  where
    first : (t : Bool) → t ≡ true → map row_of_acl (cond t (b ∷ filter (λ (x : AclEntry). is_on path x.row) rest) (filter (λ (x : AclEntry). is_on path x.row) rest)) ≡ [] → ⊥
    first true h e = let no : b.row ∷ map row_of_acl (filter (λ (x : AclEntry). is_on path x.row) rest) ≡ [] = e in cc
    first false h e = false≢true h

    after : (t : Bool) → map row_of_acl (cond t (b ∷ filter (λ (x : AclEntry). is_on path x.row) rest) (filter (λ (x : AclEntry). is_on path x.row) rest)) ≡ [] → rows_on rest path ≡ []
    after true e = absurd (let no : b.row ∷ map row_of_acl (filter (λ (x : AclEntry). is_on path x.row) rest) ≡ [] = e in cc)
    after false e = e

module _ (i : Image) (o : IsInOrder i) (w : IsWritable i) (m : MayReturn i) where
  abbrev rows : List Row
  rows = znodes_of i

  -- the entries of a znode are those of a resource at its path, or there are none
  abbrev HasEntriesOf : Rendered → Type 0
  HasEntriesOf x = (a : AclEntry) × Contains i.acls a × (path_of_entry a.row ≡ x.path) × (entries_of (new_znode x) ≡ rows_on i.acls (path_of_entry a.row))

  held_entries : (x : Rendered) (k : EntityKey) (b : Body) → IsHeld x k b → entries_of (new_znode x) ≡ entries_said k b
  held_entries x k b h = ap entries_by (entity_read (new_znode x) k b h.keyed h.read)

  entries_are : (x : Rendered) → Shown i x → HasEntriesOf x ⊎ (entries_of (new_znode x) ≡ [])
  entries_are x (shown_topic t has is) = inr (held_entries x (key.Topic t.name) (body.Topic t.id (map assignment_of t.partitions)) (subst (λ y. IsHeld y (key.Topic t.name) (body.Topic t.id (map assignment_of t.partitions))) (sym is) (topic_held i o w t has)))
  entries_are x (shown_state u p has within is) = inr (held_entries x (key.Partition u.name p.number) (state_body p.row) (subst (λ y. IsHeld y (key.Partition u.name p.number) (state_body p.row)) (sym is) (state_held i o w u p has within (low_epoch i o w m u p has within))))
  entries_are x (shown_topic_config u has p ps some is) = inr (held_entries x (key.TopicConfig u.name) (body.Config u.pairs) (subst (λ y. IsHeld y (key.TopicConfig u.name) (body.Config u.pairs)) (sym is) (topic_config_held i o w u has)))
  entries_are x (shown_config c has is) = let h = config_held i o w c has in inr (held_entries x (key.BrokerConfig h.0) (body.Config c.pairs) (subst (λ y. IsHeld y (key.BrokerConfig h.0) (body.Config c.pairs)) (sym is) h.2))
  entries_are x (shown_parent user good is) = inr (held_entries x (key.User user) (body.Quota [] []) (subst (λ y. IsHeld y (key.User user) (body.Quota [] [])) (sym is) (parent_held i o w user good)))
  entries_are x (shown_quotas q k has named is) = inr (held_entries x k (body.Quota q.quotas []) (subst (λ y. IsHeld y k (body.Quota q.quotas [])) (sym is) (quota_held i o w q k has named)))
  entries_are x (shown_user u has is) = inr (held_entries x (key.User (Some u.name)) (body.Quota (quotas_of_user u.name i.quotas) u.scrams) (subst (λ y. IsHeld y (key.User (Some u.name)) (body.Quota (quotas_of_user u.name i.quotas) u.scrams)) (sym is) (user_held i o w u has)))
  entries_are x (shown_entries a has is) = inl (a, has, sym (ap (λ (y : Rendered). y.path) is), held_entries x (acl_key a.row) (body.Acls (resource_rows i o w a.row)) (subst (λ y. IsHeld y (acl_key a.row) (body.Acls (resource_rows i o w a.row))) (sym is) (entries_held i o w a has)))
  entries_are x (shown_producer next some is) = inr (held_entries x key.Producer (body.Producer (negsuc 0) next (next +ℤ pos 999)) (subst (λ y. IsHeld y key.Producer (body.Producer (negsuc 0) next (next +ℤ pos 999))) (sym is) (producer_held i o w next some m.next)))
  entries_are x (shown_blank is) = inr (held_entries x key.Producer body.Blank (subst (λ y. IsHeld y key.Producer body.Blank) (sym is) (blank_held i o w)))
  entries_are x (shown_scaffold scaffold) = inr (ap entries_by (no_entity (new_znode x) scaffold.none))

  -- a znode at another path has none of a resource
  none_of : (path : List ℕ) (x : Row) → Contains rows x → ((a : AclEntry) → Contains i.acls a → path_of_entry a.row ≡ x.path → path_of_entry a.row ≢ path) → filter (is_on path) (entries_of x) ≡ []
  none_of path x has other =
      let r = row_is i o w m x has in
      ap (λ y. filter (is_on path) (entries_of y)) r.is ∙ elim (entries_are r.source r.shows) [
        | inl a ↦ ap (filter (is_on path)) a.3 ∙ kept path (path_of_entry a.0.row) i.acls false (other_bytes (path_of_entry a.0.row) path (other a.0 a.1 (a.2 ∙ sym (ap (λ (y : Row). y.path) r.is))))
        | inr none ↦ ap (filter (is_on path)) none
      ]

  none_of_all : (path : List ℕ) (xs : List Row) → ((x : Row) → Contains xs x → filter (is_on path) (entries_of x) ≡ []) → filter (is_on path) (all_entries xs) ≡ []
  none_of_all path [] h = refl
  none_of_all path (x ∷ xs) h =
      filter-append (is_on path) (entries_of x) (all_entries xs)
      ∙ ap (λ es. es ++ filter (is_on path) (all_entries xs)) (h x (Contains-head x xs))
      ∙ none_of_all path xs (λ y has. h y (Contains-tail x xs y has))

  in_one : (path : List ℕ) (a : AclEntry) → Contains i.acls a → path_of_entry a.row ≡ path → filter (is_on path) (all_entries rows) ≡ rows_on i.acls path
  in_one path a has is =
      let k : EntityKey = acl_key a.row in
      let found = acl_found i o w m a has in
      let f = found_at i o w m k found.0 (facts_of_acl i o w a has).good found.1 in
      let here = acl_at i o w m a.row.pattern a.row.kind a.row.name found.0 f.shows f.who in
      let r : Row = new_znode (acl_znode i.acls a) in
      let at : row_at (path_of k) rows ≡ Some r = row_found i o w m (path_of k) ∙ ap (option_map new_znode) (found.1 ∙ ap (λ x. Some x) here.3) in
      let s : Split rows r = split_at_found bytes_order path_of_row (path_of k) rows r at in
      let rise : Rises bytes_cmp path_of_row (s.front ++ r ∷ s.rest) = subst (Rises bytes_cmp path_of_row) s.whole (are_rows i o w m).rising in
      let before : filter (is_on path) (all_entries s.front) ≡ [] = none_of_all path s.front (λ x within. none_of path x (subst (λ xs. Contains xs x) (sym s.whole) (Contains-append_left s.front (r ∷ s.rest) x within))
      (λ b other place same. less_differs bytes_order x.path r.path (All-contains (λ y. bytes_cmp (path_of_row y) r.path ≡ Less) s.front x (below_split bytes_order path_of_row s.front r s.rest rise) within) (sym place ∙ same ∙ sym is))) in
      let after : filter (is_on path) (all_entries s.rest) ≡ [] = none_of_all path s.rest (λ x within. none_of path x (subst (λ xs. Contains xs x) (sym s.whole) (Contains-append_right s.front (r ∷ s.rest) x (Contains-tail r s.rest x within)))
      (λ b other place same. less_differs bytes_order r.path x.path (All-contains (λ y. bytes_cmp r.path (path_of_row y) ≡ Less) s.rest x (all_from_rises_above bytes_order path_of_row r.path s.rest (above_split bytes_order path_of_row s.front r s.rest rise)) within) (is ∙ sym same ∙ place))) in
      let own : entries_of r ≡ rows_on i.acls (path_of k) = held_entries (acl_znode i.acls a) k (body.Acls (resource_rows i o w a.row)) (entries_held i o w a has) in
      ap (λ xs. filter (is_on path) (all_entries xs)) s.whole
      ∙ ap (filter (is_on path)) (flat_map-append entries_of s.front (r ∷ s.rest))
      ∙ filter-append (is_on path) (all_entries s.front) (entries_of r ++ all_entries s.rest)
      ∙ ap (λ xs. xs ++ filter (is_on path) (entries_of r ++ all_entries s.rest)) before
      ∙ filter-append (is_on path) (entries_of r) (all_entries s.rest)
      ∙ ap (λ xs. filter (is_on path) (entries_of r) ++ xs) after
      ∙ append-nil (filter (is_on path) (entries_of r))
      ∙ ap (filter (is_on path)) own
      ∙ kept path (path_of k) i.acls true ((bytes_eq-Decides (path_of k) path).1 is)
      ∙ ap (rows_on i.acls) is

  entries_on : (path : List ℕ) → filter (is_on path) (all_entries rows) ≡ rows_on i.acls path
  entries_on path = elim (any_or_none path i.acls) [
    | inl a ↦ in_one path a.0 a.1 a.2
    | inr none ↦ none_of_all path rows (λ x has. none_of path x has (λ a within place. none a within)) ∙ sym (none_on path i.acls none)
  ]

  pub acls_return : (acls : List AclEntry) → SaysEntries rows acls → (row : AclRow) → entries_of_resource row acls ≡ entries_of_resource row i.acls
  acls_return acls s row = ap (λ xs. rows_on xs (path_of_entry row)) s.each ∙ numbered_rows (path_of_entry row) 0 (all_entries rows) ∙ entries_on (path_of_entry row)
