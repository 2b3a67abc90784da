-- The records of znodes, one znode after another.
use Rattle.std.proofs.Common.{◌≡◌, ℕ, true, List, [], ◌∷◌, ◌++◌, Option, Some, None, append-nil, Ordering, Less, Contains, refl, sym, ap, ◌∙◌, subst, append_assoc, Bool, false, All, ◌⊎◌, inl}
use Rattle.std.specs.Prelude.{Ok, Err}
use Rattle.std.specs.Option.{option_or}
use Rattle.std.proofs.lemmas.List.Elements.{All-contains, Contains-append_right}
use Rattle.kz_types.specs.declared.tree.Row.{Row}
use Rattle.kz_types.specs.declared.bodies.Body.TheVariants as body
use Rattle.kz_types.specs.declared.key.EntityKey.{EntityKey}
use Rattle.kz_types.specs.declared.key.EntityKey.TheVariants as key
use Rattle.kz_types.specs.declared.kind.Kind.{Kind}
use Rattle.kz_types.specs.declared.kind.Kind.TheVariants as kind
use Rattle.kz_types.specs.declared.record.MetaRecord.{MetaRecord}
use Rattle.kz_types.specs.Paths.{is_path, kind_of, key_of, path_of, has_path}
use Rattle.kz_types.proofs.KeyLemmas.{path_of_key_of}
use Rattle.kz_types.specs.Order.{TotalOrder, bytes_cmp}
use Rattle.kz_types.specs.Ordered.{find, Rises, AllBelow}
use Rattle.kz_types.proofs.Order.{bytes_order, below, equal, above, place, less_differs, less_differs_back}
use Rattle.kz_types.proofs.Lookup.{some_is_none, same_some, find_here, find_skip, contained_is_found, Contains-head, find_below_first}
use Rattle.kz_types.proofs.Append.{below_split, find_all_below, find-append, Rises_right}
use Rattle.kz_spec_data.specs.Bodies.{read_body}
use Rattle.kz_spec_data.specs.Tree.{path_of_row, row_at}
use Rattle.kz_spec_data.specs.ImageRules.{is_epoch}
use Rattle.kz_spec_data.specs.Translation.{Translated, RowRecords, records_of, entity_records, records_by_kind, row_records, records_then, records_after}
use Rattle.kz_laws_values.proofs.Legal.{IsGoodKey}
use Rattle.kz_laws_values.proofs.Texts.{key_good}
use Rattle.kz_laws_znodes.specs.Translations.{AreZnodes}

-- ---- znodes with their keys

-- whether the path of an entity may be too long for it
abbrev pub may_be_long : EntityKey → Bool
may_be_long (key.Client client) = true
may_be_long (key.User user) = true
may_be_long (key.UserClient user client) = true
may_be_long (key.Ip address) = true
may_be_long (key.Acl pattern kind name) = true
may_be_long k = false

-- The key that a znode holds is legal, its names are texts, and its path is that of the znode. Where it may be too long and
-- isn't known not to be, the znode says nothing.
pub record IsKeyed (r : Row) (k : EntityKey) : Type 0 where
  pub placed : path_of k ≡ r.path
  pub good : IsGoodKey k
  pub fits : may_be_long k ≡ true → (has_path k ≡ true) ⊎ (read_body k r.body ≡ Ok (body.Quota [] []))

-- Znodes whose paths rise, with data versions of 32 bits, each of which holds its key.
pub record AreRows (rows : List Row) : Type 0 where
  pub rising : Rises bytes_cmp path_of_row rows
  pub versions : All (λ (r : Row). is_epoch r.version ≡ true) rows
  pub keyed : (r : Row) → Contains rows r → (k : EntityKey) → key_of r.path ≡ Some k → IsKeyed r k

path_kept : (k : EntityKey) (path : List ℕ) → is_path path ≡ true → path_of k ≡ path → has_path k ≡ true
unfolding has_path
path_kept k path rule at = ap is_path at ∙ rule

-- where each path keeps the rule of paths, it holds its key
pub rows_of_znodes : (rows : List Row) → AreZnodes rows → AreRows rows
rows_of_znodes rows z = record {
  rising = z.rising;
  versions = z.versions;
  keyed = λ r has k is.
      let rule : is_path r.path ≡ true = All-contains (λ (x : Row). is_path x.path ≡ true) rows r z.paths has in
      let at : path_of k ≡ r.path = path_of_key_of r.path k rule is in
      record { placed = at; good = key_good r.path k rule is; fits = λ long. inl (path_kept k r.path rule at) };
}

-- ---- a list split at an item

-- A list with an item in it.
pub record Split {A : Type 0} (xs : List A) (x : A) : Type 0 where
  pub front : List A
  pub rest : List A
  pub whole : xs ≡ front ++ x ∷ rest

-- what is found splits the list
pub split_at_found : {A K : Type 0} {cmp : K → K → Ordering} (o : TotalOrder cmp) (key : A → K) (k : K) (xs : List A) (x : A) → find cmp key k xs ≡ Some x → Split xs x
split_at_found o key k [] x e = absurd (some_is_none (sym e))
split_at_found {A} o key k (y ∷ ys) x e = elim (place o k (key y)) [
  | below h ↦ after (split_at_found o key k ys x (sym (find_skip o key k y ys (less_differs o k (key y) h)) ∙ e))
  | equal h ↦ record { front = []; rest = ys; whole = ap (λ z. z ∷ ys) (same_some y x (sym (find_here o key k y ys h) ∙ e)) }
  | above h ↦ after (split_at_found o key k ys x (sym (find_skip o key k y ys (less_differs_back o k (key y) h)) ∙ e))
]
  where
    after : Split ys x → Split (y ∷ ys) x
    after s = record { front = y ∷ s.front; rest = s.rest; whole = ap (λ zs. y ∷ zs) s.whole }

-- ---- the records of each znode

both_ok : (path : List ℕ) (r : RowRecords) (more : Translated) (rs : List MetaRecord) → records_then path r more ≡ Ok rs
    → (one : List MetaRecord) × (rest : List MetaRecord) × (r ≡ Ok one) × (more ≡ Ok rest) × (one ++ rest ≡ rs)
both_ok path (Err w) more rs e = absurd (cc)
both_ok path (Ok one) (Err u) rs e = absurd (cc)
both_ok path (Ok one) (Ok rest) rs e = (one, rest, refl, refl, cc)

-- each znode of a list has records
abbrev pub HasRecords : List Row → List Row → Row → Type 0
HasRecords rows earlier r = (one : List MetaRecord) × (row_records rows earlier r ≡ Ok one)

-- The records of a first znode and of the others.
pub record FirstRecords (rows earlier : List Row) (r : Row) (rest : List Row) (rs : List MetaRecord) : Type 0 where
  pub one : List MetaRecord
  pub more : List MetaRecord
  pub first : row_records rows earlier r ≡ Ok one
  pub others : records_after rows (earlier ++ r ∷ []) rest ≡ Ok more
  pub whole : one ++ more ≡ rs

pub first_records : (rows earlier : List Row) (r : Row) (rest : List Row) (rs : List MetaRecord) → records_after rows earlier (r ∷ rest) ≡ Ok rs → FirstRecords rows earlier r rest rs
first_records rows earlier r rest rs e =
    let k = both_ok r.path (row_records rows earlier r) (records_after rows (earlier ++ r ∷ []) rest) rs e in
    record { one = k.0; more = k.1; first = k.2; others = k.3; whole = k.4 }

each_after : (rows earlier todo : List Row) (rs : List MetaRecord) → records_after rows earlier todo ≡ Ok rs → (front : List Row) (r : Row) (rest : List Row) → todo ≡ front ++ r ∷ rest → HasRecords rows (earlier ++ front) r
each_after rows earlier [] rs e [] r rest whole = absurd (let no : [] ≡ r ∷ rest = whole in cc)
each_after rows earlier [] rs e (f ∷ front) r rest whole = absurd (let no : [] ≡ f ∷ (front ++ r ∷ rest) = whole in cc)
each_after rows earlier (x ∷ todo) rs e [] r rest whole =
    let k = first_records rows earlier x todo rs e in
    let both : x ∷ todo ≡ r ∷ rest = whole in
    let is : x ≡ r = cc in
    (k.one, ap (λ es. row_records rows es r) (append-nil earlier) ∙ ap (row_records rows earlier) (sym is) ∙ k.first)
each_after rows earlier (x ∷ todo) rs e (f ∷ front) r rest whole =
    let k = first_records rows earlier x todo rs e in
    let both : x ∷ todo ≡ f ∷ (front ++ r ∷ rest) = whole in
    let is : x ≡ f = cc in
    let after : todo ≡ front ++ r ∷ rest = cc in
    let there = each_after rows (earlier ++ x ∷ []) todo k.more k.others front r rest after in
    (there.0, ap (λ es. row_records rows es r) (sym (append_assoc earlier (x ∷ []) front ∙ ap (λ y. earlier ++ y ∷ front) is)) ∙ there.1)

-- each of these znodes has records
abbrev pub AllHaveRecords : List Row → Type 0
AllHaveRecords rows = (earlier : List Row) (r : Row) (rest : List Row) → rows ≡ earlier ++ r ∷ rest → HasRecords rows earlier r

pub all_have_records : (rows : List Row) (rs : List MetaRecord) → records_after rows [] rows ≡ Ok rs → AllHaveRecords rows
all_have_records rows rs e earlier r rest whole = each_after rows [] rows rs e earlier r rest whole

-- ---- a znode among others

pub kind_is_entity : (path : List ℕ) (k : EntityKey) → key_of path ≡ Some k → kind_of path ≡ kind.Entity
unfolding kind_of
kind_is_entity path k is = rw is refl

-- the records of a znode that holds an entity
pub entity_records_are : (rows earlier : List Row) (r : Row) (k : EntityKey) (one : List MetaRecord) → key_of r.path ≡ Some k → row_records rows earlier r ≡ Ok one → records_of rows earlier k (read_body k r.body) ≡ Ok one
entity_records_are rows earlier r k one is e =
    sym (ap (λ kd. records_by_kind rows earlier kd r) (kind_is_entity r.path k is) ∙ ap (λ o. entity_records rows earlier o r.body) is) ∙ e

ok_none : (one : List MetaRecord) → ◌≡◌ {A = RowRecords} (Ok []) (Ok one) → one ≡ []
ok_none one e = cc

-- a znode that holds none has none
pub no_records : (rows earlier : List Row) (r : Row) (one : List MetaRecord) → key_of r.path ≡ None → row_records rows earlier r ≡ Ok one → one ≡ []
no_records rows earlier r one none e = by (kind_of r.path) e
  where
    by : (kd : Kind) → records_by_kind rows earlier kd r ≡ Ok one → one ≡ []
    by kind.Entity h = ok_none one (sym (ap (λ o. entity_records rows earlier o r.body) none) ∙ h)
    by kind.Scaffold h = ok_none one h
    by kind.Stray h = absurd (cc)
    by kind.Base h = ok_none one h
    by kind.Control h = ok_none one h
    by kind.Reserved h = ok_none one h
    by kind.Outside h = ok_none one h

module _ (rows earlier : List Row) (r : Row) (rest : List Row) (whole : rows ≡ earlier ++ r ∷ rest) (z : AreRows rows) where
  rises_here : Rises bytes_cmp path_of_row (earlier ++ r ∷ rest)
  rises_here = subst (Rises bytes_cmp path_of_row) whole z.rising

  pub below_here : AllBelow bytes_cmp path_of_row earlier r.path
  below_here = below_split bytes_order path_of_row earlier r rest rises_here

  -- no earlier znode is at its path
  pub absent_here : row_at r.path earlier ≡ None
  absent_here = find_all_below bytes_order path_of_row r.path earlier below_here

  -- nor at one after it
  pub absent_after : (path : List ℕ) → bytes_cmp r.path path ≡ Less → row_at path earlier ≡ None
  absent_after path less = find_all_below bytes_order path_of_row path earlier (λ k d within. bytes_order.chain _ r.path path (below_here k d within) less)

  here : Contains rows r
  here = subst (λ xs. Contains xs r) (sym whole) (Contains-append_right earlier (r ∷ rest) r (Contains-head r rest))

  pub version_here : is_epoch r.version ≡ true
  version_here = All-contains (λ (x : Row). is_epoch x.version ≡ true) rows r z.versions here

  pub found_here : row_at r.path rows ≡ Some r
  found_here = contained_is_found bytes_order path_of_row rows r z.rising here

  -- a znode at a path before it is an earlier one
  pub found_before : (path : List ℕ) (x : Row) → bytes_cmp path r.path ≡ Less → row_at path rows ≡ Some x → row_at path earlier ≡ Some x
  found_before path x less found = by (row_at path earlier) refl
    where
      none_later : row_at path (r ∷ rest) ≡ None
      none_later = find_below_first bytes_order path_of_row path r rest (Rises_right bytes_order path_of_row earlier (r ∷ rest) rises_here) less

      parts : row_at path rows ≡ option_or (row_at path earlier) (row_at path (r ∷ rest))
      parts = ap (row_at path) whole ∙ find-append bytes_cmp path_of_row path earlier (r ∷ rest)

      by : (o : Option Row) → row_at path earlier ≡ o → row_at path earlier ≡ Some x
      by (Some y) is = is ∙ sym (ap (λ o. option_or o (row_at path (r ∷ rest))) is) ∙ sym parts ∙ found
      by None is = absurd (some_is_none (sym found ∙ parts ∙ ap (λ o. option_or o (row_at path (r ∷ rest))) is ∙ none_later))

  -- where no znode is at a path, no earlier one is
  pub none_before : (path : List ℕ) → row_at path rows ≡ None → row_at path earlier ≡ None
  none_before path none = first_none (row_at path earlier) (row_at path (r ∷ rest)) (sym (ap (row_at path) whole ∙ find-append bytes_cmp path_of_row path earlier (r ∷ rest)) ∙ none)
    where
      first_none : (o p : Option Row) → option_or o p ≡ None → o ≡ None
      first_none None p e = refl
      first_none (Some x) p e = absurd (some_is_none e)

  -- its key, where it has one
  pub keyed_here : (k : EntityKey) → key_of r.path ≡ Some k → IsKeyed r k
  keyed_here k is = z.keyed r here k is

  pub key_here : (k : EntityKey) → key_of r.path ≡ Some k → IsGoodKey k
  key_here k is = (keyed_here k is).good

  pub path_of_here : (k : EntityKey) → key_of r.path ≡ Some k → path_of k ≡ r.path
  path_of_here k is = (keyed_here k is).placed
