-- The entries of a name, by the ids that stand under it.
use Rattle.std.proofs.Common.{◌≡◌, ◌≢◌, ℕ, Bool, true, false, cond, List, [], ◌∷◌, ◌++◌, filter, Option, Some, None, is_some, Less, refl, sym, ap, ◌∙◌, subst}
use Rattle.std.specs.List.{flat_map}
use Rattle.std.specs.Str.{bytes_eq}
use Rattle.kz_types.specs.declared.image.AclEntry.{AclEntry}
use Rattle.kz_types.specs.Order.{bytes_cmp}
use Rattle.kz_types.specs.Ordered.{find, put, without, RisesAbove, Rises}
use Rattle.kz_types.proofs.NumberLemmas.{bytes_eq-true}
use Rattle.kz_types.proofs.Order.{below, equal, above, place, less_differs, less_differs_back, bytes_order}
use Rattle.kz_types.proofs.Lookup.{some_is_none, same_some, find_here, find_skip, key_of_found, find-put_same, find-put_other, find-without_same, find-without_other, Rises-put, Rises-without, rises_from_above, rises_above_smaller, find_at_bound, rest_rises, same_items}
use Rattle.kz_types.proofs.Maps.{Rises-filter, find-filter_absent, find-filter_found}
use Rattle.kz_spec_data.specs.Metadata.{id_of_acl}
use Rattle.kz_acls.specs.declared.names.EntryId.{EntryId}
use Rattle.kz_acls.specs.declared.names.NamedIds.{NamedIds}
use Rattle.kz_acls.specs.Names.{id_of, name_of, ids_in, ids_at, with_ids, AreNamed, if_named, entry_named}

-- ---- the ids under a name, after a change

ids_same : (name : List ℕ) (ids : List EntryId) (names : List NamedIds) → Rises bytes_cmp name_of names → ids_at name (with_ids name ids names) ≡ ids
ids_same name [] names h = ap ids_in (find-without_same bytes_order name_of name names h)
ids_same name (i ∷ ids) names h = ap ids_in (find-put_same bytes_order name_of (record { name = name; ids = i ∷ ids }) names)

ids_other : (name other : List ℕ) (ids : List EntryId) (names : List NamedIds) → other ≢ name → ids_at other (with_ids name ids names) ≡ ids_at other names
ids_other name other [] names ne = ap ids_in (find-without_other bytes_order name_of name names other ne)
ids_other name other (i ∷ ids) names ne = ap ids_in (find-put_other bytes_order name_of (record { name = name; ids = i ∷ ids }) names other ne)

names_rise : (name : List ℕ) (ids : List EntryId) (names : List NamedIds) → Rises bytes_cmp name_of names → Rises bytes_cmp name_of (with_ids name ids names)
names_rise name [] names h = Rises-without bytes_order name_of name names h
names_rise name (i ∷ ids) names h = Rises-put bytes_order name_of (record { name = name; ids = i ∷ ids }) names h

-- what is true of the ids under one name that changed, and of those under each other name
either_name : (P : List ℕ → List EntryId → Type 0) (name : List ℕ) (ids : List EntryId) (names : List NamedIds) → Rises bytes_cmp name_of names → P name ids → ((other : List ℕ) → P other (ids_at other names))
    → (other : List ℕ) → P other (ids_at other (with_ids name ids names))
either_name P name ids names h own others other = elim (place bytes_order other name) [
  | below lt ↦ subst (P other) (sym (ids_other name other ids names (less_differs bytes_order other name lt))) (others other)
  | equal is ↦ subst (λ k. P k (ids_at k (with_ids name ids names))) (sym is) (subst (P name) (sym (ids_same name ids names h)) own)
  | above gt ↦ subst (P other) (sym (ids_other name other ids names (less_differs_back bytes_order other name gt))) (others other)
]

-- ---- an entry is put

abbrev has_id : List ℕ → List EntryId → Bool
has_id id ids = is_some (find bytes_cmp id_of id ids)

still_there : (id : List ℕ) (i : EntryId) (ids : List EntryId) → has_id id ids ≡ true → has_id id (put bytes_cmp id_of i ids) ≡ true
still_there id i ids was = elim (place bytes_order id (id_of i)) [
  | below lt ↦ ap is_some (find-put_other bytes_order id_of i ids id (less_differs bytes_order id (id_of i) lt)) ∙ was
  | equal is ↦ ap (λ k. is_some (find bytes_cmp id_of k (put bytes_cmp id_of i ids))) is ∙ ap is_some (find-put_same bytes_order id_of i ids)
  | above gt ↦ ap is_some (find-put_other bytes_order id_of i ids id (less_differs_back bytes_order id (id_of i) gt)) ∙ was
]

abbrev with_id : AclEntry → List NamedIds → List NamedIds
with_id e names = with_ids e.row.name (put bytes_cmp id_of (record { id = e.id }) (ids_at e.row.name names)) names

-- the id of an entry that isn't there yet
pub id_put : (e : AclEntry) (names : List NamedIds) (entries : List AclEntry) → AreNamed names entries → AreNamed (with_id e names) entries
id_put e names entries h = record {
  entries_rise = h.entries_rise;
  rising = names_rise e.row.name (put bytes_cmp id_of (record { id = e.id }) (ids_at e.row.name names)) names h.rising;
  ids_rise =
      either_name (λ (name : List ℕ) (ids : List EntryId). Rises bytes_cmp id_of ids) e.row.name (put bytes_cmp id_of (record { id = e.id }) (ids_at e.row.name names)) names h.rising
      (Rises-put bytes_order id_of (record { id = e.id }) (ids_at e.row.name names) (h.ids_rise e.row.name)) h.ids_rise;
  listed = λ id a found.
      either_name (λ (name : List ℕ) (ids : List EntryId). a.row.name ≡ name → has_id id ids ≡ true) e.row.name (put bytes_cmp id_of (record { id = e.id }) (ids_at e.row.name names)) names h.rising
      (λ same. still_there id (record { id = e.id }) (ids_at e.row.name names) (subst (λ k. has_id id (ids_at k names) ≡ true) same (h.listed id a found)))
      (λ other same. subst (λ k. has_id id (ids_at k names) ≡ true) same (h.listed id a found)) a.row.name refl;
}

own_listed : (e : AclEntry) (names : List NamedIds) → Rises bytes_cmp name_of names → is_some (find bytes_cmp id_of e.id.bytes (ids_at e.row.name (with_id e names))) ≡ true
own_listed e names h =
    ap (λ (ids : List EntryId). is_some (find bytes_cmp id_of e.id.bytes ids)) (ids_same e.row.name (put bytes_cmp id_of (record { id = e.id }) (ids_at e.row.name names)) names h)
    ∙ ap is_some (find-put_same bytes_order id_of (record { id = e.id }) (ids_at e.row.name names))

pub entry_put : (e : AclEntry) (names : List NamedIds) (entries : List AclEntry) → AreNamed names entries → AreNamed (with_id e names) (put bytes_cmp id_of_acl e entries)
entry_put e names entries h =
    let kept = id_put e names entries h in
    record {
      entries_rise = Rises-put bytes_order id_of_acl e entries h.entries_rise;
      rising = kept.rising;
      ids_rise = kept.ids_rise;
      listed = λ id a found.
          elim (place bytes_order id e.id.bytes) [
            | below lt ↦ kept.listed id a (sym (find-put_other bytes_order id_of_acl e entries id (less_differs bytes_order id e.id.bytes lt)) ∙ found)
            | equal is ↦
                let same : e ≡ a = same_some e a (sym (find-put_same bytes_order id_of_acl e entries) ∙ ap (λ k. find bytes_cmp id_of_acl k (put bytes_cmp id_of_acl e entries)) (sym is) ∙ found) in
                subst (λ (x : AclEntry). is_some (find bytes_cmp id_of id (ids_at x.row.name (with_id e names))) ≡ true) same
                (ap (λ k. is_some (find bytes_cmp id_of k (ids_at e.row.name (with_id e names)))) is ∙ own_listed e names h.rising)
            | above gt ↦ kept.listed id a (sym (find-put_other bytes_order id_of_acl e entries id (less_differs_back bytes_order id e.id.bytes gt)) ∙ found)
          ];
    }

-- ---- an entry is taken out

abbrev without_id : AclEntry → List ℕ → List NamedIds → List NamedIds
without_id e id names = with_ids e.row.name (without bytes_cmp id_of id (ids_at e.row.name names)) names

pub entry_without : (e : AclEntry) (id : List ℕ) (names : List NamedIds) (entries : List AclEntry) → AreNamed names entries → AreNamed (without_id e id names) (without bytes_cmp id_of_acl id entries)
entry_without e id names entries h = record {
  entries_rise = Rises-without bytes_order id_of_acl id entries h.entries_rise;
  rising = names_rise e.row.name (without bytes_cmp id_of id (ids_at e.row.name names)) names h.rising;
  ids_rise =
      either_name (λ (name : List ℕ) (ids : List EntryId). Rises bytes_cmp id_of ids) e.row.name (without bytes_cmp id_of id (ids_at e.row.name names)) names h.rising
      (Rises-without bytes_order id_of id (ids_at e.row.name names) (h.ids_rise e.row.name)) h.ids_rise;
  listed = λ k a found.
      let other : k ≢ id = λ is. some_is_none (sym found ∙ ap (λ j. find bytes_cmp id_of_acl j (without bytes_cmp id_of_acl id entries)) is ∙ find-without_same bytes_order id_of_acl id entries h.entries_rise) in
      let was = h.listed k a (sym (find-without_other bytes_order id_of_acl id entries k other) ∙ found) in
      either_name (λ (name : List ℕ) (ids : List EntryId). a.row.name ≡ name → has_id k ids ≡ true) e.row.name (without bytes_cmp id_of id (ids_at e.row.name names)) names h.rising
      (λ same. ap is_some (find-without_other bytes_order id_of id (ids_at e.row.name names) k other) ∙ subst (λ j. has_id k (ids_at j names) ≡ true) same was) (λ name same. subst (λ j. has_id k (ids_at j names) ≡ true) same was)
      a.row.name refl;
}

-- ---- the entries of a name

abbrev is_named : List ℕ → AclEntry → Bool
is_named name a = bytes_eq a.row.name name

abbrev kept : List ℕ → Option AclEntry → Option AclEntry
kept name None = None
kept name (Some a) = cond (is_named name a) (Some a) None

module _ (name : List ℕ) (entries : List AclEntry) where
  abbrev picked : List EntryId → List AclEntry
  picked ids = flat_map (entry_named name entries) ids

  one_above : (k : List ℕ) (i : EntryId) (found : Option AclEntry) (rest : List AclEntry) → bytes_cmp k (id_of i) ≡ Less → find bytes_cmp id_of_acl i.id.bytes entries ≡ found → RisesAbove bytes_cmp id_of_acl (id_of i) rest
      → RisesAbove bytes_cmp id_of_acl k (if_named name found ++ rest)
  one_above k i None rest lt e h = rises_above_smaller bytes_order id_of_acl k (id_of i) rest lt h
  one_above k i (Some a) rest lt e h = either (is_named name a) (key_of_found bytes_order id_of_acl i.id.bytes entries a e)
    where
      either : (b : Bool) → id_of_acl a ≡ id_of i → RisesAbove bytes_cmp id_of_acl k (cond b (a ∷ []) [] ++ rest)
      either true is = (ap (bytes_cmp k) is ∙ lt, subst (λ j. RisesAbove bytes_cmp id_of_acl j rest) (sym is) h)
      either false is = rises_above_smaller bytes_order id_of_acl k (id_of i) rest lt h

  picked_above : (k : List ℕ) (ids : List EntryId) → RisesAbove bytes_cmp id_of k ids → RisesAbove bytes_cmp id_of_acl k (picked ids)
  picked_above k [] h = tt
  picked_above k (i ∷ ids) h = one_above k i (find bytes_cmp id_of_acl i.id.bytes entries) (picked ids) h.0 refl (picked_above (id_of i) ids h.1)

  first_rises : (i : EntryId) (found : Option AclEntry) (rest : List AclEntry) → find bytes_cmp id_of_acl i.id.bytes entries ≡ found → RisesAbove bytes_cmp id_of_acl (id_of i) rest → Rises bytes_cmp id_of_acl (if_named name found ++ rest)
  first_rises i None rest e h = rises_from_above bytes_order id_of_acl (id_of i) rest h
  first_rises i (Some a) rest e h = either (is_named name a) (key_of_found bytes_order id_of_acl i.id.bytes entries a e)
    where
      either : (b : Bool) → id_of_acl a ≡ id_of i → Rises bytes_cmp id_of_acl (cond b (a ∷ []) [] ++ rest)
      either true is = subst (λ j. RisesAbove bytes_cmp id_of_acl j rest) (sym is) h
      either false is = rises_from_above bytes_order id_of_acl (id_of i) rest h

  picked_rise : (ids : List EntryId) → Rises bytes_cmp id_of ids → Rises bytes_cmp id_of_acl (picked ids)
  picked_rise [] h = tt
  picked_rise (i ∷ ids) h = first_rises i (find bytes_cmp id_of_acl i.id.bytes entries) (picked ids) refl (picked_above (id_of i) ids h)

  passed : (k : List ℕ) (i : EntryId) (found : Option AclEntry) (rest : List AclEntry) → k ≢ id_of i → find bytes_cmp id_of_acl i.id.bytes entries ≡ found → find bytes_cmp id_of_acl k (if_named name found ++ rest) ≡ find bytes_cmp id_of_acl k rest
  passed k i None rest ne e = refl
  passed k i (Some a) rest ne e = either (is_named name a) (key_of_found bytes_order id_of_acl i.id.bytes entries a e)
    where
      either : (b : Bool) → id_of_acl a ≡ id_of i → find bytes_cmp id_of_acl k (cond b (a ∷ []) [] ++ rest) ≡ find bytes_cmp id_of_acl k rest
      either true is = find_skip bytes_order id_of_acl k a rest (λ same. ne (same ∙ is))
      either false is = refl

  own : (k : List ℕ) (i : EntryId) (found : Option AclEntry) (rest : List AclEntry) → k ≡ id_of i → find bytes_cmp id_of_acl i.id.bytes entries ≡ found → find bytes_cmp id_of_acl k rest ≡ None → find bytes_cmp id_of_acl k (if_named name found ++ rest) ≡ kept name found
  own k i None rest same e none = none
  own k i (Some a) rest same e none = either (is_named name a) (key_of_found bytes_order id_of_acl i.id.bytes entries a e)
    where
      either : (b : Bool) → id_of_acl a ≡ id_of i → find bytes_cmp id_of_acl k (cond b (a ∷ []) [] ++ rest) ≡ cond b (Some a) None
      either true is = find_here bytes_order id_of_acl k a rest (same ∙ sym is)
      either false is = none

  find_picked : (k : List ℕ) (ids : List EntryId) → Rises bytes_cmp id_of ids → find bytes_cmp id_of_acl k (picked ids) ≡ cond (is_some (find bytes_cmp id_of k ids)) (kept name (find bytes_cmp id_of_acl k entries)) None
  find_picked k [] h = refl
  find_picked k (i ∷ ids) h =
      let rest = find_picked k ids (rest_rises bytes_order id_of i ids h) in
      elim (place bytes_order k (id_of i)) [
        | below lt ↦ other (less_differs bytes_order k (id_of i) lt) rest
        | equal is ↦
            let none : find bytes_cmp id_of_acl k (picked ids) ≡ None = ap (λ j. find bytes_cmp id_of_acl j (picked ids)) is ∙ find_at_bound bytes_order id_of_acl (id_of i) (picked ids) (picked_above (id_of i) ids h) in
            own k i (find bytes_cmp id_of_acl i.id.bytes entries) (picked ids) is refl none ∙ ap (λ j. kept name (find bytes_cmp id_of_acl j entries)) (sym is)
            ∙ ap (λ (found : Option EntryId). cond (is_some found) (kept name (find bytes_cmp id_of_acl k entries)) None) (sym (find_here bytes_order id_of k i ids is))
        | above gt ↦ other (less_differs_back bytes_order k (id_of i) gt) rest
      ]
    where
      other : k ≢ id_of i → find bytes_cmp id_of_acl k (picked ids) ≡ cond (is_some (find bytes_cmp id_of k ids)) (kept name (find bytes_cmp id_of_acl k entries)) None
          → find bytes_cmp id_of_acl k (picked (i ∷ ids)) ≡ cond (is_some (find bytes_cmp id_of k (i ∷ ids))) (kept name (find bytes_cmp id_of_acl k entries)) None
      other ne rest =
          passed k i (find bytes_cmp id_of_acl i.id.bytes entries) (picked ids) ne refl ∙ rest
          ∙ ap (λ (found : Option EntryId). cond (is_some found) (kept name (find bytes_cmp id_of_acl k entries)) None) (sym (find_skip bytes_order id_of k i ids ne))

  find_filtered : (k : List ℕ) (found : Option AclEntry) → Rises bytes_cmp id_of_acl entries → find bytes_cmp id_of_acl k entries ≡ found → kept name found ≡ find bytes_cmp id_of_acl k (filter (is_named name) entries)
  find_filtered k None h e = sym (find-filter_absent bytes_order id_of_acl (is_named name) k entries e)
  find_filtered k (Some a) h e = sym (find-filter_found bytes_order id_of_acl (is_named name) k entries a h e)

  all_listed : (k : List ℕ) (names : List NamedIds) (found : Option AclEntry) → AreNamed names entries → find bytes_cmp id_of_acl k entries ≡ found → cond (is_some (find bytes_cmp id_of k (ids_at name names))) (kept name found) None ≡ kept name found
  all_listed k names None h e = none (is_some (find bytes_cmp id_of k (ids_at name names)))
    where
      none : (b : Bool) → cond {A = Option AclEntry} b None None ≡ None
      none true = refl
      none false = refl
  all_listed k names (Some a) h e = either (is_named name a) refl
    where
      both : (b : Bool) → cond {A = Option AclEntry} b None None ≡ None
      both true = refl
      both false = refl

      either : (b : Bool) → is_named name a ≡ b → cond (is_some (find bytes_cmp id_of k (ids_at name names))) (cond b (Some a) None) None ≡ cond b (Some a) None
      either true same = ap (λ c. cond c (Some a) None) (ap (λ j. is_some (find bytes_cmp id_of k (ids_at j names))) (sym (bytes_eq-true a.row.name name same)) ∙ h.listed k a e)
      either false other = both (is_some (find bytes_cmp id_of k (ids_at name names)))

  pub entries_named : (names : List NamedIds) → AreNamed names entries → flat_map (entry_named name entries) (ids_at name names) ≡ filter (is_named name) entries
  entries_named names h =
      same_items bytes_order id_of_acl (picked (ids_at name names)) (filter (is_named name) entries) (picked_rise (ids_at name names) (h.ids_rise name)) (Rises-filter bytes_order id_of_acl (is_named name) entries h.entries_rise)
      (λ k. find_picked k (ids_at name names) (h.ids_rise name) ∙ all_listed k names (find bytes_cmp id_of_acl k entries) h refl ∙ find_filtered k (find bytes_cmp id_of_acl k entries) h.entries_rise refl)
