-- The names of topics by rising id: what is found by an id, and what a change of the topics makes of them.
use Rattle.std.proofs.Common.{◌≡◌, ℕ, suc, ◌<◌, Bool, true, false, not, cond, List, [], ◌∷◌, Option, Some, None, length, get_or, option_map, refl, sym, ap, ◌∙◌, subst, arith}
use Rattle.std.specs.Bool.{Decides}
use Rattle.std.specs.List.{Contains, find as find_by}
use Rattle.std.proofs.lemmas.Slice.Eq.{bytes_eq-Decides}
use Rattle.kz_types.specs.declared.id.Id.{Id}
use Rattle.kz_types.specs.declared.image.TopicEntry.{TopicEntry}
use Rattle.kz_types.specs.Order.{bytes_cmp}
use Rattle.kz_types.specs.Ordered.{find, put, without, Rises}
use Rattle.kz_types.proofs.Order.{bytes_order, less_differs}
use Rattle.kz_types.proofs.Lookup.{some_is_none, same_some, contained_is_found, contained_is_above, rest_rises, without_here, without_skip, Rises-put, Rises-without}
use Rattle.kz_spec_data.specs.Metadata.{name_of_topic, same_id}
use Rattle.kz_spec_data.specs.Image.{put_topic, with_changed, without_topic}
use Rattle.kz_spec_data.specs.Legal.{AreApart}
use Rattle.kz_laws_znodes.proofs.Legal.{id_not_found}
use Rattle.kz_laws_znodes.proofs.Entries.{HasIfFound}
use Rattle.kz_laws_znodes.proofs.Tests.{find-put_by, find-without_by}
use Rattle.kz_laws_znodes.proofs.TopicFinds.{has_id, same_id-Decides, other_id, find_id-put, new_agree, removed_by_id}
use Rattle.kz_laws_znodes.proofs.ImageTopics.{LeavesKeys, among_with, among_named, alike_by_id}
use Rattle.kz_image.specs.declared.names.TopicName.{TopicName}
use Rattle.kz_image.specs.Names.{id_of_name, IsNamed, AreNames, topic_if}
use Rattle.kz_image.proofs.TopicLists.{put_changed}

-- ---- what is found by an id

not_found : (id : Id) (t : TopicEntry) (xs : List TopicEntry) → find_by (has_id id) xs ≡ None → Contains xs t → has_id id t ≡ false
not_found id t xs none (k, within, is) = other_id t.id id (λ same. id_not_found id xs none k t within (sym same ∙ ap (λ (u : TopicEntry). u.id) (sym is)))

found_step : (id : Id) (t x : TopicEntry) (xs : List TopicEntry) (b : Bool) → has_id id x ≡ b → cond b (Some x) (find_by (has_id id) xs) ≡ Some t → (find_by (has_id id) xs ≡ Some t → has_id id t ≡ true) → has_id id t ≡ true
found_step id t x xs true e found later = subst (λ (y : TopicEntry). has_id id y ≡ true) (same_some x t found) e
found_step id t x xs false e found later = later found

found_id : (id : Id) (t : TopicEntry) (xs : List TopicEntry) → find_by (has_id id) xs ≡ Some t → has_id id t ≡ true
found_id id t [] is = absurd (some_is_none (sym is))
found_id id t (x ∷ xs) is = found_step id t x xs (has_id id x) refl is (found_id id t xs)

-- where no topic has the id
none_if : (id : Id) (xs : List TopicEntry) → find_by (has_id id) xs ≡ None → (found : Option TopicEntry) → HasIfFound (Contains xs) found → topic_if id found ≡ None
none_if id xs none None has = refl
none_if id xs none (Some t) has = ap (λ b. cond b (Some t) None) (not_found id t xs none has)

module _ (id : Id) (names : List TopicName) (topics : List TopicEntry) (are : AreNames names topics) where
  -- the topic of the name is the topic of the id, where it has the id
  pub with_name : (n : TopicName) → Rises bytes_cmp name_of_topic topics → find bytes_cmp id_of_name id.bytes names ≡ Some n → topic_if id (find bytes_cmp name_of_topic n.name topics) ≡ find_by (has_id id) topics
  with_name n rises is = by (find_by (has_id id) topics) refl
    where
      by : (found : Option TopicEntry) → find_by (has_id id) topics ≡ found → topic_if id (find bytes_cmp name_of_topic n.name topics) ≡ found
      by None e = none_if id topics e (find bytes_cmp name_of_topic n.name topics) (among_named n.name topics)
      by (Some t) e =
          let named : n.name ≡ t.name = same_some n.name t.name (ap (option_map (λ (m : TopicName). m.name)) (sym is) ∙ subst (λ o. IsNamed (option_map (λ (m : TopicName). m.name) (find bytes_cmp id_of_name id.bytes names)) (option_map name_of_topic o)) e (are.same id)) in
          let has : Contains topics t = subst (HasIfFound (Contains topics)) e (among_with id topics) in
          let there : find bytes_cmp name_of_topic n.name topics ≡ Some t = ap (λ k. find bytes_cmp name_of_topic k topics) named ∙ contained_is_found bytes_order name_of_topic topics t rises has in
          ap (topic_if id) there ∙ ap (λ b. cond b (Some t) None) (found_id id t topics e)

-- no topic has an id that has no name
pub no_name : (id : Id) (names : List TopicName) (topics : List TopicEntry) → AreNames names topics → find bytes_cmp id_of_name id.bytes names ≡ None → find_by (has_id id) topics ≡ None
no_name id names topics are none = by (find_by (has_id id) topics) refl
  where
    by : (found : Option TopicEntry) → find_by (has_id id) topics ≡ found → find_by (has_id id) topics ≡ None
    by None e = e
    by (Some t) e = absurd (some_is_none (sym (subst (λ o. IsNamed (option_map (λ (m : TopicName). m.name) (find bytes_cmp id_of_name id.bytes names)) (option_map name_of_topic o)) e (are.same id)) ∙ ap (option_map (λ (m : TopicName). m.name)) none))

-- ---- a topic that is made

named_by : (b : Bool) (n : TopicName) (t : TopicEntry) (found : Option TopicName) (other : Option TopicEntry) → n.name ≡ t.name → IsNamed (option_map (λ (m : TopicName). m.name) found) (option_map name_of_topic other)
    → IsNamed (option_map (λ (m : TopicName). m.name) (cond b (Some n) found)) (option_map name_of_topic (cond b (Some t) other))
named_by true n t found other named same = ap (λ k. Some k) named
named_by false n t found other named same = same

put_found : (n : TopicName) (names : List TopicName) (id : Id) → find bytes_cmp id_of_name id.bytes (put bytes_cmp id_of_name n names) ≡ cond (same_id n.id id) (Some n) (find bytes_cmp id_of_name id.bytes names)
put_found n names id = find-put_by bytes_order id_of_name id.bytes n names (same_id n.id id) (bytes_eq-Decides n.id.bytes id.bytes)

-- a further name, of an id that no topic has
pub names_more : (n : TopicName) (names : List TopicName) (topics : List TopicEntry) → AreNames names topics → find_by (has_id n.id) topics ≡ None → AreNames (put bytes_cmp id_of_name n names) topics
names_more n names topics are none = record {
  rising = Rises-put bytes_order id_of_name n names are.rising;
  same = λ id. subst (λ o. IsNamed (option_map (λ (m : TopicName). m.name) o) (option_map name_of_topic (find_by (has_id id) topics))) (sym (put_found n names id)) (by id (same_id n.id id) ((same_id-Decides n.id id).0) (are.same id));
}
  where
    by : (id : Id) (b : Bool) → (b ≡ true → n.id ≡ id) → IsNamed (option_map (λ (m : TopicName). m.name) (find bytes_cmp id_of_name id.bytes names)) (option_map name_of_topic (find_by (has_id id) topics))
        → IsNamed (option_map (λ (m : TopicName). m.name) (cond b (Some n) (find bytes_cmp id_of_name id.bytes names))) (option_map name_of_topic (find_by (has_id id) topics))
    by id true is same = subst (λ o. IsNamed (Some n.name) (option_map name_of_topic o)) (sym (ap (λ (j : Id). find_by (has_id j) topics) (sym (is refl)) ∙ none)) tt
    by id false is same = same

pub names_made : (n : TopicName) (t : TopicEntry) (names : List TopicName) (topics : List TopicEntry) → AreNames names topics → Rises bytes_cmp name_of_topic topics → n.id ≡ t.id → n.name ≡ t.name
    → find bytes_cmp name_of_topic t.name topics ≡ None → find_by (has_id t.id) topics ≡ None → AreNames (put bytes_cmp id_of_name n names) (put_topic t topics)
names_made n t names topics are rises identified named new_name new_id = record {
  rising = Rises-put bytes_order id_of_name n names are.rising;
  same = λ id.
      let found : find bytes_cmp id_of_name id.bytes (put bytes_cmp id_of_name n names) ≡ cond (same_id t.id id) (Some n) (find bytes_cmp id_of_name id.bytes names) = subst (λ (j : Id). find bytes_cmp id_of_name id.bytes (put bytes_cmp id_of_name n names) ≡ cond (same_id j id) (Some n) (find bytes_cmp id_of_name id.bytes names)) identified (put_found n names id) in
      let with_t : find_by (has_id id) (put_topic t topics) ≡ cond (same_id t.id id) (Some t) (find_by (has_id id) topics) = find_id-put id t topics (new_agree t.name t.id topics rises new_name new_id) in
      subst (λ o. IsNamed (option_map (λ (m : TopicName). m.name) o) (option_map name_of_topic (find_by (has_id id) (put_topic t topics)))) (sym found)
      (subst (λ o. IsNamed (option_map (λ (m : TopicName). m.name) (cond (same_id t.id id) (Some n) (find bytes_cmp id_of_name id.bytes names))) (option_map name_of_topic o)) (sym with_t)
      (named_by (same_id t.id id) n t (find bytes_cmp id_of_name id.bytes names) (find_by (has_id id) topics) named (are.same id)));
}

-- ---- a topic that is changed

pub names_stay : (names : List TopicName) (topics : List TopicEntry) → AreNames names topics → Rises bytes_cmp name_of_topic topics → AreApart topics → (change : TopicEntry → TopicEntry) → LeavesKeys change
    → (found : Option TopicEntry) → HasIfFound (Contains topics) found → AreNames names (with_changed change found topics)
names_stay names topics are rises apart change leaves found has = record {
  rising = are.rising;
  same = λ id. subst (IsNamed (option_map (λ (n : TopicName). n.name) (find bytes_cmp id_of_name id.bytes names))) (sym (alike_by_id (option_map name_of_topic) topics rises apart change leaves id found has (λ t. ap (λ k. Some k) (leaves.named t)))) (are.same id);
}

pub names_changed : (names : List TopicName) (topics : List TopicEntry) → AreNames names topics → Rises bytes_cmp name_of_topic topics → AreApart topics → (change : TopicEntry → TopicEntry) → LeavesKeys change
    → (found : Option TopicEntry) → HasIfFound (Contains topics) found → (old new : TopicEntry) → found ≡ Some old → new ≡ change old → AreNames names (put_topic new topics)
names_changed names topics are rises apart change leaves found has old new is made = subst (AreNames names) (sym (put_changed change found old new topics is made)) (names_stay names topics are rises apart change leaves found has)

-- ---- a topic that is removed

left_by : (b : Bool) (name : Option (List ℕ)) (found : Option TopicEntry) → IsNamed name (option_map name_of_topic found) → IsNamed name (option_map name_of_topic (cond b None found))
left_by true name found same = tt
left_by false name found same = same

both_left_by : (b : Bool) (name : Option TopicName) (found : Option TopicEntry) → IsNamed (option_map (λ (m : TopicName). m.name) name) (option_map name_of_topic found)
    → IsNamed (option_map (λ (m : TopicName). m.name) (cond b None name)) (option_map name_of_topic (cond b None found))
both_left_by true name found same = tt
both_left_by false name found same = same

-- the name of a topic that is removed may stay
pub names_left : (id : Id) (names : List TopicName) (topics : List TopicEntry) → AreNames names topics → AreNames names (without_topic id topics)
names_left id names topics are = record {
  rising = are.rising;
  same = λ other.
      let name = option_map (λ (m : TopicName). m.name) (find bytes_cmp id_of_name other.bytes names) in
      subst (λ o. IsNamed name (option_map name_of_topic o)) (sym (removed_by_id other id topics)) (left_by (same_id id other) name (find_by (has_id other) topics) (are.same other));
}

pub names_removed : (id : Id) (names : List TopicName) (topics : List TopicEntry) → AreNames names topics → AreNames (without bytes_cmp id_of_name id.bytes names) (without_topic id topics)
names_removed id names topics are = record {
  rising = Rises-without bytes_order id_of_name id.bytes names are.rising;
  same = λ other.
      let gone = find-without_by bytes_order id_of_name other.bytes id.bytes names (same_id id other) (bytes_eq-Decides id.bytes other.bytes) are.rising in
      subst (λ o. IsNamed (option_map (λ (m : TopicName). m.name) o) (option_map name_of_topic (find_by (has_id other) (without_topic id topics)))) (sym gone)
      (subst (λ o. IsNamed (option_map (λ (m : TopicName). m.name) (cond (same_id id other) None (find bytes_cmp id_of_name other.bytes names))) (option_map name_of_topic o)) (sym (removed_by_id other id topics))
      (both_left_by (same_id id other) (find bytes_cmp id_of_name other.bytes names) (find_by (has_id other) topics) (are.same other)));
}

without_none : (id : Id) (xs : List TopicEntry) → ((i : ℕ) (d : TopicEntry) → i < length xs → has_id id (get_or xs i d) ≡ false) → without_topic id xs ≡ xs
without_none id [] none = refl
without_none id (x ∷ xs) none =
    ap (λ b. cond (not b) (x ∷ without_topic id xs) (without_topic id xs)) (none 0 x (omega arith)) ∙ ap (λ ys. x ∷ ys) (without_none id xs (λ i d within. none (suc i) d (omega arith)))

-- where no topic has the id
pub without_absent_topic : (id : Id) (xs : List TopicEntry) → find_by (has_id id) xs ≡ None → without_topic id xs ≡ xs
without_absent_topic id xs none = without_none id xs (λ i d within. other_id (get_or xs i d).id id (λ e. id_not_found id xs none i d within (sym e)))

without_named : (id : Id) (t x : TopicEntry) (xs : List TopicEntry) → Rises bytes_cmp name_of_topic (x ∷ xs) → AreApart (x ∷ xs) → (b : Bool) → has_id id x ≡ b → cond b (Some x) (find_by (has_id id) xs) ≡ Some t
    → (find_by (has_id id) xs ≡ Some t → without bytes_cmp name_of_topic t.name xs ≡ without_topic id xs) → without bytes_cmp name_of_topic t.name (x ∷ xs) ≡ without_topic id (x ∷ xs)
without_named id t x xs rises apart true e found later =
    let same : x ≡ t = same_some x t found in
    without_here bytes_order name_of_topic t.name x xs (ap name_of_topic (sym same))
    ∙ sym (ap (λ b. cond (not b) (x ∷ without_topic id xs) (without_topic id xs)) e
    ∙ without_none id xs (λ i d within. other_id (get_or xs i d).id id (λ f. apart 0 (suc i) d (omega arith) (omega arith) ((same_id-Decides x.id id).0 e ∙ sym f))))
without_named id t x xs rises apart false e found later =
    let has : Contains xs t = subst (HasIfFound (Contains xs)) found (among_with id xs) in
    let differs = less_differs bytes_order x.name t.name (contained_is_above bytes_order name_of_topic x.name xs t rises has) in
    without_skip bytes_order name_of_topic t.name x xs (λ same. differs (sym same))
    ∙ ap (λ ys. x ∷ ys) (later found)
    ∙ sym (ap (λ b. cond (not b) (x ∷ without_topic id xs) (without_topic id xs)) e)

-- the topics without the one of a name are those without its id
pub removed_named : (id : Id) (t : TopicEntry) (xs : List TopicEntry) → Rises bytes_cmp name_of_topic xs → AreApart xs → find_by (has_id id) xs ≡ Some t → without bytes_cmp name_of_topic t.name xs ≡ without_topic id xs
removed_named id t [] rises apart is = absurd (some_is_none (sym is))
removed_named id t (x ∷ xs) rises apart is =
    without_named id t x xs rises apart (has_id id x) refl is (removed_named id t xs (rest_rises bytes_order name_of_topic x xs rises) (λ i j d below within. apart (suc i) (suc j) d (omega arith) (omega arith)))
