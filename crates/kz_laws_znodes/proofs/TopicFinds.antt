-- Topics by their ids and by their names: what is found after one is made, changed or removed.
use Rattle.std.proofs.Common.{◌≡◌, ℕ, suc, Bool, true, false, not, cond, List, [], ◌∷◌, Option, Some, None, Ordering, Less, Equal, Greater, filter, option_map, refl, sym, ap, ◌∙◌, subst, arith, inl, inr, get_or}
use Rattle.std.specs.Bool.{Decides}
use Rattle.std.specs.Ordering.{match_ordering}
use Rattle.std.specs.List.{All, Contains, find as find_by}
use Rattle.std.proofs.lemmas.Bool.{false≢true}
use Rattle.std.proofs.lemmas.Slice.Eq.{bytes_eq-Decides}
use Rattle.std.proofs.lemmas.List.Elements.{All-head, All-tail, All-contains_itself}
use Rattle.kz_types.specs.declared.id.Id.{Id}
use Rattle.kz_types.specs.declared.image.TopicEntry.{TopicEntry}
use Rattle.kz_types.specs.Order.{bytes_cmp}
use Rattle.kz_types.specs.Ordered.{find, Rises}
use Rattle.kz_types.proofs.Order.{bytes_order, cmp_equal}
use Rattle.kz_types.proofs.Lookup.{some_is_none, same_some, Contains-cons_cases, Contains-nil, contained_is_found}
use Rattle.kz_types.proofs.Maps.{find-filter_found, find-filter_absent}
use Rattle.kz_spec_data.specs.Metadata.{name_of_topic, same_id}
use Rattle.kz_spec_data.specs.Image.{put_topic, without_topic}
use Rattle.kz_spec_data.specs.Legal.{AreApart}
use Rattle.kz_laws_znodes.specs.Words.{is_said}
use Rattle.kz_laws_znodes.proofs.Legal.{topic_id, id_not_found, same_itself}
use Rattle.kz_laws_znodes.proofs.Entries.{HasIfFound}
use Rattle.kz_laws_znodes.proofs.Tests.{find-put_by}

abbrev pub has_id : Id → TopicEntry → Bool
has_id id t = same_id t.id id

pub same_id-Decides : (a b : Id) → Decides (same_id a b) (a ≡ b)
same_id-Decides a b =
    let id : List ℕ → Id = λ bytes. record { bytes = bytes } in
    ((λ h. ap id ((bytes_eq-Decides a.bytes b.bytes).0 h)), (λ e. (bytes_eq-Decides a.bytes b.bytes).1 (ap (λ (x : Id). x.bytes) e)))

pub other_id : (a b : Id) → (a ≡ b → ⊥) → same_id a b ≡ false
other_id a b ne = by (same_id a b) (same_id-Decides a b).0
  where
    by : (c : Bool) → (c ≡ true → a ≡ b) → c ≡ false
    by true is = absurd (ne (is refl))
    by false is = refl

-- two tests of one thing agree
pub same_test : {P : Type 0} (b c : Bool) → Decides b P → Decides c P → b ≡ c
same_test true true d e = refl
same_test true false d e = absurd (false≢true (e.1 (d.0 refl)))
same_test false true d e = absurd (false≢true (d.1 (e.0 refl)))
same_test false false d e = refl

-- ---- what is found by an id

holds_if_found : {A : Type 0} (test : A → Bool) (b : Bool) (x : A) (rest : Option A) → test x ≡ b → HasIfFound (λ y. test y ≡ true) rest → HasIfFound (λ y. test y ≡ true) (cond b (Some x) rest)
holds_if_found test true x rest e h = e
holds_if_found test false x rest e h = h

-- it passes the test
pub found_passes : {A : Type 0} (test : A → Bool) (xs : List A) → HasIfFound (λ y. test y ≡ true) (find_by test xs)
found_passes test [] = tt
found_passes test (x ∷ xs) = holds_if_found test (test x) x (find_by test xs) refl (found_passes test xs)

first_apart : (x : TopicEntry) (xs : List TopicEntry) (t : TopicEntry) → AreApart (x ∷ xs) → Contains xs t → x.id ≡ t.id → ⊥
first_apart x xs t apart (n, within, is) e = apart 0 (suc n) t (omega arith) (omega arith) (e ∙ sym (ap topic_id is))

rest_apart : (x : TopicEntry) (xs : List TopicEntry) → AreApart (x ∷ xs) → AreApart xs
rest_apart x xs apart i j d below within = apart (suc i) (suc j) d (omega arith) (omega arith)

-- no two topics have one id
pub one_of_id : (xs : List TopicEntry) (t u : TopicEntry) → AreApart xs → Contains xs t → Contains xs u → t.id ≡ u.id → t ≡ u
one_of_id [] t u apart has too e = absurd (Contains-nil t has)
one_of_id (x ∷ xs) t u apart has too e = elim (Contains-cons_cases x xs t has) [
  | inl is ↦ elim (Contains-cons_cases x xs u too) [
    | inl same ↦ sym is ∙ same
    | inr later ↦ absurd (first_apart x xs u apart later (ap topic_id is ∙ e))
  ]
  | inr after ↦ elim (Contains-cons_cases x xs u too) [
    | inl same ↦ absurd (first_apart x xs t apart after (ap topic_id same ∙ sym e))
    | inr later ↦ one_of_id xs t u (rest_apart x xs apart) after later e
  ]
]

-- no two topics have one name
pub one_of_name : (xs : List TopicEntry) (t u : TopicEntry) → Rises bytes_cmp name_of_topic xs → Contains xs t → Contains xs u → t.name ≡ u.name → t ≡ u
one_of_name xs t u rises has too e =
    same_some t u (sym (contained_is_found bytes_order name_of_topic xs t rises has) ∙ ap (λ k. find bytes_cmp name_of_topic k xs) e ∙ contained_is_found bytes_order name_of_topic xs u rises too)

-- a topic is found by its id
pub found_by_id : (xs : List TopicEntry) (t : TopicEntry) → AreApart xs → Contains xs t → find_by (has_id t.id) xs ≡ Some t
found_by_id [] t apart has = absurd (Contains-nil t has)
found_by_id (x ∷ xs) t apart has = elim (Contains-cons_cases x xs t has) [
  | inl is ↦ subst (λ (u : TopicEntry). find_by (has_id u.id) (x ∷ xs) ≡ Some u) is (ap (λ b. cond b (Some x) (find_by (has_id x.id) xs)) (same_itself x.id))
  | inr later ↦ ap (λ b. cond b (Some x) (find_by (has_id t.id) xs)) (other_id x.id t.id (first_apart x xs t apart later)) ∙ found_by_id xs t (rest_apart x xs apart) later
]

-- ---- after a topic is put

-- A topic has this name exactly where it has this id.
abbrev pub Agrees : List ℕ → Id → TopicEntry → Type 0
Agrees name id t = (name ≡ t.name → id ≡ t.id) × (id ≡ t.id → name ≡ t.name)

twice : {A : Type 0} (b c : Bool) (p q r : A) → b ≡ c → cond b p r ≡ cond b p (cond c q r)
twice true c p q r e = refl
twice false true p q r e = absurd (false≢true e)
twice false false p q r e = refl

turned : {A : Type 0} (b c : Bool) (p q r : A) → (b ≡ true → c ≡ true → ⊥) → cond c q (cond b p r) ≡ cond b p (cond c q r)
turned true true p q r apart = absurd (apart refl refl)
turned true false p q r apart = refl
turned false true p q r apart = refl
turned false false p q r apart = refl

pub find_id-put : (id : Id) (t : TopicEntry) (xs : List TopicEntry) → All (Agrees t.name t.id) xs → find_by (has_id id) (put_topic t xs) ≡ cond (same_id t.id id) (Some t) (find_by (has_id id) xs)
find_id-put id t [] agree = refl
find_id-put id t (x ∷ xs) agree = by_order (bytes_cmp t.name x.name) refl (All-head (Agrees t.name t.id) x xs agree) (find_id-put id t xs (All-tail (Agrees t.name t.id) x xs agree))
  where
    by_order : (o : Ordering) → bytes_cmp t.name x.name ≡ o → Agrees t.name t.id x → find_by (has_id id) (put_topic t xs) ≡ cond (same_id t.id id) (Some t) (find_by (has_id id) xs)
        → find_by (has_id id) (match_ordering o (t ∷ x ∷ xs) (t ∷ xs) (x ∷ put_topic t xs)) ≡ cond (same_id t.id id) (Some t) (find_by (has_id id) (x ∷ xs))
    by_order Less e first rest = refl
    by_order Equal e first rest =
        twice (same_id t.id id) (same_id x.id id) (Some t) (Some x) (find_by (has_id id) xs) (ap (λ (other : Id). same_id other id) (first.0 (bytes_order.same t.name x.name e)))
    by_order Greater e first rest =
        ap (cond (same_id x.id id) (Some x)) rest
        ∙ turned (same_id t.id id) (same_id x.id id) (Some t) (Some x) (find_by (has_id id) xs)
        (λ one other. let tied = cmp_equal bytes_order t.name x.name (first.1 ((same_id-Decides t.id id).0 one ∙ sym ((same_id-Decides x.id id).0 other))) in absurd (cc))

-- where the name and the id are of one of the topics
there_agree : (t : TopicEntry) (xs : List TopicEntry) → Rises bytes_cmp name_of_topic xs → AreApart xs → Contains xs t → All (Agrees t.name t.id) xs
there_agree t xs rises apart has i d within =
    let too = All-contains_itself xs i d within in
    ((λ named. ap topic_id (one_of_name xs t (get_or xs i d) rises has too named)), (λ same. ap name_of_topic (one_of_id xs t (get_or xs i d) apart has too same)))

-- where they are of none
pub new_agree : (name : List ℕ) (id : Id) (xs : List TopicEntry) → Rises bytes_cmp name_of_topic xs → find bytes_cmp name_of_topic name xs ≡ None → find_by (has_id id) xs ≡ None → All (Agrees name id) xs
new_agree name id xs rises unnamed unknown i d within =
    let u = get_or xs i d in
    let found : find bytes_cmp name_of_topic u.name xs ≡ Some u = contained_is_found bytes_order name_of_topic xs u rises (All-contains_itself xs i d within) in
    ((λ named. absurd (some_is_none (sym found ∙ ap (λ k. find bytes_cmp name_of_topic k xs) (sym named) ∙ unnamed))), (λ same. absurd (id_not_found id xs unknown i d within same)))

-- in place of a topic of its name and id
module _ (new t : TopicEntry) (xs : List TopicEntry) (b : Bool) (rises : Rises bytes_cmp name_of_topic xs) (apart : AreApart xs) (has : Contains xs t) (named : new.name ≡ t.name) (identified : new.id ≡ t.id) where
  pub replaced_by_id : (id : Id) → Decides b (t.id ≡ id) → find_by (has_id id) (put_topic new xs) ≡ cond b (Some new) (find_by (has_id id) xs)
  replaced_by_id id d =
      let agree : All (Agrees new.name new.id) xs = subst (λ n. All (Agrees n new.id) xs) (sym named) (subst (λ j. All (Agrees t.name j) xs) (sym identified) (there_agree t xs rises apart has)) in
      find_id-put id new xs agree
      ∙ ap (λ c. cond c (Some new) (find_by (has_id id) xs)) (ap (λ (j : Id). same_id j id) identified ∙ same_test (same_id t.id id) b (same_id-Decides t.id id) d)

  pub replaced_by_name : (name : List ℕ) → Decides b (t.name ≡ name) → find bytes_cmp name_of_topic name (put_topic new xs) ≡ cond b (Some new) (find bytes_cmp name_of_topic name xs)
  replaced_by_name name d = find-put_by bytes_order name_of_topic name new xs b (subst (λ n. Decides b (n ≡ name)) (sym named) d)

-- ---- after a topic is removed

none_left : {A : Type 0} (b : Bool) (x : A) (p : A → Bool) (ys : List A) → p x ≡ b → find_by p ys ≡ None → find_by p (cond (not b) (x ∷ ys) ys) ≡ None
none_left true x p ys e rest = rest
none_left false x p ys e rest = ap (λ c. cond c (Some x) (find_by p ys)) e ∙ rest

own_removed : {A : Type 0} (p : A → Bool) (xs : List A) → find_by p (filter (λ x. not (p x)) xs) ≡ None
own_removed p [] = refl
own_removed p (x ∷ xs) = none_left (p x) x p (filter (λ y. not (p y)) xs) refl (own_removed p xs)

other_left : {A : Type 0} (b : Bool) (x : A) (p : A → Bool) (ys xs : List A) → (b ≡ true → p x ≡ false) → find_by p ys ≡ find_by p xs → find_by p (cond (not b) (x ∷ ys) ys) ≡ find_by p (x ∷ xs)
other_left true x p ys xs apart rest = rest ∙ sym (ap (λ c. cond c (Some x) (find_by p xs)) (apart refl))
other_left false x p ys xs apart rest = ap (cond (p x) (Some x)) rest

others_stay : {A : Type 0} (p q : A → Bool) (xs : List A) → ((x : A) → q x ≡ true → p x ≡ false) → find_by p (filter (λ x. not (q x)) xs) ≡ find_by p xs
others_stay p q [] apart = refl
others_stay p q (x ∷ xs) apart = other_left (q x) x p (filter (λ y. not (q y)) xs) xs (apart x) (others_stay p q xs apart)

pub removed_by_id : (id removed : Id) (xs : List TopicEntry) → find_by (has_id id) (without_topic removed xs) ≡ cond (same_id removed id) None (find_by (has_id id) xs)
removed_by_id id removed xs = by (same_id removed id) (same_id-Decides removed id)
  where
    by : (b : Bool) → Decides b (removed ≡ id) → find_by (has_id id) (without_topic removed xs) ≡ cond b None (find_by (has_id id) xs)
    by true d = subst (λ j. find_by (has_id j) (without_topic removed xs) ≡ None) (d.0 refl) (own_removed (has_id removed) xs)
    by false d = others_stay (has_id id) (has_id removed) xs (λ t is. other_id t.id id (λ e. false≢true (d.1 (sym ((same_id-Decides t.id removed).0 is) ∙ e))))

-- what is looked up in the topic of a name, where it isn't the removed one
pub removed_by_name : {V : Type 0} (look : Option TopicEntry → V) (name : List ℕ) (removed : Id) (xs : List TopicEntry) → Rises bytes_cmp name_of_topic xs
    → look (find bytes_cmp name_of_topic name (without_topic removed xs)) ≡ cond (is_said removed (option_map topic_id (find bytes_cmp name_of_topic name xs))) (look None) (look (find bytes_cmp name_of_topic name xs))
removed_by_name {V} look name removed xs rises = by (find bytes_cmp name_of_topic name xs) refl
  where
    kept : (b : Bool) (t : TopicEntry) → look (cond (not b) (Some t) None) ≡ cond b (look None) (look (Some t))
    kept true t = refl
    kept false t = refl

    by : (found : Option TopicEntry) → find bytes_cmp name_of_topic name xs ≡ found → look (find bytes_cmp name_of_topic name (without_topic removed xs)) ≡ cond (is_said removed (option_map topic_id found)) (look None) (look found)
    by None e = ap look (find-filter_absent bytes_order name_of_topic (λ (t : TopicEntry). not (same_id t.id removed)) name xs e)
    by (Some t) e = ap look (find-filter_found bytes_order name_of_topic (λ (u : TopicEntry). not (same_id u.id removed)) name xs t rises e) ∙ kept (same_id t.id removed) t
