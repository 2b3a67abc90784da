-- Lists whose items are related one by one.
use Rattle.std.proofs.Common.{◌≡◌, Bool, true, false, cond, List, [], ◌∷◌, ◌++◌, filter, Option, Some, None, is_some, Ordering, Less, Equal, Greater, is_eq, refl, ap, ◌∙◌, subst}
use Rattle.std.specs.Prelude.{⊤, is_none}
use Rattle.std.specs.Ordering.{match_ordering}
use Rattle.std.specs.List.{find, flat_map}
use Rattle.kz_types.specs.Ordered.{find as find_by_key, put, all_put}

abbrev pub AllRelated : {A B : Type 0} → (A → B → Type 0) → List A → List B → Type 0
AllRelated R [] [] = ⊤
AllRelated R [] (y ∷ ys) = ⊥
AllRelated R (x ∷ xs) [] = ⊥
AllRelated R (x ∷ xs) (y ∷ ys) = R x y × AllRelated R xs ys

abbrev pub MaybeRelated : {A B : Type 0} → (A → B → Type 0) → Option A → Option B → Type 0
MaybeRelated R None None = ⊤
MaybeRelated R None (Some y) = ⊥
MaybeRelated R (Some x) None = ⊥
MaybeRelated R (Some x) (Some y) = R x y

-- ---- what is found

module _ {A B : Type 0} (R : A → B → Type 0) where
  pub none_alike : (m : Option A) (n : Option B) → MaybeRelated R m n → is_none m ≡ is_none n
  none_alike None None both = refl
  none_alike None (Some y) both = absurd both
  none_alike (Some x) None both = absurd both
  none_alike (Some x) (Some y) both = refl

  pub some_alike : (m : Option A) (n : Option B) → MaybeRelated R m n → is_some m ≡ is_some n
  some_alike None None both = refl
  some_alike None (Some y) both = absurd both
  some_alike (Some x) None both = absurd both
  some_alike (Some x) (Some y) both = refl

  first_found : (b : Bool) (x : A) (y : B) (m : Option A) (n : Option B) → R x y → MaybeRelated R m n → MaybeRelated R (cond b (Some x) m) (cond b (Some y) n)
  first_found true x y m n one rest = one
  first_found false x y m n one rest = rest

  pub append_related : (xs zs : List A) (ys ws : List B) → AllRelated R xs ys → AllRelated R zs ws → AllRelated R (xs ++ zs) (ys ++ ws)
  append_related [] zs [] ws first rest = rest
  append_related [] zs (y ∷ ys) ws first rest = absurd first
  append_related (x ∷ xs) zs [] ws first rest = absurd first
  append_related (x ∷ xs) zs (y ∷ ys) ws first rest = (first.0, append_related xs zs ys ws first.1 rest)

-- ---- items that pass a test

module _ {A B : Type 0} (R : A → B → Type 0) (p : A → Bool) (q : B → Bool) (agree : (x : A) (y : B) → R x y → p x ≡ q y) where
  pub find_related : (xs : List A) (ys : List B) → AllRelated R xs ys → MaybeRelated R (find p xs) (find q ys)
  find_related [] [] all = tt
  find_related [] (y ∷ ys) all = absurd all
  find_related (x ∷ xs) [] all = absurd all
  find_related (x ∷ xs) (y ∷ ys) all =
      subst (λ (b : Bool). MaybeRelated R (cond (p x) (Some x) (find p xs)) (cond b (Some y) (find q ys))) (agree x y all.0)
      (first_found R (p x) x y (find p xs) (find q ys) all.0 (find_related xs ys all.1))

  kept_first : (b : Bool) (x : A) (y : B) (xs : List A) (ys : List B) → R x y → AllRelated R xs ys → AllRelated R (cond b (x ∷ xs) xs) (cond b (y ∷ ys) ys)
  kept_first true x y xs ys one rest = (one, rest)
  kept_first false x y xs ys one rest = rest

  pub filter_related : (xs : List A) (ys : List B) → AllRelated R xs ys → AllRelated R (filter p xs) (filter q ys)
  filter_related [] [] all = tt
  filter_related [] (y ∷ ys) all = absurd all
  filter_related (x ∷ xs) [] all = absurd all
  filter_related (x ∷ xs) (y ∷ ys) all =
      subst (λ (b : Bool). AllRelated R (cond (p x) (x ∷ filter p xs) (filter p xs)) (cond b (y ∷ filter q ys) (filter q ys))) (agree x y all.0)
      (kept_first (p x) x y (filter p xs) (filter q ys) all.0 (filter_related xs ys all.1))

-- ---- items with keys

module _ {A B K : Type 0} (R : A → B → Type 0) (cmp : K → K → Ordering) (key : A → K) (name : B → K) (same : (x : A) (y : B) → R x y → key x ≡ name y) where
  pub find_key_related : (k : K) (xs : List A) (ys : List B) → AllRelated R xs ys → MaybeRelated R (find_by_key cmp key k xs) (find_by_key cmp name k ys)
  find_key_related k [] [] all = tt
  find_key_related k [] (y ∷ ys) all = absurd all
  find_key_related k (x ∷ xs) [] all = absurd all
  find_key_related k (x ∷ xs) (y ∷ ys) all =
      subst (λ (j : K). MaybeRelated R (cond (is_eq (cmp k (key x))) (Some x) (find_by_key cmp key k xs)) (cond (is_eq (cmp k j)) (Some y) (find_by_key cmp name k ys))) (same x y all.0)
      (first_found R (is_eq (cmp k (key x))) x y (find_by_key cmp key k xs) (find_by_key cmp name k ys) all.0 (find_key_related k xs ys all.1))

  put_by : (o : Ordering) (x a : A) (y b : B) (xs zs : List A) (ys ws : List B) → R x y → R a b → AllRelated R xs ys → AllRelated R zs ws
      → AllRelated R (match_ordering o (x ∷ a ∷ xs) (x ∷ xs) (a ∷ zs)) (match_ordering o (y ∷ b ∷ ys) (y ∷ ys) (b ∷ ws))
  put_by Less x a y b xs zs ys ws new first rest later = (new, (first, rest))
  put_by Equal x a y b xs zs ys ws new first rest later = (new, rest)
  put_by Greater x a y b xs zs ys ws new first rest later = (first, later)

  pub put_related : (x : A) (y : B) (xs : List A) (ys : List B) → R x y → AllRelated R xs ys → AllRelated R (put cmp key x xs) (put cmp name y ys)
  put_related x y [] [] new all = (new, tt)
  put_related x y [] (b ∷ ys) new all = absurd all
  put_related x y (a ∷ xs) [] new all = absurd all
  put_related x y (a ∷ xs) (b ∷ ys) new all =
      subst (λ (o : Ordering). AllRelated R (match_ordering (cmp (key x) (key a)) (x ∷ a ∷ xs) (x ∷ xs) (a ∷ put cmp key x xs)) (match_ordering o (y ∷ b ∷ ys) (y ∷ ys) (b ∷ put cmp name y ys)))
      (ap (λ (k : K). cmp k (key a)) (same x y new) ∙ ap (λ (k : K). cmp (name y) k) (same a b all.0))
      (put_by (cmp (key x) (key a)) x a y b xs (put cmp key x xs) ys (put cmp name y ys) new all.0 all.1 (put_related x y xs ys new all.1))

  pub all_put_related : (xs zs : List A) (ys ws : List B) → AllRelated R xs ys → AllRelated R zs ws → AllRelated R (all_put cmp key xs zs) (all_put cmp name ys ws)
  all_put_related [] zs [] ws new all = all
  all_put_related [] zs (y ∷ ys) ws new all = absurd new
  all_put_related (x ∷ xs) zs [] ws new all = absurd new
  all_put_related (x ∷ xs) zs (y ∷ ys) ws new all = all_put_related xs (put cmp key x zs) ys (put cmp name y ws) new.1 (put_related x y zs ws new.0 all)

-- ---- lists of lists

pub flat_related : {A B C D : Type 0} (R : A → B → Type 0) (S : C → D → Type 0) (f : A → List C) (g : B → List D) → ((x : A) (y : B) → R x y → AllRelated S (f x) (g y)) → (xs : List A) (ys : List B) → AllRelated R xs ys → AllRelated S (flat_map f xs) (flat_map g ys)
flat_related R S f g each [] [] all = tt
flat_related R S f g each [] (y ∷ ys) all = absurd all
flat_related R S f g each (x ∷ xs) [] all = absurd all
flat_related R S f g each (x ∷ xs) (y ∷ ys) all = append_related S (f x) (flat_map f xs) (g y) (flat_map g ys) (each x y all.0) (flat_related R S f g each xs ys all.1)

pub all_itself : {A : Type 0} (R : A → A → Type 0) → ((x : A) → R x x) → (xs : List A) → AllRelated R xs xs
all_itself R itself [] = tt
all_itself R itself (x ∷ xs) = (itself x, all_itself R itself xs)
