-- The last znode of a path in a list of znodes: the one that stands once all are put, one after another.
use Rattle.std.proofs.Common.{◌≡◌, ◌≢◌, ℕ, List, [], ◌∷◌, ◌++◌, reverse, map, Option, Some, None, Ordering, Contains, refl, sym, ap, ◌∙◌, inl, inr, append-nil}
use Rattle.std.specs.List.{flat_map}
use Rattle.std.specs.Option.{option_or}
use Rattle.std.proofs.lemmas.List.{reverse-append}
use Rattle.kz_types.specs.declared.tree.Rendered.{Rendered}
use Rattle.kz_types.specs.Paths.{roots}
use Rattle.kz_types.specs.Order.{TotalOrder, bytes_cmp}
use Rattle.kz_types.specs.Ordered.{find, all_put, Rises}
use Rattle.kz_types.proofs.Order.{bytes_order, below, equal, above, place, less_differs, less_differs_back}
use Rattle.kz_types.proofs.Lookup.{some_is_none, find_here, find_skip, find_at_bound, rest_rises, found_is_contained, key_of_found, Contains-head, Contains-tail, Contains-nil, Contains-cons_cases}
use Rattle.kz_types.proofs.Append.{find-append}
use Rattle.kz_types.proofs.Puts.{find-all_put, Contains-all_put_cases}
use Rattle.kz_spec_data.specs.Tree.{path_of_rendered}
use Rattle.kz_spec_data.specs.Metadata.{Image}
use Rattle.kz_spec_data.specs.Rendering.{bare, entity_znodes, render}

abbrev pub last_at : List ℕ → List Rendered → Option Rendered
last_at p rs = find bytes_cmp path_of_rendered p (reverse rs)

pub or_none : {A : Type 0} (o : Option A) → option_or o None ≡ o
or_none None = refl
or_none (Some a) = refl

pub last-append : (p : List ℕ) (xs ys : List Rendered) → last_at p (xs ++ ys) ≡ option_or (last_at p ys) (last_at p xs)
last-append p xs ys = ap (find bytes_cmp path_of_rendered p) (reverse-append xs ys) ∙ find-append bytes_cmp path_of_rendered p (reverse ys) (reverse xs)

-- two lists that end alike
pub alike-append : (p : List ℕ) (xs ys us vs : List Rendered) → last_at p xs ≡ last_at p us → last_at p ys ≡ last_at p vs → last_at p (xs ++ ys) ≡ last_at p (us ++ vs)
alike-append p xs ys us vs first second = last-append p xs ys ∙ (λ i. option_or (second i) (first i)) ∙ sym (last-append p us vs)

-- what is found in a rendering
pub found_in_rendering : (p : List ℕ) (i : Image) → find bytes_cmp path_of_rendered p (render i) ≡ option_or (last_at p (entity_znodes i)) (find bytes_cmp path_of_rendered p (map bare roots))
unfolding render
found_in_rendering p i =
    find-all_put bytes_order path_of_rendered p (entity_znodes i) (map bare roots) ∙ find-append bytes_cmp path_of_rendered p (reverse (entity_znodes i)) (map bare roots)

-- ---- one znode

-- a znode at another path
pub elsewhere : (p : List ℕ) (r : Rendered) → p ≢ r.path → last_at p (r ∷ []) ≡ None
elsewhere p r ne = find_skip bytes_order path_of_rendered p r [] ne

-- ---- the znodes of entries by rising key, of which one gives those of a path

module _ {A K : Type 0} {cmp : K → K → Ordering} (o : TotalOrder cmp) (key : A → K) (f : A → List Rendered) (p : List ℕ) where
  abbrev pub last_of : Option A → Option Rendered
  last_of None = None
  last_of (Some x) = last_at p (f x)

  gives_none : (k : K) (x : A) → k ≢ key x → ((r : Rendered) → last_at p (f x) ≡ Some r → key x ≡ k) → last_at p (f x) ≡ None
  gives_none k x ne gives = by (last_at p (f x)) refl
    where
      by : (found : Option Rendered) → last_at p (f x) ≡ found → last_at p (f x) ≡ None
      by None e = e
      by (Some r) e = absurd (ne (sym (gives r e)))

  skipped : (k : K) (x : A) (xs : List A) → k ≢ key x → ((r : Rendered) → last_at p (f x) ≡ Some r → key x ≡ k) → last_at p (flat_map f xs) ≡ last_of (find cmp key k xs)
      → last_at p (f x ++ flat_map f xs) ≡ last_of (find cmp key k (x ∷ xs))
  skipped k x xs ne gives rest =
      last-append p (f x) (flat_map f xs) ∙ ap (option_or (last_at p (flat_map f xs))) (gives_none k x ne gives) ∙ or_none (last_at p (flat_map f xs)) ∙ rest ∙ ap last_of (sym (find_skip o key k x xs ne))

  -- the entry of this key alone gives znodes of the path
  pub one_gives : (k : K) (xs : List A) → Rises cmp key xs → ((x : A) → Contains xs x → (r : Rendered) → last_at p (f x) ≡ Some r → key x ≡ k) → last_at p (flat_map f xs) ≡ last_of (find cmp key k xs)
  one_gives k [] rises gives = refl
  one_gives k (x ∷ xs) rises gives =
      let rest = one_gives k xs (rest_rises o key x xs rises) (λ y has. gives y (Contains-tail x xs y has)) in
      let here = gives x (Contains-head x xs) in
      elim (place o k (key x)) [
        | below h ↦ skipped k x xs (less_differs o k (key x) h) here rest
        | equal h ↦
            let none : find cmp key k xs ≡ None = ap (λ q. find cmp key q xs) h ∙ find_at_bound o key (key x) xs rises in
            last-append p (f x) (flat_map f xs) ∙ ap (λ r. option_or r (last_at p (f x))) (rest ∙ ap last_of none) ∙ ap last_of (sym (find_here o key k x xs h))
        | above h ↦ skipped k x xs (less_differs_back o k (key x) h) here rest
      ]

-- ---- what the last znode of a path is

-- it is one of the list, at that path
pub last_found : (p : List ℕ) (xs : List Rendered) (r : Rendered) → last_at p xs ≡ Some r → Contains xs r × (r.path ≡ p)
last_found p xs r e =
    let whole : find bytes_cmp path_of_rendered p (all_put bytes_cmp path_of_rendered xs []) ≡ Some r = find-all_put bytes_order path_of_rendered p xs [] ∙ ap (find bytes_cmp path_of_rendered p) (append-nil (reverse xs)) ∙ e in
    let has : Contains (all_put bytes_cmp path_of_rendered xs []) r = found_is_contained bytes_order path_of_rendered p (all_put bytes_cmp path_of_rendered xs []) r whole in (
      elim (Contains-all_put_cases bytes_order path_of_rendered xs [] r has) [
        | inl among ↦ among
        | inr none ↦ absurd (Contains-nil r none)
      ],
      key_of_found bytes_order path_of_rendered p (all_put bytes_cmp path_of_rendered xs []) r whole,
    )

-- a list that has a znode of the path has a last one
pub last_there : (p : List ℕ) (xs : List Rendered) (x : Rendered) → Contains xs x → x.path ≡ p → (r : Rendered) × (last_at p xs ≡ Some r)
last_there p [] x has at = absurd (Contains-nil x has)
last_there p (y ∷ ys) x has at = elim (Contains-cons_cases y ys x has) [
  | inl e ↦ by (last_at p ys) (last-append p (y ∷ []) ys ∙ ap (option_or (last_at p ys)) (find_here bytes_order path_of_rendered p y [] (sym at ∙ ap path_of_rendered (sym e))))
  | inr later ↦
      let l = last_there p ys x later at in
      (l.0, last-append p (y ∷ []) ys ∙ ap (λ o. option_or o (last_at p (y ∷ []))) l.1)
]
  where
    by : (rest : Option Rendered) → last_at p (y ∷ ys) ≡ option_or rest (Some y) → (r : Rendered) × (last_at p (y ∷ ys) ≡ Some r)
    by None e = (y, e)
    by (Some r) e = (r, e)

-- ---- lists whose znodes of the path are one and the same

-- the last one of the path, where each of the path is this one
abbrev pub AllAre : List ℕ → Rendered → List Rendered → Type 0
AllAre p x xs = (r : Rendered) → Contains xs r → r.path ≡ p → r ≡ x

pub alike_by_one : (p : List ℕ) (x : Rendered) (xs ys : List Rendered) → AllAre p x xs → AllAre p x ys
    → ((r : Rendered) → last_at p xs ≡ Some r → (s : Rendered) × (last_at p ys ≡ Some s)) → ((r : Rendered) → last_at p ys ≡ Some r → (s : Rendered) × (last_at p xs ≡ Some s))
    → last_at p xs ≡ last_at p ys
alike_by_one p x xs ys ones others there back = by (last_at p xs) (last_at p ys) refl refl
  where
    is_one : (zs : List Rendered) → AllAre p x zs → (r : Rendered) → last_at p zs ≡ Some r → r ≡ x
    is_one zs all r e = let l = last_found p zs r e in all r l.0 l.1

    by : (a b : Option Rendered) → last_at p xs ≡ a → last_at p ys ≡ b → last_at p xs ≡ last_at p ys
    by None None e f = e ∙ sym f
    by None (Some r) e f = let b = back r f in absurd (some_is_none (sym b.1 ∙ e))
    by (Some r) None e f = let b = there r e in absurd (some_is_none (sym b.1 ∙ f))
    by (Some r) (Some s) e f = e ∙ ap (λ z. Some z) (is_one xs ones r e ∙ sym (is_one ys others s f)) ∙ sym f
