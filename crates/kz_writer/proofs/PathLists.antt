-- Lemmas on the paths that keys span, and on what is found at them.
use Rattle.std.proofs.Common.{◌≡◌, ◌≤◌, ◌+◌, ℕ, Bool, true, false, cond, List, [], ◌∷◌, ◌++◌, map, length, Option, Some, None, option_map, option_to_list, Contains, Ordering, Less, refl, sym, ap, ◌∙◌, subst, inl, inr, arith, length-append}
use Rattle.std.specs.declared.cmp.Ordering.TheVariants.{Equal, Greater}
use Rattle.std.specs.List.{flat_map}
use Rattle.std.specs.Ordering.{match_ordering}
use Rattle.std.proofs.lemmas.Slice.Eq.{bytes_eq-Decides}
use Rattle.std.proofs.lemmas.List.Elements.{Contains-append_cases, Contains-append_left, Contains-append_right}
use Rattle.kz_types.specs.declared.key.EntityKey.{EntityKey}
use Rattle.kz_types.specs.declared.tree.Rendered.{Rendered}
use Rattle.kz_types.specs.Paths.{is_path}
use Rattle.kz_types.specs.Order.{bytes_cmp}
use Rattle.kz_types.specs.Ordered.{find, put, all_put, Rises}
use Rattle.kz_types.specs.Difference.{DecidesEqual}
use Rattle.kz_types.specs.Covering.{at_keys, Covers}
use Rattle.kz_types.proofs.Order.{bytes_order}
use Rattle.kz_types.proofs.Lookup.{some_is_none, same_some, Contains-head, Contains-tail, Contains-nil, Contains-cons_cases, key_of_found, found_is_contained}
use Rattle.kz_types.proofs.Puts.{Rises-all_put}
use Rattle.kz_types.proofs.Maps.{Rises-map}
use Rattle.kz_types.proofs.Covering.{Rises-at_keys, covered_difference}
use Rattle.kz_laws_znodes.proofs.Puts.{put_is_found}
use Rattle.kz_spec_data.specs.Tree.{path_of_rendered}
use Rattle.kz_spec_data.specs.Difference.{same_body, op_of, diff}
use Rattle.kz_spec_data.specs.Spans.{spanned_paths, all_spanned_paths, CoverDifference}
use Rattle.kz_writer.specs.declared.spanned.SpannedPath.{SpannedPath}
use Rattle.kz_writer.specs.PathLists.{path_of_spanned, path_or_nothing, spanned_by, spanned_by_all, DifferAtPathsAlone, RisesBy}

-- ---- items of lists

in_flat : {A B : Type 0} (f : A → List B) (xs : List A) (x : A) (y : B) → Contains xs x → Contains (f x) y → Contains (flat_map f xs) y
in_flat f [] x y has own = absurd (Contains-nil x has)
in_flat f (z ∷ xs) x y has own = elim (Contains-cons_cases z xs x has) [
  | inl is ↦ Contains-append_left (f z) (flat_map f xs) y (subst (λ w. Contains (f w) y) (sym is) own)
  | inr later ↦ Contains-append_right (f z) (flat_map f xs) y (in_flat f xs x y later own)
]

out_of_flat : {A B : Type 0} (f : A → List B) (xs : List A) (y : B) → Contains (flat_map f xs) y → (x : A) × Contains xs x × Contains (f x) y
out_of_flat f [] y has = absurd (Contains-nil y has)
out_of_flat f (x ∷ xs) y has = elim (Contains-append_cases (f x) (flat_map f xs) y has) [
  | inl own ↦ (x, Contains-head x xs, own)
  | inr later ↦ let rest = out_of_flat f xs y later in (rest.0, Contains-tail x xs rest.0 rest.1, rest.2)
]

in_map : {A B : Type 0} (f : A → B) (xs : List A) (x : A) → Contains xs x → Contains (map f xs) (f x)
in_map f [] x has = absurd (Contains-nil x has)
in_map f (z ∷ xs) x has = elim (Contains-cons_cases z xs x has) [
  | inl is ↦ subst (λ w. Contains (f z ∷ map f xs) (f w)) is (Contains-head (f z) (map f xs))
  | inr later ↦ Contains-tail (f z) (map f xs) (f x) (in_map f xs x later)
]

length-put : {A : Type 0} (key : A → List ℕ) (x : A) (ys : List A) → length (put bytes_cmp key x ys) ≤ length ys + 1
length-put key x [] = omega arith
length-put {A} key x (y ∷ ys) = by (bytes_cmp (key x) (key y)) (length-put key x ys)
  where
    by : (r : Ordering) → length (put bytes_cmp key x ys) ≤ length ys + 1 → length (match_ordering r (x ∷ y ∷ ys) (x ∷ ys) (y ∷ put bytes_cmp key x ys)) ≤ length (y ∷ ys) + 1
    by Less h = omega arith
    by Equal h = omega arith
    by Greater h = omega (arith, h)

length-all_put : {A : Type 0} (key : A → List ℕ) (xs ys : List A) → length (all_put bytes_cmp key xs ys) ≤ length xs + length ys
length-all_put key [] ys = omega arith
length-all_put key (x ∷ xs) ys = omega (arith, length-all_put key xs (put bytes_cmp key x ys), length-put key x ys)

-- ---- the paths that keys span

one_or_none : (b : Bool) (s : SpannedPath) → length (cond b (s ∷ []) []) ≤ 1
one_or_none true s = omega arith
one_or_none false s = omega arith

length-kept : (ps : List (List ℕ)) → length (flat_map path_or_nothing ps) ≤ length ps
length-kept [] = omega arith
length-kept (p ∷ ps) = omega (arith, length-append (path_or_nothing p) (flat_map path_or_nothing ps), one_or_none (is_path p) (record { path = p }), length-kept ps)

length-spanned : (ks : List EntityKey) → length (flat_map spanned_by ks) ≤ length (all_spanned_paths ks)
length-spanned [] = omega arith
length-spanned (k ∷ ks) =
    omega (arith, length-append (spanned_by k) (flat_map spanned_by ks), length-append (spanned_paths k) (all_spanned_paths ks), length-kept (spanned_paths k), length-spanned ks)

-- there are at most as many as the keys span
few_spanned : (ks : List EntityKey) → length (spanned_by_all ks) ≤ length (all_spanned_paths ks)
few_spanned ks = omega (arith, length-all_put path_of_spanned (flat_map spanned_by ks) [], length-spanned ks)

kept : (p : List ℕ) (s : SpannedPath) → is_path p ≡ true → s ≡ record { path = p } → Contains (path_or_nothing p) s
kept p s rule is = subst (Contains (path_or_nothing p)) (sym is) (rw rule (Contains-head (record { path = p }) []))

-- each path that a key spans is among them
spans : (ks : List EntityKey) (p : List ℕ) → Contains (all_spanned_paths ks) p → is_path p ≡ true → Contains (map path_of_spanned (spanned_by_all ks)) p
spans ks p has rule =
    let own : SpannedPath = record { path = p } in
    let by = out_of_flat spanned_paths ks p has in
    let of_key : Contains (spanned_by by.0) own = in_flat path_or_nothing (spanned_paths by.0) p own by.2 (kept p own rule refl) in
    let found = put_is_found bytes_order path_of_spanned (flat_map spanned_by ks) [] own (in_flat spanned_by ks by.0 own by.1 of_key) in
    let named : found.0.path ≡ p = key_of_found bytes_order path_of_spanned p (spanned_by_all ks) found.0 found.1 in
    subst (Contains (map path_of_spanned (spanned_by_all ks))) named
    (in_map path_of_spanned (spanned_by_all ks) found.0 (found_is_contained bytes_order path_of_spanned p (spanned_by_all ks) found.0 found.1))

-- they rise
pub spanned_rises : (ks : List EntityKey) → Rises bytes_cmp (λ p. p) (map path_of_spanned (spanned_by_all ks))
spanned_rises ks = Rises-map bytes_cmp path_of_spanned (λ p. p) path_of_spanned (λ s. refl) (spanned_by_all ks) (Rises-all_put bytes_order path_of_spanned (flat_map spanned_by ks) [] tt)

-- ---- what is found at them

found_znode : (p : List ℕ) (zs : List Rendered) (body : List ℕ) → Some body ≡ option_map (λ (r : Rendered). r.body) (find bytes_cmp path_of_rendered p zs) → option_to_list (find bytes_cmp path_of_rendered p zs) ≡ record { path = p; body = body } ∷ []
found_znode p zs body told = by (find bytes_cmp path_of_rendered p zs) refl told
  where
    by : (f : Option Rendered) → find bytes_cmp path_of_rendered p zs ≡ f → Some body ≡ option_map (λ (r : Rendered). r.body) f → option_to_list f ≡ record { path = p; body = body } ∷ []
    by None is e = absurd (some_is_none e)
    by (Some r) is e =
        let named : r.path ≡ p = key_of_found bytes_order path_of_rendered p zs r is in
        let same : r.body ≡ body = same_some r.body body (sym e) in
        (λ i. record { path = named i; body = same i } ∷ [])

pub pushed_znode : (before after : List Rendered) (p path : List ℕ) (zs : List Rendered) (body made : List ℕ) → Some body ≡ option_map (λ (r : Rendered). r.body) (find bytes_cmp path_of_rendered p zs) → path ≡ p → made ≡ body
    → after ≡ before ++ record { path = path; body = made } ∷ [] → after ≡ before ++ option_to_list (find bytes_cmp path_of_rendered p zs)
pushed_znode before after p path zs body made told named same is =
    is ∙ (λ i. before ++ record { path = named i; body = same i } ∷ []) ∙ ap (λ added. before ++ added) (sym (found_znode p zs body told))

decides_body : DecidesEqual path_of_rendered same_body
decides_body = record {
  itself = λ r. (bytes_eq-Decides r.body r.body).1 refl;
  equal = λ r s named same. (λ i. record { path = named i; body = (bytes_eq-Decides r.body s.body).0 same i });
}

abbrev pub paths_of : List SpannedPath → List (List ℕ)
paths_of spanned = map path_of_spanned spanned

-- the znodes at these paths rise
pub at_spanned_rises : (ks : List EntityKey) (spanned : List SpannedPath) (zs found : List Rendered) → spanned ≡ spanned_by_all ks → found ≡ at_keys bytes_cmp path_of_rendered (paths_of spanned) zs → Rises bytes_cmp path_of_rendered found
at_spanned_rises ks spanned zs found all is =
    subst (Rises bytes_cmp path_of_rendered) (sym is) (Rises-at_keys bytes_order path_of_rendered (paths_of spanned) zs (subst (λ ps. Rises bytes_cmp (λ p. p) (paths_of ps)) (sym all) (spanned_rises ks)))

-- Keys that cover the difference of two lists of znodes, which differ at paths alone, span the paths at which they differ.
pub spanned_cover : (ks : List EntityKey) (old new : List Rendered) → CoverDifference ks old new → DifferAtPathsAlone old new → Covers bytes_cmp path_of_rendered (paths_of (spanned_by_all ks)) old new
spanned_cover ks old new covers rule = λ p outside. at p (is_path p) refl outside
  where
    at : (p : List ℕ) (b : Bool) → is_path p ≡ b → (Contains (paths_of (spanned_by_all ks)) p → ⊥) → find bytes_cmp path_of_rendered p old ≡ find bytes_cmp path_of_rendered p new
    at p true e outside = covers p (λ has. outside (spans ks p has e))
    at p false e outside = rule p e

-- the difference of the znodes at these paths is that of all znodes
pub delta_of_paths : (ks : List EntityKey) (old new : List Rendered) → Rises bytes_cmp path_of_rendered old → Rises bytes_cmp path_of_rendered new → CoverDifference ks old new → DifferAtPathsAlone old new
    → (spanned : List SpannedPath) (have want : List Rendered) → spanned ≡ spanned_by_all ks → have ≡ at_keys bytes_cmp path_of_rendered (paths_of spanned) old → want ≡ at_keys bytes_cmp path_of_rendered (paths_of spanned) new
    → diff have want ≡ diff old new
unfolding diff
delta_of_paths ks old new ho hn covers rule spanned have want all had wanted =
    rw (had, wanted, all)
    (sym (ap (map op_of) (covered_difference bytes_order path_of_rendered same_body decides_body (paths_of (spanned_by_all ks)) old new (spanned_rises ks) ho hn (spanned_cover ks old new covers rule))))

-- ---- counts

-- a count that rises by at most the number of these paths
pub count_of_spanned : (ks : List EntityKey) (spanned : List SpannedPath) (before after : ℕ) → spanned ≡ spanned_by_all ks → RisesBy (length spanned) before after → RisesBy (length (all_spanned_paths ks)) before after
count_of_spanned ks spanned before after all h = (h.0, omega (arith, h.1, ap length all, few_spanned ks))
