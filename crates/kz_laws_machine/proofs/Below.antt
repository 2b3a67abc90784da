-- The parent of a path below a root of the migrated area is in the area too.
use Rattle.std.proofs.Common.{◌≡◌, ◌≢◌, ◌⊎◌, ℕ, ◌<◌, Bool, true, false, ◌||◌, ◌==◌, if◌then◌else◌, List, [], ◌∷◌, ◌++◌, length, drop, Option, Some, None, refl, sym, ap, ◌∙◌, subst, inl, inr, ⊎_elim, map, reverse, append_assoc, arith}
use Rattle.std.specs.Prelude.{codes}
use Rattle.std.specs.Option.{option_or}
use Rattle.std.specs.Str.{bytes_eq}
use Rattle.std.specs.List.{list_any}
use Rattle.std.proofs.lemmas.Bool.Decides.{Decides-eqb}
use Rattle.std.proofs.lemmas.Slice.Eq.{bytes_eq-Decides, starts_is}
use Rattle.kz_types.specs.Paths.{is_migrated, roots, is_below}
use Rattle.kz_types.specs.declared.tree.Rendered.{Rendered}
use Rattle.kz_types.specs.Order.{bytes_cmp}
use Rattle.kz_types.proofs.Order.{bytes_order}
use Rattle.kz_types.proofs.Append.{find-append}
use Rattle.kz_types.proofs.Lookup.{find_here, find_skip}
use Rattle.kz_types.proofs.Puts.{find-all_put}
use Rattle.kz_spec_data.specs.Image.{Image}
use Rattle.kz_spec_data.specs.Tree.{parent_of, is_root, path_of_rendered}
use Rattle.kz_spec_data.specs.Rendering.{bare, entity_znodes, render}
use Rattle.kz_laws_machine.proofs.Rows.{same, other, compare}
use Rattle.kz_laws_machine.proofs.Area.{find_rendered}

-- ---- the parent of what stands below a path

abbrev pub has_slash : List ℕ → Bool
has_slash bs = list_any (λ x. x == 47) bs

pub slash_inside : (a x : List ℕ) → has_slash (a ++ 47 ∷ x) ≡ true
slash_inside [] x = refl
slash_inside (b ∷ a) x = or_true (b == 47) (has_slash (a ++ 47 ∷ x)) (slash_inside a x)
  where
    or_true : (p q : Bool) → q ≡ true → (p || q) ≡ true
    or_true true q is = refl
    or_true false q is = is

-- what is at a path or below it
record Within (a p : List ℕ) : Type 0 where
  tail : List ℕ
  is : (p ≡ a) ⊎ (p ≡ a ++ 47 ∷ tail)

one_more : (b : ℕ) (a p : List ℕ) → Within a p → Within (b ∷ a) (b ∷ p)
one_more b a p w = record { tail = w.tail; is = ⊎_elim (λ (e : p ≡ a). inl (ap (λ l. b ∷ l) e)) (λ (e : p ≡ a ++ 47 ∷ w.tail). inr (ap (λ l. b ∷ l) e)) w.is }

parent_by : (c : Bool) (x : List ℕ) → Within [] (if c then 47 ∷ parent_of x else [])
parent_by true x = record { tail = parent_of x; is = inr refl }
parent_by false x = record { tail = []; is = inl refl }

parent_within : (a x : List ℕ) → Within a (parent_of (a ++ 47 ∷ x))
parent_within [] x = parent_by (has_slash x) x
parent_within (b ∷ a) x = subst (λ (c : Bool). Within (b ∷ a) (if c then b ∷ parent_of (a ++ 47 ∷ x) else [])) (sym (slash_inside a x)) (one_more b a (parent_of (a ++ 47 ∷ x)) (parent_within a x))

-- ---- at or below a root

abbrev under : List ℕ → List ℕ → Bool
under p root = bytes_eq p root || is_below root p

pub below_is : (root p : List ℕ) → is_below root p ≡ true → (x : List ℕ) × (p ≡ root ++ 47 ∷ x)
below_is root p is =
    let front = root ++ codes "/" in
    let split = (starts_is Decides-eqb p front (is_below root p) refl).0 is in
    (drop (length front) p, split ∙ append_assoc root (codes "/") (drop (length front) p))

is_below_of : (root x : List ℕ) → is_below root (root ++ 47 ∷ x) ≡ true
is_below_of root x =
    let front = root ++ codes "/" in
    (starts_is Decides-eqb (root ++ 47 ∷ x) front (is_below root (root ++ 47 ∷ x)) refl).1 x (sym (append_assoc root (codes "/") x))

or_right : (p q : Bool) → q ≡ true → (p || q) ≡ true
or_right true q is = refl
or_right false q is = is

or_left : (p q : Bool) → p ≡ true → (p || q) ≡ true
or_left true q is = refl
or_left false q is = absurd (cc)

under_of : (root p : List ℕ) → Within root p → under p root ≡ true
under_of root p w = ⊎_elim
    (λ (e : p ≡ root). or_left (bytes_eq p root) (is_below root p) ((bytes_eq-Decides p root).1 e))
    (λ (e : p ≡ root ++ 47 ∷ w.tail). or_right (bytes_eq p root) (is_below root p) (subst (λ q. is_below root q ≡ true) (sym e) (is_below_of root w.tail)))
    w.is

parent_under : (root p : List ℕ) → is_below root p ≡ true → under (parent_of p) root ≡ true
parent_under root p is =
    let split = below_is root p is in
    under_of root (parent_of p) (subst (λ q. Within root (parent_of q)) (sym split.1) (parent_within root split.0))

either : (a b : Bool) → (a || b) ≡ true → (a ≡ true) ⊎ (b ≡ true)
either true b is = inl refl
either false b is = inr is

neither : (a b : Bool) → (a || b) ≡ false → (a ≡ false) × (b ≡ false)
neither true b is = absurd (cc)
neither false b is = (refl, is)

up_by : (rs : List (List ℕ)) (p : List ℕ) → list_any (under p) rs ≡ true → list_any (bytes_eq p) rs ≡ false → list_any (under (parent_of p)) rs ≡ true
up_by [] p is none = absurd (cc)
up_by (r ∷ rs) p is none =
    let no_root = neither (bytes_eq p r) (list_any (bytes_eq p) rs) none in
    ⊎_elim
    (λ (here : under p r ≡ true). or_left (under (parent_of p) r) (list_any (under (parent_of p)) rs)
    (parent_under r p (⊎_elim (λ (same_path : bytes_eq p r ≡ true). absurd (cc (same_path, no_root.0))) (λ (low : is_below r p ≡ true). low) (either (bytes_eq p r) (is_below r p) here))))
    (λ (later : list_any (under p) rs ≡ true). or_right (under (parent_of p) r) (list_any (under (parent_of p)) rs) (up_by rs p later no_root.1))
    (either (under p r) (list_any (under p) rs) is)

pub parent_migrated : (p : List ℕ) → is_migrated p ≡ true → list_any (bytes_eq p) roots ≡ false → is_migrated (parent_of p) ≡ true
unfolding is_migrated
parent_migrated p is none = up_by roots p is none

-- ---- every rendering has the roots

no_root_found : (rs : List (List ℕ)) (p : List ℕ) → find_rendered p (map bare rs) ≡ None → list_any (bytes_eq p) rs ≡ false
no_root_found [] p is = refl
no_root_found (r ∷ rs) p is = elim (compare p r) [
  | same e ↦ absurd (let found = find_here bytes_order path_of_rendered p (bare r) (map bare rs) e in cc)
  | other differ ↦
      ap (λ b. b || list_any (bytes_eq p) rs) (differs p r differ (bytes_eq p r) refl) ∙ no_root_found rs p (sym (find_skip bytes_order path_of_rendered p (bare r) (map bare rs) differ) ∙ is)
]
  where
    differs : (p r : List ℕ) → p ≢ r → (b : Bool) → bytes_eq p r ≡ b → b ≡ false
    differs p r differ true test = absurd (differ ((bytes_eq-Decides p r).0 test))
    differs p r differ false test = refl

or_none : (m n : Option Rendered) → option_or m n ≡ None → n ≡ None
or_none None n is = is
or_none (Some r) n is = absurd (cc)

-- what a rendering hasn't is no root
pub rendered_roots : (i : Image) (p : List ℕ) → find_rendered p (render i) ≡ None → list_any (bytes_eq p) roots ≡ false
unfolding render
rendered_roots i p is =
    let entities = entity_znodes i in
    no_root_found roots p (or_none (find_rendered p (reverse entities)) (find_rendered p (map bare roots))
    (sym (find-append bytes_cmp path_of_rendered p (reverse entities) (map bare roots)) ∙ sym (find-all_put bytes_order path_of_rendered p entities (map bare roots)) ∙ is))

-- ---- a parent is another path

smaller : (b : ℕ) (bs : List ℕ) (c : Bool) → has_slash bs ≡ c → length (parent_of bs) < length bs ⊎ (bs ≡ []) → length (if c then b ∷ parent_of bs else []) < length (b ∷ bs)
smaller b bs true is rest = ⊎_elim (λ (less : length (parent_of bs) < length bs). omega arith) (λ (none : bs ≡ []). absurd (let no = ap has_slash none in cc)) rest
smaller b bs false is rest = omega arith

parent_smaller : (p : List ℕ) → length (parent_of p) < length p ⊎ (p ≡ [])
parent_smaller [] = inr refl
parent_smaller (b ∷ bs) = inl (smaller b bs (has_slash bs) refl (parent_smaller bs))

empty_outside : is_migrated [] ≡ false
unfolding is_migrated roots
empty_outside = refl

pub parent_differs : (p : List ℕ) → is_migrated p ≡ true → parent_of p ≢ p
parent_differs p inside is = ⊎_elim (λ (less : length (parent_of p) < length p). let same_length = ap length is in absurd (omega arith)) (λ (none : p ≡ []). let e = ap is_migrated none in cc (empty_outside)) (parent_smaller p)

pub not_empty : (q : List ℕ) → is_migrated q ≡ true → is_root q ≡ false
not_empty [] inside = absurd (cc (empty_outside))
not_empty (b ∷ bs) inside = refl

-- the parent of a path is another path, unless it is the root
pub parent_apart : (p : List ℕ) → is_root (parent_of p) ≡ false → parent_of p ≢ p
parent_apart p up is = ⊎_elim (λ (less : length (parent_of p) < length p). let same_length = ap length is in absurd (omega arith)) (λ (none : p ≡ []). let e = ap (λ q. is_root (parent_of q)) none in cc) (parent_smaller p)

-- ---- what stands below a path of the area is in it

-- a path with a `/` is its parent with a name after it
named_by : (b : ℕ) (bs : List ℕ) (c : Bool) → has_slash bs ≡ c → has_slash (b ∷ bs) ≡ true → (has_slash bs ≡ true → (name : List ℕ) × (bs ≡ parent_of bs ++ 47 ∷ name))
    → (name : List ℕ) × (b ∷ bs ≡ (if c then b ∷ parent_of bs else []) ++ 47 ∷ name)
named_by b bs true is slash rest = let below = rest is in (below.0, ap (λ l. b ∷ l) below.1)
named_by b bs false is slash rest = (bs, ap (λ x. x ∷ bs) ((Decides-eqb b 47).0 (here (b == 47) (has_slash bs) slash is)))
  where
    here : (p q : Bool) → (p || q) ≡ true → q ≡ false → p ≡ true
    here true q is none = refl
    here false q is none = cc

pub parent_and_name : (p : List ℕ) → has_slash p ≡ true → (name : List ℕ) × (p ≡ parent_of p ++ 47 ∷ name)
parent_and_name [] slash = absurd (cc)
parent_and_name (b ∷ bs) slash = named_by b bs (has_slash bs) refl slash (parent_and_name bs)

slash_by : (b : ℕ) (bs : List ℕ) (c : Bool) → has_slash bs ≡ c → is_root (if c then b ∷ parent_of bs else []) ≡ false → has_slash (b ∷ bs) ≡ true
slash_by b bs true is up = or_right (b == 47) (has_slash bs) is
slash_by b bs false is up = absurd (cc)

pub has_name : (p : List ℕ) → is_root (parent_of p) ≡ false → has_slash p ≡ true
has_name [] up = absurd (cc)
has_name (b ∷ bs) up = slash_by b bs (has_slash bs) refl up

-- what stands below what is within a root is below it
name_under : (root q name : List ℕ) → under q root ≡ true → under (q ++ 47 ∷ name) root ≡ true
name_under root q name is = ⊎_elim
    (λ (here : bytes_eq q root ≡ true). under_of root (q ++ 47 ∷ name) (record { tail = name; is = inr (ap (λ l. l ++ 47 ∷ name) ((bytes_eq-Decides q root).0 here)) }))
    (λ (low : is_below root q ≡ true).
    let split = below_is root q low in
    under_of root (q ++ 47 ∷ name) (record { tail = split.0 ++ 47 ∷ name; is = inr (ap (λ l. l ++ 47 ∷ name) split.1 ∙ append_assoc root (47 ∷ split.0) (47 ∷ name)) }))
    (either (bytes_eq q root) (is_below root q) is)

down_by : (rs : List (List ℕ)) (q name : List ℕ) → list_any (under q) rs ≡ true → list_any (under (q ++ 47 ∷ name)) rs ≡ true
down_by [] q name is = absurd (cc)
down_by (r ∷ rs) q name is = ⊎_elim
    (λ (here : under q r ≡ true). or_left (under (q ++ 47 ∷ name) r) (list_any (under (q ++ 47 ∷ name)) rs) (name_under r q name here))
    (λ (later : list_any (under q) rs ≡ true). or_right (under (q ++ 47 ∷ name) r) (list_any (under (q ++ 47 ∷ name)) rs) (down_by rs q name later))
    (either (under q r) (list_any (under q) rs) is)

-- a child of a path of the area is in the area
pub child_migrated : (p : List ℕ) → is_migrated (parent_of p) ≡ true → is_migrated p ≡ true
unfolding is_migrated
child_migrated p is =
    let named = parent_and_name p (has_name p (not_empty (parent_of p) is)) in
    subst (λ q. list_any (under q) roots ≡ true) (sym named.1) (down_by roots (parent_of p) named.0 is)

-- so the parent of a path outside of the area is outside
pub parent_outside : (p : List ℕ) → is_migrated p ≡ false → is_migrated (parent_of p) ≡ false
parent_outside p outside = by_parent (is_migrated (parent_of p)) refl
  where
    by_parent : (b : Bool) → is_migrated (parent_of p) ≡ b → b ≡ false
    by_parent true is = absurd (let inside = child_migrated p is in cc)
    by_parent false is = refl
