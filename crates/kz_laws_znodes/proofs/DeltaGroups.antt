-- Znodes that stand for keys of one kind: each has the path of a good key and what the key holds, and each good key that holds
-- something has one.
use Rattle.std.proofs.Common.{◌≡◌, ℕ, List, Option, Some, None, Contains, refl, sym, ap, ◌∙◌}
use Rattle.kz_types.specs.declared.tree.Rendered.{Rendered}
use Rattle.kz_types.proofs.Lookup.{same_some}
use Rattle.kz_spec_data.specs.Tree.{path_of_rendered}
use Rattle.kz_laws_znodes.proofs.Lasts.{last_at, last_found, last_there}

module _ {J B : Type 0} (path : J → List ℕ) (Good : J → Type 0) (one : (j k : J) → Good j → Good k → path j ≡ path k → j ≡ k) (make : J → B → Rendered) (placed : (j : J) (b : B) → (make j b).path ≡ path j) where
  pub record Gives (xs : List Rendered) (f : J → Option B) : Type 0 where
    pub each : (r : Rendered) → Contains xs r → (j : J) × Good j × ((b : B) × (f j ≡ Some b) × (r ≡ make j b))
    pub there : (j : J) (b : B) → Good j → f j ≡ Some b → Contains xs (make j b)

  from_one : (p : List ℕ) (xs ys : List Rendered) (f g : J → Option B) → Gives xs f → Gives ys g → ((j : J) → Good j → path j ≡ p → f j ≡ g j) → (r : Rendered) → last_at p xs ≡ Some r → last_at p ys ≡ Some r
  from_one p xs ys f g gx gy same r e =
      let l = last_found p xs r e in
      let m = gx.each r l.0 in
      let b : B = m.2.0 in
      let at : path m.0 ≡ p = sym (placed m.0 b) ∙ ap path_of_rendered (sym m.2.2) ∙ l.1 in
      let also : g m.0 ≡ Some b = sym (same m.0 m.1 at) ∙ m.2.1 in
      let x = last_there p ys (make m.0 b) (gy.there m.0 b m.1 also) (placed m.0 b ∙ at) in
      let found = last_found p ys x.0 x.1 in
      let n = gy.each x.0 found.0 in
      let key : n.0 ≡ m.0 = one n.0 m.0 n.1 m.1 (sym (placed n.0 n.2.0) ∙ ap path_of_rendered (sym n.2.2) ∙ found.1 ∙ sym at) in
      let body : n.2.0 ≡ b = same_some n.2.0 b (sym n.2.1 ∙ ap g key ∙ also) in
      x.1 ∙ ap (λ z. Some z) (n.2.2 ∙ (λ i. make (key i) (body i)) ∙ sym m.2.2)

  -- two lists end alike at a path, where the key of that path holds the same in both
  pub groups_alike : (p : List ℕ) (xs ys : List Rendered) (f g : J → Option B) → Gives xs f → Gives ys g → ((j : J) → Good j → path j ≡ p → f j ≡ g j) → last_at p xs ≡ last_at p ys
  groups_alike p xs ys f g gx gy same = by (last_at p xs) (last_at p ys) refl refl
    where
      by : (a b : Option Rendered) → last_at p xs ≡ a → last_at p ys ≡ b → last_at p xs ≡ last_at p ys
      by (Some r) b e h = e ∙ sym (from_one p xs ys f g gx gy same r e)
      by None (Some r) e h = from_one p ys xs g f gy gx (λ j good at. sym (same j good at)) r h ∙ sym h
      by None None e h = e ∙ sym h
