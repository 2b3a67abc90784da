-- Where the children of a path stand among paths that rise.
use Rattle.std.proofs.Common.{◌≡◌, ◌≢◌, ℕ, Bool, true, false, ◌||◌, ◌&&◌, List, [], ◌∷◌, ◌++◌, Option, Some, None, is_some, option_map, Less, refl, sym, ap, ◌∙◌, eqb-true}
use Rattle.std.specs.Bool.{nat_eq}
use Rattle.std.specs.List.{list_any, filter}
use Rattle.std.specs.Str.{bytes_eq, is_utf8}
use Rattle.std.specs.Ordering.{match_ordering}
use Rattle.kz_types.specs.declared.tree.Row.{Row}
use Rattle.kz_types.specs.PathRule.{is_path, has_path_form}
use Rattle.kz_types.proofs.NumberLemmas.{bytes_eq-true, bytes_eq-same}
use Rattle.kz_types.specs.Order.{bytes_cmp}
use Rattle.kz_types.specs.Ordered.{RisesAbove}
use Rattle.kz_types.proofs.Order.{below, equal, above, place, nat_order, bytes_order, cmp_greater, less_differs, less_differs_back}
use Rattle.kz_types.proofs.Lookup.{some_is_none, find_here, find_skip}
use Rattle.kz_spec_data.specs.Tree.{path_of_row, row_at, parent_of, has_children, is_after}
use Rattle.kz_tree_rows.specs.Kept.{AreRows}
use Rattle.kz_tree_rows.proofs.LastSlash.{or_true, parent_slash}

abbrev any_slash : List ℕ → Bool
any_slash bs = list_any (λ x. nat_eq x 47) bs

left_holds : (a b : Bool) → (a || b) ≡ true → b ≡ false → a ≡ true
left_holds true b h e = refl
left_holds false true h e = sym e
left_holds false false h e = h

-- ---- what a look-up tells

pub some_there : {A B : Type 0} (f : A → B) (o : Option A) (x : Option B) → is_some o ≡ true → option_map f o ≡ x → x ≢ None
some_there f None x h e none = absurd (cc)
some_there f (Some a) x h e none = let is = e ∙ none in absurd (cc)

pub none_there : {A B : Type 0} (f : A → B) (o : Option A) (x : Option B) → is_some o ≡ false → option_map f o ≡ x → x ≡ None
none_there f None x h e = sym e
none_there f (Some a) x h e = absurd (cc)

-- ---- a path with a slash is its parent's path, a slash, and a name

abbrev Parted : List ℕ → Type 0
Parted path = (name : List ℕ) × (path ≡ parent_of path ++ 47 ∷ name)

parted_by : (b : ℕ) (bs : List ℕ) (c : Bool) → any_slash bs ≡ c → any_slash (b ∷ bs) ≡ true → (any_slash bs ≡ true → Parted bs) → Parted (b ∷ bs)
parted_by b bs true e h rest = let r = rest e in (r.0, rw e (ap (λ l. b ∷ l) r.1))
parted_by b bs false e h rest = (bs, rw e (ap (λ x. x ∷ bs) (eqb-true b 47 (left_holds (nat_eq b 47) (any_slash bs) h e))))

parted : (path : List ℕ) → any_slash path ≡ true → Parted path
parted [] h = absurd (cc)
parted (b ∷ bs) h = parted_by b bs (any_slash bs) refl h (λ e. parted bs e)

slashed_by : (b : ℕ) (bs : List ℕ) (c : Bool) → any_slash bs ≡ c → parent_of (b ∷ bs) ≢ [] → any_slash (b ∷ bs) ≡ true
slashed_by b bs true e ne = rw e (or_true (nat_eq b 47))
slashed_by b bs false e ne = absurd (ne (rw e refl))

slashed : (path : List ℕ) → parent_of path ≢ [] → any_slash path ≡ true
slashed [] ne = absurd (ne refl)
slashed (b ∷ bs) ne = slashed_by b bs (any_slash bs) refl ne

-- ---- the order of a child's path

same_first : (p : ℕ) (xs ys : List ℕ) → bytes_cmp (p ∷ xs) (p ∷ ys) ≡ bytes_cmp xs ys
same_first p xs ys = rw (nat_order.itself p) refl

pub child_from : (path name : List ℕ) → bytes_cmp (path ++ 47 ∷ name) (path ++ 47 ∷ []) ≢ Less
child_from [] [] h = cc
child_from [] (x ∷ xs) h = cc
child_from (p ∷ ps) name h = child_from ps name (sym (same_first p (ps ++ 47 ∷ name) (ps ++ 47 ∷ [])) ∙ h)

pub child_before : (path name : List ℕ) → bytes_cmp (path ++ 47 ∷ name) (path ++ 48 ∷ []) ≡ Less
child_before [] name = refl
child_before (p ∷ ps) name = same_first p (ps ++ 47 ∷ name) (ps ++ 48 ∷ []) ∙ child_before ps name

-- a path is not empty
never : (a : Bool) → (((a && false) && true) && true) ≡ false
never true = refl
never false = refl

no_path : is_path [] ≡ false
unfolding is_path has_path_form
no_path = never (is_utf8 [])

pub not_empty : (path : List ℕ) → is_path path ≡ true → path ≢ []
not_empty path h e = let none = sym (ap is_path e ∙ no_path) ∙ h in cc

module _ (path : List ℕ) (ne : path ≢ []) where
  no_child_by : (r : Row) (b : Bool) → bytes_eq (parent_of r.path) path ≡ b → ((name : List ℕ) → r.path ≡ path ++ 47 ∷ name → ⊥) → b ≡ false
  no_child_by r false e none = refl
  no_child_by r true e none =
      let is : parent_of r.path ≡ path = bytes_eq-true (parent_of r.path) path e in
      let form = parted r.path (slashed r.path (λ nil. ne (sym is ∙ nil))) in
      absurd (none form.0 (form.1 ∙ ap (λ p. p ++ 47 ∷ form.0) is))

  pub no_child : (r : Row) → ((name : List ℕ) → r.path ≡ path ++ 47 ∷ name → ⊥) → bytes_eq (parent_of r.path) path ≡ false
  no_child r none = no_child_by r (bytes_eq (parent_of r.path) path) refl none

  -- a znode at the path and a slash would be a child
  pub found_is_child : (rows : List Row) → row_at (path ++ 47 ∷ []) rows ≢ None → has_children path rows ≡ true
  found_is_child [] h = absurd (h refl)
  found_is_child (r ∷ rs) h = elim (place bytes_order (path ++ 47 ∷ []) r.path) [
    | below lt ↦ ap (λ b. bytes_eq (parent_of r.path) path || b) (found_is_child rs (λ none. h (find_skip bytes_order path_of_row (path ++ 47 ∷ []) r rs (less_differs bytes_order (path ++ 47 ∷ []) r.path lt) ∙ none))) ∙ or_true (bytes_eq (parent_of r.path) path)
    | equal is ↦ ap (λ b. b || has_children path rs) (bytes_eq-same (parent_of r.path) path (ap parent_of (sym is) ∙ parent_slash path))
    | above gt ↦ ap (λ b. bytes_eq (parent_of r.path) path || b) (found_is_child rs (λ none. h (find_skip bytes_order path_of_row (path ++ 47 ∷ []) r rs (less_differs_back bytes_order (path ++ 47 ∷ []) r.path gt) ∙ none))) ∙ or_true (bytes_eq (parent_of r.path) path)
  ]

  -- the children are among the znodes after the path and a slash
  pub from_slash : (rows : List Row) → row_at (path ++ 47 ∷ []) rows ≡ None → has_children path (filter (is_after (Some (path ++ 47 ∷ []))) rows) ≡ has_children path rows
  from_slash [] e = refl
  from_slash (r ∷ rs) e = elim (place bytes_order (path ++ 47 ∷ []) r.path) [
    | below lt ↦ rw lt (ap (λ b. bytes_eq (parent_of r.path) path || b) (from_slash rs (sym (find_skip bytes_order path_of_row (path ++ 47 ∷ []) r rs (less_differs bytes_order (path ++ 47 ∷ []) r.path lt)) ∙ e)))
    | equal is ↦ absurd (some_is_none (sym (find_here bytes_order path_of_row (path ++ 47 ∷ []) r rs is) ∙ e))
    | above gt ↦
        let none : bytes_eq (parent_of r.path) path ≡ false = no_child r (λ name is. child_from path name (ap (λ p. bytes_cmp p (path ++ 47 ∷ [])) (sym is) ∙ gt)) in
        rw (cmp_greater bytes_order (path ++ 47 ∷ []) r.path gt)
        (from_slash rs (sym (find_skip bytes_order path_of_row (path ++ 47 ∷ []) r rs (less_differs_back bytes_order (path ++ 47 ∷ []) r.path gt)) ∙ e) ∙ ap (λ b. b || has_children path rs) (sym none))
  ]

  none_above : (k : List ℕ) (rows : List Row) → RisesAbove bytes_cmp path_of_row k rows → bytes_cmp k (path ++ 48 ∷ []) ≢ Less → has_children path rows ≡ false
  none_above k [] h beyond = refl
  none_above k (r ∷ rs) h beyond =
      let next : bytes_cmp r.path (path ++ 48 ∷ []) ≢ Less = λ lt. beyond (bytes_order.chain k r.path (path ++ 48 ∷ []) h.0 lt) in
      ap (λ b. b || has_children path rs) (no_child r (λ name is. next (ap (λ p. bytes_cmp p (path ++ 48 ∷ [])) is ∙ child_before path name))) ∙ none_above r.path rs h.1 next

  -- no child stands from the path and `0` on
  pub none_from : (r : Row) (rs : List Row) → AreRows (r ∷ rs) → match_ordering (bytes_cmp r.path (path ++ 48 ∷ [])) true false false ≡ false → has_children path (r ∷ rs) ≡ false
  none_from r rs h beyond =
      let next : bytes_cmp r.path (path ++ 48 ∷ []) ≢ Less = λ lt. let both = ap (λ o. match_ordering o true false false) (sym lt) ∙ beyond in cc in
      ap (λ b. b || has_children path rs) (no_child r (λ name is. next (ap (λ p. bytes_cmp p (path ++ 48 ∷ [])) is ∙ child_before path name))) ∙ none_above r.path rs h next
