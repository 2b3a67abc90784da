-- The first of the edits that lead from the migrated area to a rendering: its operation isn't refused with a code.
use Rattle.std.proofs.Common.{◌≡◌, ◌⊎◌, ℕ, ℤ, negsuc, Bool, true, false, ◌||◌, List, [], ◌∷◌, ◌++◌, Option, Some, None, option_map, is_some, Contains, All, Less, refl, sym, ap, ◌∙◌, subst, inl, inr}
use Rattle.std.specs.Str.{bytes_eq}
use Rattle.std.specs.List.{list_any}
use Rattle.std.specs.Ordering.{flip_args}
use Rattle.std.proofs.lemmas.Slice.Eq.{bytes_eq-Decides}
use Rattle.std.proofs.lemmas.List.Elements.{All-contains, All-head, Contains-append_cases}
use Rattle.kz_types.specs.declared.tree.Row.{Row}
use Rattle.kz_types.specs.declared.tree.Op.TheVariants.{Create, Set, Delete}
use Rattle.kz_types.specs.declared.tree.Rendered.{Rendered}
use Rattle.kz_types.specs.Paths.{base_paths, is_migrated}
use Rattle.kz_types.specs.Order.{bytes_cmp}
use Rattle.kz_types.specs.Ordered.{Rises}
use Rattle.kz_types.specs.Difference.{Edit, drop_key, make, alter, drops, makes, difference}
use Rattle.kz_types.specs.Edits.{IsDue, edit_key, IsDrop, IsNoDrop}
use Rattle.kz_types.proofs.Order.{bytes_order, flipped, less_differs}
use Rattle.kz_types.proofs.Lookup.{Contains-cons_cases, Contains-head, Contains-tail, found_is_contained, key_of_found, contained_is_found, contained_is_above}
use Rattle.kz_types.proofs.Edits.{drops_are_drops, makes_are_no_drops, each_is_due, due_is_there, drops_fall, makes_rise}
use Rattle.kz_spec_data.specs.Tree.{path_of_row, path_of_rendered, rendered_row, row_at, parent_of, is_root, has_parent, has_children, is_ephemeral, op_refusal}
use Rattle.kz_spec_data.specs.Image.{Image}
use Rattle.kz_spec_data.specs.InOrder.{IsInOrder}
use Rattle.kz_spec_data.specs.Rendering.{render}
use Rattle.kz_spec_data.specs.Difference.{same_body, op_of}
use Rattle.kz_laws_machine.proofs.Area.{area_of, area_rises, find_rendered, find_area, shown_migrated, edit_path}
use Rattle.kz_laws_machine.proofs.Runs.{Inside}
use Rattle.kz_laws_machine.proofs.Parents.{Is}
use Rattle.kz_laws_machine.proofs.Below.{parent_differs, child_migrated, not_empty}
use Rattle.kz_laws_machine.proofs.Children.{parent_is_less}
use Rattle.kz_laws_machine.proofs.Render.{IsInside, render_rises, render_inside, area_inside, difference_inside}
use Rattle.kz_laws_machine.proofs.Shown.{Shows}
use Rattle.kz_laws_machine.proofs.Above.{Above, top, base, shown, rendered_parent}
use Rattle.kz_laws_machine.proofs.Ready.{Ready, among_all, base_outside, migrated_lasts, base_lasts, root_lasts}
use Rattle.kz_laws_machine.proofs.Refusals.{Taken, create_taken, set_taken, delete_taken}

abbrev pub edits_from : List Row → Image → List (Edit Rendered (List ℕ))
edits_from rows i = difference bytes_cmp path_of_rendered same_body (area_of rows) (render i)

-- ---- the area and the znodes

some_rendered : (m : Option Row) → is_some (option_map rendered_row m) ≡ is_some m
some_rendered None = refl
some_rendered (Some r) = refl

-- a path of the area is there where the area shows it
pub area_shows : (rows : List Row) (p : List ℕ) → Rises bytes_cmp path_of_row rows → is_migrated p ≡ true → is_some (find_rendered p (area_of rows)) ≡ is_some (row_at p rows)
area_shows rows p rise inside = ap is_some (find_area p rows rise ∙ shown_migrated p (row_at p rows) inside) ∙ some_rendered (row_at p rows)

shown_inside : (i : Image) (q : List ℕ) (m : Option Rendered) → find_rendered q (render i) ≡ m → is_some m ≡ true → is_migrated q ≡ true
shown_inside i q None is some = absurd (cc)
shown_inside i q (Some r) is some =
    subst (λ p. is_migrated p ≡ true) (key_of_found bytes_order path_of_rendered q (render i) r is) (All-contains IsInside (render i) r (render_inside i) (found_is_contained bytes_order path_of_rendered q (render i) r is))

not_both : (p q : List ℕ) → bytes_cmp p q ≡ Less → bytes_cmp q p ≡ Less → ⊥
not_both p q one other = less_differs bytes_order p p (bytes_order.chain p q p one other) refl

-- ---- the first edit among drops and others

drop_first : (ds ms es : List (Edit Rendered (List ℕ))) (p : List ℕ) → ds ++ ms ≡ drop_key p ∷ es → All IsNoDrop ms → (rest : List (Edit Rendered (List ℕ))) × (ds ≡ drop_key p ∷ rest)
drop_first [] ms es p is none = absurd (All-head IsNoDrop (drop_key p) es (subst (All IsNoDrop) is none))
drop_first (d ∷ ds) ms es p is none = (ds, ap (λ x. x ∷ ds) (first_same d (drop_key p) (ds ++ ms) es is))
  where
    first_same : (d e : Edit Rendered (List ℕ)) (xs ys : List (Edit Rendered (List ℕ))) → d ∷ xs ≡ e ∷ ys → d ≡ e
    first_same d e xs ys is = cc

make_first : (ds ms es : List (Edit Rendered (List ℕ))) (r : Rendered) → ds ++ ms ≡ make r ∷ es → All IsDrop ds → ms ≡ make r ∷ es
make_first [] ms es r is drops = is
make_first (d ∷ ds) ms es r is drops = absurd (subst IsDrop (first_same d (make r) (ds ++ ms) es is) (All-head IsDrop d ds drops))
  where
    first_same : (d e : Edit Rendered (List ℕ)) (xs ys : List (Edit Rendered (List ℕ))) → d ∷ xs ≡ e ∷ ys → d ≡ e
    first_same d e xs ys is = cc

-- a drop that is due is among the drops, and a make among the others
due_drop : (have want : List Rendered) (p : List ℕ) → IsDue bytes_cmp path_of_rendered same_body have want (drop_key p) → Contains (drops bytes_cmp path_of_rendered have want) (drop_key p)
due_drop have want p due = by (Contains-append_cases (drops bytes_cmp path_of_rendered have want) (makes bytes_cmp path_of_rendered same_body have want) (drop_key p) (due_is_there bytes_order path_of_rendered same_body have want (drop_key p) due))
  where
    by : Contains (drops bytes_cmp path_of_rendered have want) (drop_key p) ⊎ Contains (makes bytes_cmp path_of_rendered same_body have want) (drop_key p) → Contains (drops bytes_cmp path_of_rendered have want) (drop_key p)
    by (inl has) = has
    by (inr has) = absurd (All-contains IsNoDrop (makes bytes_cmp path_of_rendered same_body have want) (drop_key p) (makes_are_no_drops bytes_order path_of_rendered same_body have want) has)

due_make : (have want : List Rendered) (r : Rendered) → IsDue bytes_cmp path_of_rendered same_body have want (make r) → Contains (makes bytes_cmp path_of_rendered same_body have want) (make r)
due_make have want r due = by (Contains-append_cases (drops bytes_cmp path_of_rendered have want) (makes bytes_cmp path_of_rendered same_body have want) (make r) (due_is_there bytes_order path_of_rendered same_body have want (make r) due))
  where
    by : Contains (drops bytes_cmp path_of_rendered have want) (make r) ⊎ Contains (makes bytes_cmp path_of_rendered same_body have want) (make r) → Contains (makes bytes_cmp path_of_rendered same_body have want) (make r)
    by (inl has) = absurd (All-contains IsDrop (drops bytes_cmp path_of_rendered have want) (make r) (drops_are_drops bytes_order path_of_rendered have want) has)
    by (inr has) = has

-- ---- deletes

any_row : (test : Row → Bool) (rows : List Row) → list_any test rows ≡ true → (r : Row) × Contains rows r × (test r ≡ true)
any_row test [] is = absurd (cc)
any_row test (r ∷ rows) is = by (test r) refl (λ later. any_row test rows later)
  where
    by : (b : Bool) → test r ≡ b → (list_any test rows ≡ true → (x : Row) × Contains rows x × (test x ≡ true)) → (x : Row) × Contains (r ∷ rows) x × (test x ≡ true)
    by true e rest = (r, Contains-head r rows, e)
    by false e rest = let more = rest (sym (ap (λ b. b || list_any test rows) e) ∙ is) in (more.0, Contains-tail r rows more.0 more.1, more.2)

-- of a path that isn't rendered no child is
no_child_shown : (i : Image) (p c : List ℕ) → IsInOrder i → is_migrated p ≡ true → find_rendered p (render i) ≡ None → parent_of c ≡ p → Shows i c → ⊥
no_child_shown i p c order inside gone up shows = by (subst (Above i) up (rendered_parent i c order shows))
  where
    by : Above i p → ⊥
    by (top is) = let no = not_empty p inside in cc
    by (base is) = let no = base_outside p is in cc
    by (shown is) = let no = ap is_some gone in cc

-- a child that isn't rendered either would be dropped first
no_child_dropped : (rows : List Row) (i : Image) (p c : List ℕ) (rest : List (Edit Rendered (List ℕ))) → Rises bytes_cmp path_of_row rows → is_migrated c ≡ true → parent_of c ≡ p → is_root p ≡ false
    → drops bytes_cmp path_of_rendered (area_of rows) (render i) ≡ drop_key p ∷ rest → Contains (drops bytes_cmp path_of_rendered (area_of rows) (render i)) (drop_key c) → ⊥
no_child_dropped rows i p c rest rise inside up low is has = by (Contains-cons_cases (drop_key p) rest (drop_key c) (subst (λ ds. Contains ds (drop_key c)) is has))
  where
    first : bytes_cmp p c ≡ Less
    first = subst (λ q. bytes_cmp q c ≡ Less) up (parent_is_less c (ap is_root up ∙ low))

    fall : Rises (flip_args bytes_cmp) (edit_key path_of_rendered) (drop_key p ∷ rest)
    fall = subst (Rises (flip_args bytes_cmp) (edit_key path_of_rendered)) is (drops_fall bytes_order path_of_rendered same_body (area_of rows) (render i) (area_rises rows rise))

    by : ◌≡◌ {A = Edit Rendered (List ℕ)} (drop_key p) (drop_key c) ⊎ Contains rest (drop_key c) → ⊥
    by (inl same) = parent_differs c inside (up ∙ ap (edit_key path_of_rendered) same)
    by (inr later) = not_both p c first (contained_is_above (flipped bytes_order) (edit_key path_of_rendered) p rest (drop_key c) fall later)

-- a znode that the area shows is found there
row_shown : (rows : List Row) (r : Row) → Rises bytes_cmp path_of_row rows → is_migrated r.path ≡ true → Contains rows r → find_rendered r.path (area_of rows) ≡ Some (rendered_row r)
row_shown rows r rise inside has = find_area r.path rows rise ∙ shown_migrated r.path (row_at r.path rows) inside ∙ ap (option_map rendered_row) (contained_is_found bytes_order path_of_row rows r rise has)

no_child : (rows : List Row) (i : Image) (p : List ℕ) (rest : List (Edit Rendered (List ℕ))) (r : Row) → IsInOrder i → Rises bytes_cmp path_of_row rows → is_migrated p ≡ true → find_rendered p (render i) ≡ None
    → drops bytes_cmp path_of_rendered (area_of rows) (render i) ≡ drop_key p ∷ rest → Contains rows r → parent_of r.path ≡ p → ⊥
no_child rows i p rest r order rise inside gone is has up = by (find_rendered r.path (render i)) refl
  where
    child : is_migrated r.path ≡ true
    child = child_migrated r.path (ap is_migrated up ∙ inside)

    by : (m : Option Rendered) → find_rendered r.path (render i) ≡ m → ⊥
    by (Some x) found = no_child_shown i p r.path order inside gone up (ap is_some found)
    by None found = no_child_dropped rows i p r.path rest rise child up (not_empty p inside) is
        (due_drop (area_of rows) (render i) r.path (rendered_row r, row_shown rows r rise child has, found))

no_children : (rows : List Row) (i : Image) (p : List ℕ) (rest : List (Edit Rendered (List ℕ))) → IsInOrder i → Rises bytes_cmp path_of_row rows → is_migrated p ≡ true → find_rendered p (render i) ≡ None
    → drops bytes_cmp path_of_rendered (area_of rows) (render i) ≡ drop_key p ∷ rest → has_children p rows ≡ false
no_children rows i p rest order rise inside gone is = by (has_children p rows) refl
  where
    by : (b : Bool) → has_children p rows ≡ b → b ≡ false
    by true e = let child = any_row (λ (r : Row). bytes_eq (parent_of r.path) p) rows e in
        absurd (no_child rows i p rest child.0 order rise inside gone is child.1 ((bytes_eq-Decides (parent_of child.0.path) p).0 child.2))
    by false e = refl

drop_taken : (sessions : List ℤ) (rows : List Row) (i : Image) (p : List ℕ) (es : List (Edit Rendered (List ℕ))) → IsInOrder i → Ready rows → edits_from rows i ≡ drop_key p ∷ es → is_migrated p ≡ true
    → IsDue bytes_cmp path_of_rendered same_body (area_of rows) (render i) (drop_key p) → Taken (op_refusal sessions (Delete p (negsuc 0)) rows)
drop_taken sessions rows i p es order ready is inside due =
    let first = drop_first (drops bytes_cmp path_of_rendered (area_of rows) (render i)) (makes bytes_cmp path_of_rendered same_body (area_of rows) (render i)) es p is (makes_are_no_drops bytes_order path_of_rendered same_body (area_of rows) (render i)) in
    delete_taken p rows (row_at p rows) (sym (area_shows rows p ready.rise inside) ∙ ap is_some due.1) (no_children rows i p first.0 order ready.rise inside due.2 first.1)

-- ---- creates

-- a parent that is rendered and isn't there would be made first
parent_made : (rows : List Row) (i : Image) (r q : Rendered) (es : List (Edit Rendered (List ℕ))) → parent_of r.path ≡ q.path → is_root q.path ≡ false
    → makes bytes_cmp path_of_rendered same_body (area_of rows) (render i) ≡ make r ∷ es → Contains (makes bytes_cmp path_of_rendered same_body (area_of rows) (render i)) (make q) → ⊥
parent_made rows i r q es up low is has = by (Contains-cons_cases (make r) es (make q) (subst (λ ms. Contains ms (make q)) is has))
  where
    first : bytes_cmp q.path r.path ≡ Less
    first = subst (λ p. bytes_cmp p r.path ≡ Less) up (parent_is_less r.path (ap is_root up ∙ low))

    rise : Rises bytes_cmp (edit_key path_of_rendered) (make r ∷ es)
    rise = subst (Rises bytes_cmp (edit_key path_of_rendered)) is (makes_rise bytes_order path_of_rendered same_body (area_of rows) (render i) (render_rises i))

    by : ◌≡◌ {A = Edit Rendered (List ℕ)} (make r) (make q) ⊎ Contains es (make q) → ⊥
    by (inl same) = less_differs bytes_order q.path r.path first (sym (ap (edit_key path_of_rendered) same))
    by (inr later) = not_both q.path r.path first (contained_is_above bytes_order (edit_key path_of_rendered) r.path es (make q) rise later)

-- so it is there
parent_there : (rows : List Row) (i : Image) (r q : Rendered) (es : List (Edit Rendered (List ℕ))) (m : Option Rendered) → find_rendered q.path (area_of rows) ≡ m → find_rendered q.path (render i) ≡ Some q → parent_of r.path ≡ q.path → is_root q.path ≡ false
    → makes bytes_cmp path_of_rendered same_body (area_of rows) (render i) ≡ make r ∷ es → is_some m ≡ true
parent_there rows i r q es (Some x) there wanted up low is = refl
parent_there rows i r q es None there wanted up low is =
    absurd (parent_made rows i r q es up low is (due_make (area_of rows) (render i) q (there, wanted)))

-- what stands above a path that is made
record Stands (rows : List Row) (path : List ℕ) : Type 0 where
  there : has_parent path rows ≡ true
  lasts : is_ephemeral (row_at (parent_of path) rows) ≡ false

below_there : (path : List ℕ) (rows : List Row) → Is (parent_of path) rows → has_parent path rows ≡ true
below_there path rows there = or_true (is_root (parent_of path)) (is_some (row_at (parent_of path) rows)) there
  where
    or_true : (a b : Bool) → b ≡ true → (a || b) ≡ true
    or_true true b is = refl
    or_true false b is = is

found_rendered : (i : Image) (q : List ℕ) (m : Option Rendered) → find_rendered q (render i) ≡ m → is_some m ≡ true → (r : Rendered) × (find_rendered q (render i) ≡ Some r)
found_rendered i q None is some = absurd (cc)
found_rendered i q (Some r) is some = (r, is)

parent_stands : (rows : List Row) (i : Image) (r : Rendered) (es : List (Edit Rendered (List ℕ))) → Ready rows → makes bytes_cmp path_of_rendered same_body (area_of rows) (render i) ≡ make r ∷ es → Above i (parent_of r.path) → Stands rows r.path
parent_stands rows i r es ready is (top root) = record {
  there = ap (λ b. b || is_some (row_at (parent_of r.path) rows)) root;
  lasts = root_lasts rows (parent_of r.path) (row_at (parent_of r.path) rows) refl ready.not_root root;
}
parent_stands rows i r es ready is (base among) = record {
  there = below_there r.path rows (among_all (λ b. Is b rows) base_paths (parent_of r.path) among ready.bases);
  lasts = base_lasts rows (parent_of r.path) ready.last among;
}
parent_stands rows i r es ready is (shown shows) =
    let inside = shown_inside i (parent_of r.path) (find_rendered (parent_of r.path) (render i)) refl shows in
    let q = found_rendered i (parent_of r.path) (find_rendered (parent_of r.path) (render i)) refl shows in
    let key : q.0.path ≡ parent_of r.path = key_of_found bytes_order path_of_rendered (parent_of r.path) (render i) q.0 q.1 in
    let there = parent_there rows i r q.0 es (find_rendered q.0.path (area_of rows)) refl (ap (λ p. find_rendered p (render i)) key ∙ q.1) (sym key) (ap is_root key ∙ not_empty (parent_of r.path) inside) is in
    record {
      there = below_there r.path rows (sym (area_shows rows (parent_of r.path) ready.rise inside) ∙ ap (λ p. is_some (find_rendered p (area_of rows))) (sym key) ∙ there);
      lasts = migrated_lasts rows (parent_of r.path) ready.last inside;
    }

make_taken : (sessions : List ℤ) (rows : List Row) (i : Image) (r : Rendered) (es : List (Edit Rendered (List ℕ))) → IsInOrder i → Ready rows → edits_from rows i ≡ make r ∷ es → is_migrated r.path ≡ true
    → IsDue bytes_cmp path_of_rendered same_body (area_of rows) (render i) (make r) → Taken (op_refusal sessions (Create r.path r.body None) rows)
make_taken sessions rows i r es order ready is inside due =
    let first = make_first (drops bytes_cmp path_of_rendered (area_of rows) (render i)) (makes bytes_cmp path_of_rendered same_body (area_of rows) (render i)) es r is (drops_are_drops bytes_order path_of_rendered (area_of rows) (render i)) in
    let above = parent_stands rows i r es ready first (rendered_parent i r.path order (ap is_some due.1)) in
    create_taken sessions r.path r.body rows above.there (sym (area_shows rows r.path ready.rise inside) ∙ ap is_some due.0) above.lasts

-- ---- every first edit

alter_taken : (sessions : List ℤ) (rows : List Row) (i : Image) (r : Rendered) → Ready rows → is_migrated r.path ≡ true → IsDue bytes_cmp path_of_rendered same_body (area_of rows) (render i) (alter r)
    → Taken (op_refusal sessions (Set r.path r.body (negsuc 0)) rows)
alter_taken sessions rows i r ready inside due = set_taken r.body (row_at r.path rows) (sym (area_shows rows r.path ready.rise inside) ∙ ap is_some due.1)

taken_by : (sessions : List ℤ) (rows : List Row) (i : Image) (e : Edit Rendered (List ℕ)) (es : List (Edit Rendered (List ℕ))) → IsInOrder i → Ready rows → edits_from rows i ≡ e ∷ es → is_migrated (edit_path e) ≡ true
    → IsDue bytes_cmp path_of_rendered same_body (area_of rows) (render i) e → Taken (op_refusal sessions (op_of e) rows)
taken_by sessions rows i (drop_key p) es order ready is inside due = drop_taken sessions rows i p es order ready is inside due
taken_by sessions rows i (make r) es order ready is inside due = make_taken sessions rows i r es order ready is inside due
taken_by sessions rows i (alter r) es order ready is inside due = alter_taken sessions rows i r ready inside due

pub first_inside : (rows : List Row) (i : Image) (e : Edit Rendered (List ℕ)) (es : List (Edit Rendered (List ℕ))) → edits_from rows i ≡ e ∷ es → is_migrated (edit_path e) ≡ true
first_inside rows i e es is = (subst Inside is (difference_inside (area_of rows) (render i) (area_inside rows) (render_inside i))).0

-- the operation of the first edit
pub first_taken : (sessions : List ℤ) (rows : List Row) (i : Image) (e : Edit Rendered (List ℕ)) (es : List (Edit Rendered (List ℕ))) → IsInOrder i → Ready rows → edits_from rows i ≡ e ∷ es → Taken (op_refusal sessions (op_of e) rows)
first_taken sessions rows i e es order ready is =
    let due = each_is_due bytes_order path_of_rendered same_body (area_of rows) (render i) (area_rises rows ready.rise) (render_rises i) in
    taken_by sessions rows i e es order ready is (first_inside rows i e es is)
    (All-head (IsDue bytes_cmp path_of_rendered same_body (area_of rows) (render i)) e es (subst (All (IsDue bytes_cmp path_of_rendered same_body (area_of rows) (render i))) is due))
