-- The migrated area after an operation.
use Rattle.std.proofs.Common.{◌≡◌, ◌≢◌, ℕ, ℤ, negsuc, Bool, true, false, cond, List, Option, Some, None, option_map, refl, sym, ap, ◌∙◌, subst, map, filter}
use Rattle.kz_types.specs.declared.tree.Row.{Row}
use Rattle.kz_types.specs.declared.tree.Op.{Op}
use Rattle.kz_types.specs.declared.tree.Op.TheVariants.{Create, Set, Delete}
use Rattle.kz_types.specs.declared.tree.Rendered.{Rendered}
use Rattle.kz_types.specs.Paths.{is_migrated}
use Rattle.kz_types.specs.Order.{bytes_cmp}
use Rattle.kz_types.specs.Ordered.{find, Rises}
use Rattle.kz_types.specs.Difference.{Edit, drop_key, make, alter, after_edit}
use Rattle.kz_types.specs.Edits.{edit_key}
use Rattle.kz_types.proofs.Order.{bytes_order}
use Rattle.kz_types.proofs.Lookup.{find-put_same, find-put_other, find-without_same, find-without_other, key_of_found, same_items}
use Rattle.kz_types.proofs.Maps.{find-map, Rises-map, Rises-filter, find-filter_absent, find-filter_found}
use Rattle.kz_types.proofs.Difference.{Rises-edited}
use Rattle.kz_spec_data.specs.Tree.{path_of_op, path_of_row, row_at, created_row, set_row, set_refusal, after_op, op_refusal, rendered_row, path_of_rendered}
use Rattle.kz_spec_data.specs.Difference.{op_of}
use Rattle.kz_laws_machine.proofs.Rows.{still, same, other, compare, others_kept, op_rises, created_found, set_found, deleted_found}

-- the paths and bodies of the migrated area of these znodes
abbrev pub area_of : List Row → List Rendered
area_of rows = map rendered_row (filter (λ (r : Row). is_migrated r.path) rows)

-- what the area shows of what stands at a path
abbrev pub shown_of : List ℕ → Option Row → Option Rendered
shown_of p m = cond (is_migrated p) (option_map rendered_row m) None

abbrev pub find_rendered : List ℕ → List Rendered → Option Rendered
find_rendered p rs = find bytes_cmp path_of_rendered p rs

pub area_rises : (rows : List Row) → Rises bytes_cmp path_of_row rows → Rises bytes_cmp path_of_rendered (area_of rows)
area_rises rows h = Rises-map bytes_cmp path_of_row path_of_rendered rendered_row (λ r. refl) (filter (λ (r : Row). is_migrated r.path) rows) (Rises-filter bytes_order path_of_row (λ (r : Row). is_migrated r.path) rows h)

shown_one : (b : Bool) (r : Row) → option_map rendered_row (cond b (Some r) None) ≡ cond b (option_map rendered_row (Some r)) None
shown_one true r = refl
shown_one false r = refl

shown_none : (b : Bool) → option_map rendered_row None ≡ cond b (option_map rendered_row None) None
shown_none true = refl
shown_none false = refl

filtered_by : (p : List ℕ) (rows : List Row) (m : Option Row) → Rises bytes_cmp path_of_row rows → row_at p rows ≡ m
    → option_map rendered_row (find bytes_cmp path_of_row p (filter (λ (r : Row). is_migrated r.path) rows)) ≡ shown_of p m
filtered_by p rows None h is = ap (option_map rendered_row) (find-filter_absent bytes_order path_of_row (λ (r : Row). is_migrated r.path) p rows is) ∙ shown_none (is_migrated p)
filtered_by p rows (Some r) h is =
    ap (option_map rendered_row) (find-filter_found bytes_order path_of_row (λ (x : Row). is_migrated x.path) p rows r h is) ∙ shown_one (is_migrated r.path) r
    ∙ ap (λ q. cond (is_migrated q) (option_map rendered_row (Some r)) None) (key_of_found bytes_order path_of_row p rows r is)

pub find_area : (p : List ℕ) (rows : List Row) → Rises bytes_cmp path_of_row rows → find_rendered p (area_of rows) ≡ shown_of p (row_at p rows)
find_area p rows h = find-map bytes_cmp path_of_row path_of_rendered rendered_row (λ r. refl) p (filter (λ (r : Row). is_migrated r.path) rows) ∙ filtered_by p rows (row_at p rows) h refl

rendered_still : (m : Option Row) → option_map rendered_row (option_map still m) ≡ option_map rendered_row m
rendered_still None = refl
rendered_still (Some r) = refl

-- two znodes that differ in the transaction of their children alone show the same
pub shown_alike : (p : List ℕ) (m n : Option Row) → option_map still m ≡ option_map still n → shown_of p m ≡ shown_of p n
shown_alike p m n e = ap (λ x. cond (is_migrated p) x None) (sym (rendered_still m) ∙ ap (option_map rendered_row) e ∙ rendered_still n)

pub shown_migrated : (p : List ℕ) (m : Option Row) → is_migrated p ≡ true → shown_of p m ≡ option_map rendered_row m
shown_migrated p m is = ap (λ b. cond b (option_map rendered_row m) None) is

shown_outside : (p : List ℕ) (m : Option Row) → is_migrated p ≡ false → shown_of p m ≡ None
shown_outside p m is = ap (λ b. cond b (option_map rendered_row m) None) is

-- another path shows what it did
find_other : (zxid : ℤ) (o : Op) (p : List ℕ) (rows : List Row) → Rises bytes_cmp path_of_row rows → p ≢ path_of_op o → find_rendered p (area_of (after_op zxid o rows)) ≡ find_rendered p (area_of rows)
find_other zxid o p rows h differ =
    find_area p (after_op zxid o rows) (op_rises zxid o rows h)
    ∙ shown_alike p (row_at p (after_op zxid o rows)) (row_at p rows) (others_kept zxid o p rows differ)
    ∙ sym (find_area p rows h)

-- ---- an operation outside the area leaves it

pub area_left : (zxid : ℤ) (o : Op) (rows : List Row) → Rises bytes_cmp path_of_row rows → is_migrated (path_of_op o) ≡ false → area_of (after_op zxid o rows) ≡ area_of rows
area_left zxid o rows h outside = same_items bytes_order path_of_rendered (area_of (after_op zxid o rows)) (area_of rows) (area_rises (after_op zxid o rows) (op_rises zxid o rows h)) (area_rises rows h) each
  where
    each : (p : List ℕ) → find_rendered p (area_of (after_op zxid o rows)) ≡ find_rendered p (area_of rows)
    each p = elim (compare p (path_of_op o)) [
      | same e ↦
          let none : is_migrated p ≡ false = ap is_migrated e ∙ outside in
          find_area p (after_op zxid o rows) (op_rises zxid o rows h) ∙ shown_outside p (row_at p (after_op zxid o rows)) none ∙ sym (shown_outside p (row_at p rows) none) ∙ sym (find_area p rows h)
      | other differ ↦ find_other zxid o p rows h differ
    ]

-- ---- the operation of an edit edits the area

abbrev pub edit_path : Edit Rendered (List ℕ) → List ℕ
edit_path = edit_key path_of_rendered

abbrev pub area_edited : Edit Rendered (List ℕ) → List Rendered → List Rendered
area_edited = after_edit bytes_cmp path_of_rendered

pub path_of_edit : (e : Edit Rendered (List ℕ)) → path_of_op (op_of e) ≡ edit_path e
path_of_edit (drop_key p) = refl
path_of_edit (make r) = refl
path_of_edit (alter r) = refl

found_there : (sessions : List ℤ) (r : Rendered) (rows : List Row) (m : Option Row) → row_at r.path rows ≡ m → op_refusal sessions (Set r.path r.body (negsuc 0)) rows ≡ None → (x : Row) × (row_at r.path rows ≡ Some x)
found_there sessions r rows (Some x) is pass = (x, is)
found_there sessions r rows None is pass = absurd (let refused = sym pass ∙ ap (set_refusal r.body (negsuc 0)) is in cc)

find_same : (sessions : List ℤ) (zxid : ℤ) (e : Edit Rendered (List ℕ)) (rows : List Row) → Rises bytes_cmp path_of_row rows → is_migrated (edit_path e) ≡ true → op_refusal sessions (op_of e) rows ≡ None
    → find_rendered (edit_path e) (area_of (after_op zxid (op_of e) rows)) ≡ find_rendered (edit_path e) (area_edited e (area_of rows))
find_same sessions zxid (drop_key p) rows h inside pass =
    find_area p (after_op zxid (Delete p (negsuc 0)) rows) (op_rises zxid (Delete p (negsuc 0)) rows h)
    ∙ ap (shown_of p) (deleted_found zxid p (negsuc 0) rows h) ∙ shown_migrated p None inside
    ∙ sym (find-without_same bytes_order path_of_rendered p (area_of rows) (area_rises rows h))
find_same sessions zxid (make r) rows h inside pass =
    find_area r.path (after_op zxid (Create r.path r.body None) rows) (op_rises zxid (Create r.path r.body None) rows h)
    ∙ ap (shown_of r.path) (created_found zxid r.path r.body None rows) ∙ shown_migrated r.path (Some (created_row zxid r.path r.body None)) inside
    ∙ sym (find-put_same bytes_order path_of_rendered r (area_of rows))
find_same sessions zxid (alter r) rows h inside pass =
    let there = found_there sessions r rows (row_at r.path rows) refl pass in
    let key : there.0.path ≡ r.path = key_of_found bytes_order path_of_row r.path rows there.0 there.1 in
    find_area r.path (after_op zxid (Set r.path r.body (negsuc 0)) rows) (op_rises zxid (Set r.path r.body (negsuc 0)) rows h)
    ∙ ap (shown_of r.path) (set_found zxid r.path r.body (negsuc 0) rows there.0 there.1) ∙ shown_migrated r.path (Some (set_row zxid r.body there.0)) inside
    ∙ ap (λ (q : List ℕ). Some (record { path = q; body = r.body })) key
    ∙ sym (find-put_same bytes_order path_of_rendered r (area_of rows))

edited_other : (e : Edit Rendered (List ℕ)) (p : List ℕ) (rs : List Rendered) → p ≢ edit_path e → find_rendered p (area_edited e rs) ≡ find_rendered p rs
edited_other (drop_key q) p rs differ = find-without_other bytes_order path_of_rendered q rs p differ
edited_other (make r) p rs differ = find-put_other bytes_order path_of_rendered r rs p differ
edited_other (alter r) p rs differ = find-put_other bytes_order path_of_rendered r rs p differ

pub area_changed : (sessions : List ℤ) (zxid : ℤ) (e : Edit Rendered (List ℕ)) (rows : List Row) → Rises bytes_cmp path_of_row rows → is_migrated (edit_path e) ≡ true → op_refusal sessions (op_of e) rows ≡ None
    → area_of (after_op zxid (op_of e) rows) ≡ area_edited e (area_of rows)
area_changed sessions zxid e rows h inside pass = same_items bytes_order path_of_rendered (area_of (after_op zxid (op_of e) rows)) (area_edited e (area_of rows))
    (area_rises (after_op zxid (op_of e) rows) (op_rises zxid (op_of e) rows h)) (Rises-edited bytes_order path_of_rendered e (area_of rows) (area_rises rows h)) each
  where
    each : (p : List ℕ) → find_rendered p (area_of (after_op zxid (op_of e) rows)) ≡ find_rendered p (area_edited e (area_of rows))
    each p = elim (compare p (edit_path e)) [
      | same is ↦ subst (λ q. find_rendered q (area_of (after_op zxid (op_of e) rows)) ≡ find_rendered q (area_edited e (area_of rows))) (sym is) (find_same sessions zxid e rows h inside pass)
      | other differ ↦ find_other zxid (op_of e) p rows h (λ x. differ (x ∙ path_of_edit e)) ∙ sym (edited_other e p (area_of rows) differ)
    ]
