-- The znodes after an operation: what is found at each path.
use Rattle.std.proofs.Common.{◌≡◌, ◌≢◌, ℕ, ℤ, pos, List, Option, Some, None, option_map, refl, sym, ap, ◌∙◌}
use Rattle.kz_types.specs.declared.tree.Row.{Row}
use Rattle.kz_types.specs.declared.tree.Op.{Op}
use Rattle.kz_types.specs.declared.tree.Op.TheVariants.{Create, Set, Delete, Check}
use Rattle.kz_types.specs.Order.{bytes_cmp}
use Rattle.kz_types.specs.Ordered.{Rises}
use Rattle.kz_types.proofs.Order.{bytes_order, below, equal, above, place, less_differs, less_differs_back}
use Rattle.kz_types.proofs.Lookup.{find-put_same, find-put_other, find-without_same, find-without_other, Rises-put, Rises-without, key_of_found}
use Rattle.kz_spec_data.specs.Tree.{path_of_op, path_of_row, row_at, put_row, parent_of, created_row, set_row, with_child_change, after_set, after_op}

-- all of a znode but the transaction of its children
abbrev pub still : Row → Row
still r = record r { pzxid = pos 0 }

-- two paths are the same or differ
pub data Same (p q : List ℕ) : Type 0 where
  same : p ≡ q → Same p q
  other : p ≢ q → Same p q

pub compare : (p q : List ℕ) → Same p q
compare p q = elim (place bytes_order p q) [
  | below h ↦ other (less_differs bytes_order p q h)
  | equal h ↦ same h
  | above h ↦ other (less_differs_back bytes_order p q h)
]

-- ---- the parent is touched

put_again : (p : List ℕ) (r s : Row) (rows : List Row) → row_at r.path rows ≡ Some r → s.path ≡ r.path → still s ≡ still r → option_map still (row_at p (put_row s rows)) ≡ option_map still (row_at p rows)
put_again p r s rows is path alike = elim (compare p s.path) [
  | same h ↦ ap (λ q. option_map still (row_at q (put_row s rows))) h ∙ ap (option_map still) (find-put_same bytes_order path_of_row s rows) ∙ ap (λ (x : Row). Some x) alike
      ∙ sym (ap (λ q. option_map still (row_at q rows)) (h ∙ path) ∙ ap (option_map still) is)
  | other h ↦ ap (option_map still) (find-put_other bytes_order path_of_row s rows p h)
]

touched_by : (zxid : ℤ) (p q : List ℕ) (rows : List Row) (m : Option Row) → row_at q rows ≡ m → option_map still (row_at p (with_child_change zxid m rows)) ≡ option_map still (row_at p rows)
touched_by zxid p q rows None is = refl
touched_by zxid p q rows (Some r) is =
    let path : r.path ≡ q = key_of_found bytes_order path_of_row q rows r is in
    put_again p r (record r { pzxid = zxid }) rows (ap (λ x. row_at x rows) path ∙ is) refl refl

pub touched_keeps : (zxid : ℤ) (p q : List ℕ) (rows : List Row) → option_map still (row_at p (with_child_change zxid (row_at q rows) rows)) ≡ option_map still (row_at p rows)
touched_keeps zxid p q rows = touched_by zxid p q rows (row_at q rows) refl

-- ---- every other path keeps what it had

set_other : (zxid : ℤ) (p q : List ℕ) (body : List ℕ) (rows : List Row) (m : Option Row) → row_at q rows ≡ m → p ≢ q → option_map still (row_at p (after_set zxid body m rows)) ≡ option_map still (row_at p rows)
set_other zxid p q body rows None is differ = refl
set_other zxid p q body rows (Some r) is differ =
    let path : r.path ≡ q = key_of_found bytes_order path_of_row q rows r is in
    ap (option_map still) (find-put_other bytes_order path_of_row (set_row zxid body r) rows p (λ e. differ (e ∙ path)))

pub others_kept : (zxid : ℤ) (o : Op) (p : List ℕ) (rows : List Row) → p ≢ path_of_op o → option_map still (row_at p (after_op zxid o rows)) ≡ option_map still (row_at p rows)
others_kept zxid (Create path body owner) p rows differ =
    ap (option_map still) (find-put_other bytes_order path_of_row (created_row zxid path body owner) (with_child_change zxid (row_at (parent_of path) rows) rows) p differ)
    ∙ touched_keeps zxid p (parent_of path) rows
others_kept zxid (Set path body version) p rows differ = set_other zxid p path body rows (row_at path rows) refl differ
others_kept zxid (Delete path version) p rows differ =
    ap (option_map still) (find-without_other bytes_order path_of_row path (with_child_change zxid (row_at (parent_of path) rows) rows) p differ)
    ∙ touched_keeps zxid p (parent_of path) rows
others_kept zxid (Check path version) p rows differ = refl

-- ---- the znodes rise

touched_rises_by : (zxid : ℤ) (rows : List Row) (m : Option Row) → Rises bytes_cmp path_of_row rows → Rises bytes_cmp path_of_row (with_child_change zxid m rows)
touched_rises_by zxid rows None h = h
touched_rises_by zxid rows (Some r) h = Rises-put bytes_order path_of_row (record r { pzxid = zxid }) rows h

set_rises : (zxid : ℤ) (body : List ℕ) (rows : List Row) (m : Option Row) → Rises bytes_cmp path_of_row rows → Rises bytes_cmp path_of_row (after_set zxid body m rows)
set_rises zxid body rows None h = h
set_rises zxid body rows (Some r) h = Rises-put bytes_order path_of_row (set_row zxid body r) rows h

pub op_rises : (zxid : ℤ) (o : Op) (rows : List Row) → Rises bytes_cmp path_of_row rows → Rises bytes_cmp path_of_row (after_op zxid o rows)
op_rises zxid (Create path body owner) rows h = Rises-put bytes_order path_of_row (created_row zxid path body owner) (with_child_change zxid (row_at (parent_of path) rows) rows) (touched_rises_by zxid rows (row_at (parent_of path) rows) h)
op_rises zxid (Set path body version) rows h = set_rises zxid body rows (row_at path rows) h
op_rises zxid (Delete path version) rows h = Rises-without bytes_order path_of_row path (with_child_change zxid (row_at (parent_of path) rows) rows) (touched_rises_by zxid rows (row_at (parent_of path) rows) h)
op_rises zxid (Check path version) rows h = h

-- ---- what is found at the path itself

pub created_found : (zxid : ℤ) (path body : List ℕ) (owner : Option ℤ) (rows : List Row) → row_at path (after_op zxid (Create path body owner) rows) ≡ Some (created_row zxid path body owner)
created_found zxid path body owner rows = find-put_same bytes_order path_of_row (created_row zxid path body owner) (with_child_change zxid (row_at (parent_of path) rows) rows)

pub set_found : (zxid : ℤ) (path body : List ℕ) (version : ℤ) (rows : List Row) (r : Row) → row_at path rows ≡ Some r → row_at path (after_op zxid (Set path body version) rows) ≡ Some (set_row zxid body r)
set_found zxid path body version rows r is =
    let key : r.path ≡ path = key_of_found bytes_order path_of_row path rows r is in
    ap (λ m. row_at path (after_set zxid body m rows)) is ∙ ap (λ q. row_at q (put_row (set_row zxid body r) rows)) (sym key) ∙ find-put_same bytes_order path_of_row (set_row zxid body r) rows

pub deleted_found : (zxid : ℤ) (path : List ℕ) (version : ℤ) (rows : List Row) → Rises bytes_cmp path_of_row rows → row_at path (after_op zxid (Delete path version) rows) ≡ None
deleted_found zxid path version rows h = find-without_same bytes_order path_of_row path (with_child_change zxid (row_at (parent_of path) rows) rows) (touched_rises_by zxid rows (row_at (parent_of path) rows) h)
