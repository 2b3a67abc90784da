-- The znodes that end with a session, and their parents.
use Rattle.std.proofs.Common.{◌≡◌, ◌≢◌, ℕ, ℤ, Bool, true, false, cond, not, ◌||◌, ◌&&◌, List, [], ◌∷◌, map, Option, Some, None, is_some, Less, refl, sym, ap, ◌∙◌, subst}
use Rattle.std.specs.List.{filter}
use Rattle.std.specs.Str.{bytes_eq}
use Rattle.kz_types.specs.declared.tree.Row.{Row}
use Rattle.kz_types.specs.Order.{bytes_cmp}
use Rattle.kz_types.proofs.NumberLemmas.{bytes_eq-true, bytes_eq-same}
use Rattle.kz_types.proofs.Order.{below, equal, above, place, cmp_equal, cmp_greater, less_differs, less_differs_back, bytes_order}
use Rattle.kz_types.proofs.Append.{without_absent}
use Rattle.kz_types.proofs.Lookup.{some_is_none, same_some, find_here, find_head, find_skip, key_of_found, rest_rises, find_at_bound, find_below_first, without_here, Rises-without}
use Rattle.kz_types.proofs.Maps.{Rises-map, find-filter_absent, find-filter_found}
use Rattle.kz_spec_data.specs.Tree.{path_of_row, row_at, put_row, without_row, with_child_change, is_owner, is_owned, loses_child, after_loss, parent_of, without_owned}
use Rattle.kz_tree_rows.specs.Kept.{has_owner, ephemeral_rows}
use Rattle.kz_tree_rows.proofs.Ephemerals.{filter-without}
use Rattle.kz_tree.specs.Kept.{AreRows}

abbrev stays : ℤ → Row → Bool
stays session r = not (is_owned session r)

-- ---- the znodes that stay

-- a znode that ends with a session is ephemeral
owned_has_owner : (session : ℤ) (owner : Option ℤ) → is_owner session owner ≡ true → is_some owner ≡ true
owned_has_owner session None h = absurd (cc)
owned_has_owner session (Some o) h = refl

no_owner : (session : ℤ) (owner : Option ℤ) → is_some owner ≡ false → is_owner session owner ≡ false
no_owner session None h = refl
no_owner session (Some o) h = absurd (cc)

passed : (session : ℤ) (r : Row) (rs : List Row) (b : Bool) → has_owner r ≡ b → filter (is_owned session) (ephemeral_rows rs) ≡ filter (is_owned session) rs
    → filter (is_owned session) (cond b (r ∷ ephemeral_rows rs) (ephemeral_rows rs)) ≡ cond (is_owned session r) (r ∷ filter (is_owned session) rs) (filter (is_owned session) rs)
passed session r rs true e rest = ap (λ (l : List Row). cond (is_owned session r) (r ∷ l) l) rest
passed session r rs false e rest = rw (no_owner session r.owner e) rest

-- those that end with the session are among the ephemeral ones
owned_ephemeral : (session : ℤ) (rows : List Row) → filter (is_owned session) (ephemeral_rows rows) ≡ filter (is_owned session) rows
owned_ephemeral session [] = refl
owned_ephemeral session (r ∷ rs) = passed session r rs (has_owner r) refl (owned_ephemeral session rs)

-- Once those before the rest were looked at: those that stay are all there, and of the others those of the rest.
pub record IsLeft (session : ℤ) (rows rest made : List Row) : Type 0 where
  pub rise : AreRows made
  pub stay : filter (stays session) made ≡ filter (stays session) rows
  pub go : filter (is_owned session) made ≡ filter (is_owned session) rest

pub all_left : (session : ℤ) (rows rest made : List Row) → AreRows rows → made ≡ rows → rest ≡ ephemeral_rows rows → IsLeft session rows rest made
all_left session rows rest made h same is = record {
  rise = subst AreRows (sym same) h;
  stay = ap (filter (stays session)) same;
  go = ap (filter (is_owned session)) same ∙ sym (ap (filter (is_owned session)) is ∙ owned_ephemeral session rows);
}

-- an item that one test lets through is found in the list
found_in_all : (session : ℤ) (path : List ℕ) (made : List Row) (r : Row) (found : Option Row) → AreRows made → row_at path made ≡ found → row_at path (filter (is_owned session) made) ≡ Some r → found ≡ Some r
found_in_all session path made r None h e is = absurd (some_is_none (sym is ∙ find-filter_absent bytes_order path_of_row (is_owned session) path made e))
found_in_all session path made r (Some s) h e is = let passes : cond (is_owned session s) (Some s) None ≡ Some r = sym (find-filter_found bytes_order path_of_row (is_owned session) path made s h e) ∙ is in one (is_owned session s) passes
  where
    one : (b : Bool) → cond b (Some s) None ≡ Some r → Some s ≡ Some r
    one true e = e
    one false e = absurd (some_is_none (sym e))

-- a znode that goes isn't among those that stay
not_staying : (session : ℤ) (made rest : List Row) (r : Row) → AreRows made → is_owned session r ≡ true → filter (is_owned session) made ≡ r ∷ rest → row_at r.path (filter (stays session) made) ≡ None
not_staying session made rest r h owned go =
    let found : row_at r.path made ≡ Some r = found_in_all session r.path made r (row_at r.path made) h refl (ap (row_at r.path) go ∙ find_head bytes_order path_of_row r rest) in
    find-filter_found bytes_order path_of_row (stays session) r.path made r h found ∙ ap (λ b. cond (not b) (Some r) None) owned

-- one that goes
pub left_out : (session : ℤ) (rows left rest made next : List Row) (r : Row) → IsLeft session rows left made → left ≡ r ∷ rest → is_owned session r ≡ true → next ≡ without_row r.path made → IsLeft session rows rest next
left_out session rows left rest made next r was steps owned e =
    let go : filter (is_owned session) made ≡ r ∷ filter (is_owned session) rest = was.go ∙ ap (filter (is_owned session)) steps ∙ ap (λ b. cond b (r ∷ filter (is_owned session) rest) (filter (is_owned session) rest)) owned in
    record {
      rise = subst AreRows (sym e) (Rises-without bytes_order path_of_row r.path made was.rise);
      stay =
          ap (filter (stays session)) e ∙ filter-without bytes_order path_of_row (stays session) r.path made was.rise
          ∙ without_absent bytes_order path_of_row r.path (filter (stays session) made) (not_staying session made (filter (is_owned session) rest) r was.rise owned go) ∙ was.stay;
      go =
          ap (filter (is_owned session)) e ∙ filter-without bytes_order path_of_row (is_owned session) r.path made was.rise ∙ ap (without_row r.path) go
          ∙ without_here bytes_order path_of_row r.path r (filter (is_owned session) rest) refl;
    }

-- and one that stays
pub left_in : (session : ℤ) (rows left rest made : List Row) (r : Row) → IsLeft session rows left made → left ≡ r ∷ rest → is_owned session r ≡ false → IsLeft session rows rest made
left_in session rows left rest made r was steps kept = record {
  rise = was.rise;
  stay = was.stay;
  go = was.go ∙ ap (filter (is_owned session)) steps ∙ ap (λ b. cond b (r ∷ filter (is_owned session) rest) (filter (is_owned session) rest)) kept;
}

all_stay : (session : ℤ) (rows : List Row) → filter (is_owned session) rows ≡ [] → filter (stays session) rows ≡ rows
all_stay session [] h = refl
all_stay session (r ∷ rs) h = one (is_owned session r) refl h (all_stay session rs)
  where
    one : (b : Bool) → is_owned session r ≡ b → cond b (r ∷ filter (is_owned session) rs) (filter (is_owned session) rs) ≡ [] → (filter (is_owned session) rs ≡ [] → filter (stays session) rs ≡ rs)
        → cond (not (is_owned session r)) (r ∷ filter (stays session) rs) (filter (stays session) rs) ≡ r ∷ rs
    one true e h rest = absurd (cc)
    one false e h rest = rw e (ap (λ (l : List Row). r ∷ l) (rest h))

-- at the end
pub none_left : (session : ℤ) (rows rest made : List Row) → IsLeft session rows rest made → rest ≡ [] → made ≡ filter (stays session) rows
none_left session rows rest made h end = sym (all_stay session made (h.go ∙ ap (filter (is_owned session)) end)) ∙ h.stay

-- ---- their parents

-- a znode that shows a change of its children where its path is this one
abbrev touched : ℤ → List ℕ → Row → Row
touched zxid path r = cond (bytes_eq path r.path) (record r { pzxid = zxid }) r

touched_path : (zxid : ℤ) (path : List ℕ) (r : Row) → (touched zxid path r).path ≡ r.path
touched_path zxid path r = either (bytes_eq path r.path)
  where
    either : (b : Bool) → (cond b (record r { pzxid = zxid }) r).path ≡ r.path
    either true = refl
    either false = refl

differs : (path other : List ℕ) (b : Bool) → bytes_eq path other ≡ b → path ≢ other → b ≡ false
differs path other true e ne = absurd (ne (bytes_eq-true path other e))
differs path other false e ne = refl

not_touched : (zxid : ℤ) (path : List ℕ) (r : Row) → path ≢ r.path → touched zxid path r ≡ r
not_touched zxid path r ne = ap (λ b. cond b (record r { pzxid = zxid }) r) (differs path r.path (bytes_eq path r.path) refl ne)

none_touched : (zxid : ℤ) (path : List ℕ) (rows : List Row) → row_at path rows ≡ None → rows ≡ map (touched zxid path) rows
none_touched zxid path [] none = refl
none_touched zxid path (r ∷ rs) none =
    let rest : path ≢ r.path → rs ≡ map (touched zxid path) rs = λ ne. none_touched zxid path rs (sym (find_skip bytes_order path_of_row path r rs ne) ∙ none) in
    elim (place bytes_order path r.path) [
      | below lt ↦ other (less_differs bytes_order path r.path lt) rest
      | equal is ↦ absurd (some_is_none (sym (find_here bytes_order path_of_row path r rs is) ∙ none))
      | above gt ↦ other (less_differs_back bytes_order path r.path gt) rest
    ]
  where
    other : path ≢ r.path → (path ≢ r.path → rs ≡ map (touched zxid path) rs) → r ∷ rs ≡ touched zxid path r ∷ map (touched zxid path) rs
    other ne rest = ap (λ (x : Row). x ∷ rs) (sym (not_touched zxid path r ne)) ∙ ap (λ (l : List Row). touched zxid path r ∷ l) (rest ne)

one_touched : (zxid : ℤ) (path : List ℕ) (rows : List Row) (s : Row) → AreRows rows → row_at path rows ≡ Some s → put_row (record s { pzxid = zxid }) rows ≡ map (touched zxid path) rows
one_touched zxid path [] s h e = absurd (some_is_none (sym e))
one_touched zxid path (r ∷ rs) s h e = elim (place bytes_order path r.path) [
  | below lt ↦ absurd (some_is_none (sym e ∙ find_below_first bytes_order path_of_row path r rs h lt))
  | equal is ↦ subst (λ (x : Row). put_row (record x { pzxid = zxid }) (r ∷ rs) ≡ map (touched zxid path) (r ∷ rs)) (same_some r s (sym (find_here bytes_order path_of_row path r rs is) ∙ e)) (here is)
  | above gt ↦ let found : row_at path rs ≡ Some s = sym (find_skip bytes_order path_of_row path r rs (less_differs_back bytes_order path r.path gt)) ∙ e in later gt found (one_touched zxid path rs s (rest_rises bytes_order path_of_row r rs h) found)
]
  where
    here : path ≡ r.path → put_row (record r { pzxid = zxid }) (r ∷ rs) ≡ map (touched zxid path) (r ∷ rs)
    here is =
        let rest : rs ≡ map (touched zxid path) rs = none_touched zxid path rs (ap (λ p. row_at p rs) is ∙ find_at_bound bytes_order path_of_row r.path rs h) in
        rw (cmp_equal bytes_order r.path r.path refl, bytes_eq-same path r.path is) (ap (λ (l : List Row). record r { pzxid = zxid } ∷ l) rest)

    later : bytes_cmp r.path path ≡ Less → row_at path rs ≡ Some s → put_row (record s { pzxid = zxid }) rs ≡ map (touched zxid path) rs → put_row (record s { pzxid = zxid }) (r ∷ rs) ≡ map (touched zxid path) (r ∷ rs)
    later gt found rest =
        let greater = ap (λ p. bytes_cmp p r.path) (key_of_found bytes_order path_of_row path rs s found) ∙ cmp_greater bytes_order path r.path gt in
        rw greater
        (ap (λ (x : Row). x ∷ put_row (record s { pzxid = zxid }) rs) (sym (not_touched zxid path r (less_differs_back bytes_order path r.path gt))) ∙ ap (λ (l : List Row). touched zxid path r ∷ l) rest)

-- the change of the one parent, as a change of each znode
child_change_is : (zxid : ℤ) (path : List ℕ) (rows : List Row) (found : Option Row) → AreRows rows → row_at path rows ≡ found → with_child_change zxid found rows ≡ map (touched zxid path) rows
child_change_is zxid path rows None h e = none_touched zxid path rows e
child_change_is zxid path rows (Some s) h e = one_touched zxid path rows s h e

same_loss : (zxid session : ℤ) (rows others : List Row) → ((path : List ℕ) → loses_child session rows path ≡ loses_child session others path) → (l : List Row) → map (after_loss zxid session rows) l ≡ map (after_loss zxid session others) l
same_loss zxid session rows others same [] = refl
same_loss zxid session rows others same (r ∷ rs) = rw (same r.path) (ap (λ (l : List Row). after_loss zxid session others r ∷ l) (same_loss zxid session rows others same rs))

-- those that are not ephemeral take no child from any znode
ephemeral_loss : (session : ℤ) (rows : List Row) (path : List ℕ) → loses_child session (ephemeral_rows rows) path ≡ loses_child session rows path
ephemeral_loss session [] path = refl
ephemeral_loss session (r ∷ rs) path = either (has_owner r) refl (ephemeral_loss session rs path)
  where
    either : (b : Bool) → has_owner r ≡ b → loses_child session (ephemeral_rows rs) path ≡ loses_child session rs path
        → loses_child session (cond b (r ∷ ephemeral_rows rs) (ephemeral_rows rs)) path ≡ ((is_owned session r && bytes_eq (parent_of r.path) path) || loses_child session rs path)
    either true e rest = ap (λ b. (is_owned session r && bytes_eq (parent_of r.path) path) || b) rest
    either false e rest = rw (no_owner session r.owner e) rest

one_more : (zxid session : ℤ) (s r : Row) (rest : List Row) → is_owned session s ≡ true → after_loss zxid session rest (touched zxid (parent_of s.path) r) ≡ after_loss zxid session (s ∷ rest) r
one_more zxid session s r rest owned = either (bytes_eq (parent_of s.path) r.path) (loses_child session rest r.path) refl refl
  where
    either : (b l : Bool) → bytes_eq (parent_of s.path) r.path ≡ b → loses_child session rest r.path ≡ l → after_loss zxid session rest (touched zxid (parent_of s.path) r) ≡ after_loss zxid session (s ∷ rest) r
    either true true e f = rw (e, f, owned) refl
    either true false e f = rw (e, f, owned) refl
    either false true e f = rw (e, f, owned) refl
    either false false e f = rw (e, f, owned) refl

all_more : (zxid session : ℤ) (s : Row) (rest : List Row) → is_owned session s ≡ true → (l : List Row) → map (after_loss zxid session rest) (map (touched zxid (parent_of s.path)) l) ≡ map (after_loss zxid session (s ∷ rest)) l
all_more zxid session s rest owned [] = refl
all_more zxid session s rest owned (r ∷ rs) =
    ap (λ (x : Row). x ∷ map (after_loss zxid session rest) (map (touched zxid (parent_of s.path)) rs)) (one_more zxid session s r rest owned) ∙ ap (λ (l : List Row). after_loss zxid session (s ∷ rest) r ∷ l) (all_more zxid session s rest owned rs)

-- Once the parents of those before the rest were touched: with the parents of the rest it is the whole change.
pub record IsTouched (zxid session : ℤ) (rows rest made : List Row) : Type 0 where
  pub rise : AreRows made
  pub whole : map (after_loss zxid session rest) made ≡ without_owned zxid session rows

pub none_is_touched : (zxid session : ℤ) (rows rest made : List Row) → AreRows made → made ≡ filter (stays session) rows → rest ≡ ephemeral_rows rows → IsTouched zxid session rows rest made
none_is_touched zxid session rows rest made h same is = record {
  rise = h;
  whole =
      ap (map (after_loss zxid session rest)) same ∙ ap (λ (l : List Row). map (after_loss zxid session l) (filter (stays session) rows)) is
      ∙ same_loss zxid session (ephemeral_rows rows) rows (ephemeral_loss session rows) (filter (stays session) rows);
}

-- the parent of one that went
pub parent_touched : (zxid session : ℤ) (rows left rest made next : List Row) (r : Row) → IsTouched zxid session rows left made → left ≡ r ∷ rest → is_owned session r ≡ true → next ≡ with_child_change zxid (row_at (parent_of r.path) made) made
    → IsTouched zxid session rows rest next
parent_touched zxid session rows left rest made next r was steps owned e =
    let is : next ≡ map (touched zxid (parent_of r.path)) made = e ∙ child_change_is zxid (parent_of r.path) made (row_at (parent_of r.path) made) was.rise refl in
    record {
      rise = subst AreRows (sym is) (Rises-map bytes_cmp path_of_row path_of_row (touched zxid (parent_of r.path)) (touched_path zxid (parent_of r.path)) made was.rise);
      whole = ap (map (after_loss zxid session rest)) is ∙ all_more zxid session r rest owned made ∙ ap (λ (l : List Row). map (after_loss zxid session l) made) (sym steps) ∙ was.whole;
    }

-- and that of one that stayed
pub parent_left : (zxid session : ℤ) (rows left rest made : List Row) (r : Row) → IsTouched zxid session rows left made → left ≡ r ∷ rest → is_owned session r ≡ false → IsTouched zxid session rows rest made
parent_left zxid session rows left rest made r was steps kept = record {
  rise = was.rise;
  whole =
      same_loss zxid session rest (r ∷ rest) (λ path. ap (λ b. (b && bytes_eq (parent_of r.path) path) || loses_child session rest path) (sym kept)) made ∙ ap (λ (l : List Row). map (after_loss zxid session l) made) (sym steps)
      ∙ was.whole;
}

-- at the end
pub all_touched : (zxid session : ℤ) (rows rest made : List Row) → IsTouched zxid session rows rest made → rest ≡ [] → made ≡ without_owned zxid session rows
all_touched zxid session rows rest made h end = sym (no_more made) ∙ ap (λ (l : List Row). map (after_loss zxid session l) made) (sym end) ∙ h.whole
  where
    no_more : (l : List Row) → map (after_loss zxid session []) l ≡ l
    no_more [] = refl
    no_more (r ∷ rs) = ap (λ (x : List Row). r ∷ x) (no_more rs)
