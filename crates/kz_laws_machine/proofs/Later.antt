-- A write that isn't the last leaves the tree unclosed.
use Rattle.std.proofs.Common.{◌≡◌, ◌≢◌, ◌⊎◌, ℕ, zero, suc, ℤ, pos, negsuc, ◌+ℤ◌, ◌≤ℤ◌, ◌<ℤ◌, int_lt, Bool, true, false, ◌||◌, if◌then◌else◌, cond, List, [], ◌∷◌, ◌++◌, Option, Some, None, option_map, is_some, Contains, All, refl, sym, ap, ◌∙◌, subst, inl, inr, map, filter, take, arith, append-nil}
use Rattle.std.specs.Prelude.{Ok}
use Rattle.std.proofs.lemmas.Int.{ints}
use Rattle.std.proofs.lemmas.List.{map-append}
use Rattle.std.proofs.lemmas.List.Elements.{All-nil, All-cons, All-contains, All-take, Contains-append_right}
use Rattle.kz_types.specs.declared.limits.TheConstants.{MAX_CHUNK}
use Rattle.kz_types.specs.declared.tree.Row.{Row}
use Rattle.kz_types.specs.declared.tree.Op.{Op}
use Rattle.kz_types.specs.declared.tree.Op.TheVariants.{Create, Set, Delete}
use Rattle.kz_types.specs.declared.tree.Rendered.{Rendered}
use Rattle.kz_types.specs.declared.machine.Recorded.{Recorded}
use Rattle.kz_types.specs.Paths.{is_migrated}
use Rattle.kz_types.specs.Order.{bytes_cmp}
use Rattle.kz_types.specs.Ordered.{Rises}
use Rattle.kz_types.specs.Difference.{Edit, drop_key, make, alter}
use Rattle.kz_types.specs.Edits.{IsDue}
use Rattle.kz_types.proofs.Order.{bytes_order}
use Rattle.kz_types.proofs.Edits.{each_is_due}
use Rattle.kz_types.proofs.Lookup.{found_is_contained, key_of_found, find-put_same, find-without_other, Contains-head}
use Rattle.kz_types.proofs.Maps.{find-filter_found}
use Rattle.kz_spec_data.specs.Control.{migration_path, recorded_of}
use Rattle.kz_spec_data.specs.Tree.{Tree, path_of_row, row_at, put_row, without_row, parent_of, is_root, delete_refusal, set_refusal, op_refusal, created_row, set_row, with_child_change, after_op, multi, migrated_rows, area, has_offset, is_later, first_path, unclosed_below, unclosed_path, path_of_rendered}
use Rattle.kz_spec_data.specs.Image.{Image}
use Rattle.kz_spec_data.specs.Rendering.{render}
use Rattle.kz_spec_data.specs.Difference.{same_body, op_of, keeps_bytes, chunk_length, diff, chunk}
use Rattle.kz_spec_machine.specs.Driver.{is_last_write, record_ops, write_ops}
use Rattle.kz_spec_machine.specs.Sound.{IsStamped, HaveParents, TreeShape}
use Rattle.kz_laws_machine.proofs.Rows.{still, created_found, set_found}
use Rattle.kz_laws_machine.proofs.Area.{edit_path, area_rises}
use Rattle.kz_laws_machine.proofs.Runs.{ran, Passes, ran_append, passes_left, passes_right, ran_keeps, Avoids, Inside, inside_take}
use Rattle.kz_laws_machine.proofs.Parents.{Is, found_some, ran_parents}
use Rattle.kz_laws_machine.proofs.Below.{parent_migrated, rendered_roots, parent_differs, not_empty}
use Rattle.kz_laws_machine.proofs.Render.{render_rises}
use Rattle.kz_laws_machine.proofs.Multi.{Ran, multi_ran, edits_to, edits_inside, chunk_size, chunk_is, chunk_avoids, migration_outside}

-- A znode of the area was written, or its children were, in this transaction.
record Touched (zxid : ℤ) (rows : List Row) : Type 0 where
  row : Row
  there : row_at row.path rows ≡ Some row
  inside : is_migrated row.path ≡ true
  now : (row.mzxid ≡ zxid) ⊎ (row.pzxid ≡ zxid)

touched_at : (zxid : ℤ) (path : List ℕ) (rows : List Row) (r : Row) → row_at path rows ≡ Some r → r.path ≡ path → is_migrated path ≡ true → (r.mzxid ≡ zxid) ⊎ (r.pzxid ≡ zxid) → Touched zxid rows
touched_at zxid path rows r is key inside now = record { row = r; there = ap (λ q. row_at q rows) key ∙ is; inside = ap is_migrated key ∙ inside; now = now }

was_there : (body path : List ℕ) (version : ℤ) (rows : List Row) (m : Option Row) → row_at path rows ≡ m → set_refusal body version m ≡ None → (r : Row) × (row_at path rows ≡ Some r)
was_there body path version rows None is pass = absurd (cc)
was_there body path version rows (Some r) is pass = (r, is)

delete_there : (path : List ℕ) (version : ℤ) (rows all : List Row) (m : Option Row) → row_at path rows ≡ m → delete_refusal path version all m ≡ None → Is path rows
delete_there path version rows all None is pass = absurd (cc)
delete_there path version rows all (Some r) is pass = ap is_some is

parent_there : (root there : Bool) → (root || there) ≡ true → root ≡ false → there ≡ true
parent_there true there is none = absurd (cc)
parent_there false there is none = is

-- the last edit touches a znode of the area
edit_touches : (sessions : List ℤ) (zxid : ℤ) (e : Edit Rendered (List ℕ)) (rows : List Row) → HaveParents rows → is_migrated (edit_path e) ≡ true → ((p : List ℕ) → e ≡ drop_key p → is_migrated (parent_of p) ≡ true) → op_refusal sessions (op_of e) rows ≡ None
    → Touched zxid (after_op zxid (op_of e) rows)
edit_touches sessions zxid (make r) rows have inside up pass =
    touched_at zxid r.path (after_op zxid (Create r.path r.body None) rows) (created_row zxid r.path r.body None) (created_found zxid r.path r.body None rows) refl inside (inl refl)
edit_touches sessions zxid (alter r) rows have inside up pass =
    let old = was_there r.body r.path (negsuc 0) rows (row_at r.path rows) refl pass in
    touched_at zxid r.path (after_op zxid (Set r.path r.body (negsuc 0)) rows) (set_row zxid r.body old.0) (set_found zxid r.path r.body (negsuc 0) rows old.0 old.1)
    (key_of_found bytes_order path_of_row r.path rows old.0 old.1) inside (inl refl)
edit_touches sessions zxid (drop_key p) rows have inside up pass =
    let q = parent_of p in
    let inside-up = up p refl in
    let there = parent_there (is_root q) (is_some (row_at q rows)) (have p (delete_there p (negsuc 0) rows rows (row_at p rows) refl pass)) (not_empty q inside-up) in
    let old = found_some q rows (row_at q rows) refl there in
    let key : old.0.path ≡ q = key_of_found bytes_order path_of_row q rows old.0 old.1 in
    let new : Row = record old.0 { pzxid = zxid } in
    let found : row_at q (after_op zxid (Delete p (negsuc 0)) rows) ≡ Some new =
    ap (λ m. row_at q (without_row p (with_child_change zxid m rows))) old.1
    ∙ find-without_other bytes_order path_of_row p (put_row new rows) q (parent_differs p inside)
    ∙ ap (λ x. row_at x (put_row new rows)) (sym key) ∙ find-put_same bytes_order path_of_row new rows in
    touched_at zxid q (after_op zxid (Delete p (negsuc 0)) rows) new found key inside-up (inr refl)

-- ---- some znode is later than what is recorded

later_test : (zxid : ℤ) (r : Row) (new : ℤ) → zxid <ℤ new → (r.mzxid ≡ new) ⊎ (r.pzxid ≡ new) → is_later zxid r ≡ true
later_test zxid r new less (inl is) = ap (λ b. b || int_lt zxid r.pzxid) (less_than zxid r.mzxid new less is)
  where
    less_than : (a b c : ℤ) → a <ℤ c → b ≡ c → int_lt a b ≡ true
    less_than a b c less is = grind (arith, ints)
later_test zxid r new less (inr is) = or_true (int_lt zxid r.mzxid) (int_lt zxid r.pzxid) (less_than zxid r.pzxid new less is)
  where
    less_than : (a b c : ℤ) → a <ℤ c → b ≡ c → int_lt a b ≡ true
    less_than a b c less is = grind (arith, ints)

    or_true : (p q : Bool) → q ≡ true → (p || q) ≡ true
    or_true true q is = refl
    or_true false q is = is

filtered : (p : Row → Bool) (x : Row) (b : Bool) (xs : List Row) → p x ≡ b → filter p (x ∷ xs) ≡ [] → (p x ≡ false) × (filter p xs ≡ [])
filtered p x true xs test none = absurd (let kept = ap (λ c. cond c (x ∷ filter p xs) (filter p xs)) test in cc)
filtered p x false xs test none = (test, sym (ap (λ c. cond c (x ∷ filter p xs) (filter p xs)) test) ∙ none)

nothing_passes : (p : Row → Bool) (xs : List Row) → filter p xs ≡ [] → All (λ x. p x ≡ false) xs
nothing_passes p [] none = All-nil (λ x. p x ≡ false)
nothing_passes p (x ∷ xs) none = let both = filtered p x (p x) xs refl none in All-cons (λ y. p y ≡ false) x xs both.0 (nothing_passes p xs both.1)

in_area : (rows : List Row) (path : List ℕ) (r : Row) → Rises bytes_cmp path_of_row rows → row_at path rows ≡ Some r → is_migrated r.path ≡ true → Contains (filter (λ (x : Row). is_migrated x.path) rows) r
in_area rows path r rise found inside =
    let test : Row → Bool = λ (x : Row). is_migrated x.path in
    found_is_contained bytes_order path_of_row path (filter test rows) r (find-filter_found bytes_order path_of_row test path rows r rise found ∙ ap (λ b. cond b (Some r) None) inside)

not_closed : (rows : List Row) (zxid new : ℤ) → Rises bytes_cmp path_of_row rows → Touched new rows → zxid <ℤ new → filter (is_later zxid) (filter (λ (x : Row). is_migrated x.path) rows) ≡ [] → ⊥
not_closed rows zxid new rise touch less none =
    let area-rows = filter (λ (x : Row). is_migrated x.path) rows in
    let not_later = All-contains (λ x. is_later zxid x ≡ false) area-rows touch.row (nothing_passes (is_later zxid) area-rows none) (in_area rows touch.row.path touch.row rise touch.there touch.inside) in
    let is = later_test zxid touch.row new less touch.now in
    cc

-- what a closed tree records
pub record Closed (t : Tree) : Type 0 where
  pub row : Row
  pub found : row_at migration_path t.rows ≡ Some row
  pub offset : has_offset (recorded_of row.body) ≡ true
  pub none : filter (is_later row.mzxid) (migrated_rows t) ≡ []

no_first : (xs : List Row) → first_path xs ≡ None → xs ≡ []
no_first [] is = refl
no_first (x ∷ xs) is = absurd (cc)

closed_parts : (t : Tree) (m : Row) (b : Bool) → has_offset (recorded_of m.body) ≡ b → row_at migration_path t.rows ≡ Some m
    → (if b then first_path (filter (is_later m.mzxid) (migrated_rows t)) else Some migration_path) ≡ None → Closed t
closed_parts t m true offset found is = record { row = m; found = found; offset = offset; none = no_first (filter (is_later m.mzxid) (migrated_rows t)) is }
closed_parts t m false offset found is = absurd (cc)

closed_by : (t : Tree) (m : Option Row) → row_at migration_path t.rows ≡ m → unclosed_below m (migrated_rows t) ≡ None → Closed t
closed_by t None found is = absurd (cc)
closed_by t (Some m) found is = closed_parts t m (has_offset (recorded_of m.body)) refl found is

pub closed_is : (t : Tree) → unclosed_path t ≡ None → Closed t
closed_is t is = closed_by t (row_at migration_path t.rows) refl is

-- ---- the last edit of a write that isn't the last

record EndsWith (es : List (Edit Rendered (List ℕ))) : Type 0 where
  front : List (Edit Rendered (List ℕ))
  last : Edit Rendered (List ℕ)
  whole : es ≡ front ++ last ∷ []

end_of_edits : (e : Edit Rendered (List ℕ)) (es : List (Edit Rendered (List ℕ))) → EndsWith (e ∷ es)
end_of_edits e [] = record { front = []; last = e; whole = refl }
end_of_edits e (f ∷ es) = let rest = end_of_edits f es in record { front = e ∷ rest.front; last = rest.last; whole = ap (λ l. e ∷ l) rest.whole }

chosen_length : (n : ℕ) (ops : List Op) (b : Bool) → (m : ℕ) × (chunk_length (suc n) ops ≡ suc m) → (m : ℕ) × ((if b then suc (suc n) else chunk_length (suc n) ops) ≡ suc m)
chosen_length n ops true fewer = (suc n, refl)
chosen_length n ops false fewer = fewer

-- a write has an operation, where there is one
some_chunk : (n : ℕ) (ops : List Op) → (m : ℕ) × (chunk_length (suc n) ops ≡ suc m)
some_chunk zero ops = (0, refl)
some_chunk (suc n) ops = chosen_length n ops (keeps_bytes (suc (suc n)) ops) (some_chunk n ops)

has_last : (ds : List (Edit Rendered (List ℕ))) → is_last_write (map op_of ds) ≡ false → EndsWith (take (chunk_length MAX_CHUNK (map op_of ds)) ds)
has_last [] more = absurd (cc)
has_last (d ∷ ds) more = let s = some_chunk 63 (map op_of (d ∷ ds)) in subst (λ (n : ℕ). EndsWith (take n (d ∷ ds))) (sym s.1) (end_of_edits d (take s.0 ds))

inside_last : (front : List (Edit Rendered (List ℕ))) (e : Edit Rendered (List ℕ)) → Inside (front ++ e ∷ []) → is_migrated (edit_path e) ≡ true
inside_last [] e inside = inside.0
inside_last (f ∷ front) e inside = inside_last front e inside.1

end_is : (t : Tree) (i : Image) → is_last_write (diff (area t) (render i)) ≡ false → EndsWith (take (chunk_size t i) (edits_to t (render i)))
unfolding diff
end_is t i more = has_last (edits_to t (render i)) more

pub nothing_more : (b : Bool) (target : Recorded) (ops : List Op) → b ≡ false → ops ++ record_ops b target ≡ ops
nothing_more true target ops is = absurd (cc)
nothing_more false target ops is = append-nil ops

-- an edit that drops a path drops one whose parent is in the area
drop_up : (t : Tree) (i : Image) (e : Edit Rendered (List ℕ)) (p : List ℕ) → is_migrated (edit_path e) ≡ true → IsDue bytes_cmp path_of_rendered same_body (area t) (render i) e → e ≡ drop_key p → is_migrated (parent_of p) ≡ true
drop_up t i (drop_key q) p inside due is = let same_path : q ≡ p = cc in subst (λ x. is_migrated (parent_of x) ≡ true) same_path (parent_migrated q inside (rendered_roots i q due.2))
drop_up t i (make r) p inside due is = absurd (cc)
drop_up t i (alter r) p inside due is = absurd (cc)

write_touches : (t new : Tree) (i : Image) (claim : ℤ) (target : Recorded) → TreeShape t → is_last_write (diff (area t) (render i)) ≡ false → Ran t new (write_ops claim (diff (area t) (render i)) target) → Touched (t.zxid +ℤ pos 1) new.rows
write_touches t new i claim target shape more m =
    let zxid = t.zxid +ℤ pos 1 in
    let ds = edits_to t (render i) in
    let end = end_is t i more in
    let front = map op_of end.front in
    let ops : chunk (diff (area t) (render i)) ++ record_ops (is_last_write (diff (area t) (render i))) target ≡ front ++ op_of end.last ∷ [] =
    nothing_more (is_last_write (diff (area t) (render i))) target (chunk (diff (area t) (render i))) more ∙ chunk_is t i ∙ ap (map op_of) end.whole ∙ map-append op_of end.front (end.last ∷ []) in
    let rows : new.rows ≡ after_op zxid (op_of end.last) (ran zxid front t.rows) = m.rows ∙ ap (λ os. ran zxid os t.rows) ops ∙ ran_append zxid front (op_of end.last ∷ []) t.rows in
    let passes : Passes t.sessions zxid (front ++ op_of end.last ∷ []) t.rows = subst (λ os. Passes t.sessions zxid os t.rows) ops m.passes.1 in
    let parents = ran_parents t.sessions zxid front t.rows (passes_left t.sessions zxid front (op_of end.last ∷ []) t.rows passes) shape.rise shape.parents in
    let inside = inside_last end.front end.last (subst Inside end.whole (inside_take (chunk_size t i) ds (edits_inside t i))) in
    let IsDueHere : Edit Rendered (List ℕ) → Type 0 = IsDue bytes_cmp path_of_rendered same_body (area t) (render i) in
    let due = All-contains IsDueHere (end.front ++ end.last ∷ []) end.last
    (subst (All IsDueHere) end.whole (All-take IsDueHere (chunk_size t i) ds (each_is_due bytes_order path_of_rendered same_body (area t) (render i) (area_rises t.rows shape.rise) (render_rises i))))
    (Contains-append_right end.front (end.last ∷ []) end.last (Contains-head end.last [])) in
    subst (Touched zxid) (sym rows) (edit_touches t.sessions zxid end.last (ran zxid front t.rows) parents inside (λ p is. drop_up t i end.last p inside due is)
    (passes_right t.sessions zxid front (op_of end.last ∷ []) t.rows passes).0)

-- what differs in the transaction of its children alone
pub same_alike : (m : Row) (old : Option Row) (rows : List Row) → row_at migration_path rows ≡ old → option_map still (Some m) ≡ option_map still old → (r : Row) × (row_at migration_path rows ≡ Some r) × (m.mzxid ≡ r.mzxid) × (m.body ≡ r.body)
same_alike m None rows is alike = absurd (cc)
same_alike m (Some r) rows is alike = let e : still m ≡ still r = cc in (r, is, ap (λ (x : Row). x.mzxid) e, ap (λ (x : Row). x.body) e)

pub not_last_unclosed : (t new : Tree) (i : Image) (claim : ℤ) (target : Recorded) → TreeShape t → TreeShape new → is_last_write (diff (area t) (render i)) ≡ false → multi t (write_ops claim (diff (area t) (render i)) target) ≡ Ok new → unclosed_path new ≢ None
not_last_unclosed t new i claim target shape after more is closed =
    let m = multi_ran t new (write_ops claim (diff (area t) (render i)) target) is in
    let c = closed_is new closed in
    let ops = chunk (diff (area t) (render i)) ++ record_ops (is_last_write (diff (area t) (render i))) target in
    let avoids : Avoids migration_path ops = subst (Avoids migration_path) (sym (nothing_more (is_last_write (diff (area t) (render i))) target (chunk (diff (area t) (render i))) more)) (chunk_avoids t i migration_path migration_outside) in
    let alike : option_map still (Some c.row) ≡ option_map still (row_at migration_path t.rows) =
    ap (option_map still) (sym c.found) ∙ ap (λ rows. option_map still (row_at migration_path rows)) m.rows ∙ ran_keeps (t.zxid +ℤ pos 1) migration_path ops t.rows avoids in
    let old = same_alike c.row (row_at migration_path t.rows) t.rows refl alike in
    let stamp = (All-contains (IsStamped t.zxid) t.rows old.0 shape.stamped (found_is_contained bytes_order path_of_row migration_path t.rows old.0 old.1)).modified in
    not_closed new.rows c.row.mzxid (t.zxid +ℤ pos 1) after.rise (write_touches t new i claim target shape more m) (before c.row.mzxid old.0.mzxid t.zxid old.2 stamp) c.none
  where
    before : (a b z : ℤ) → a ≡ b → b ≤ℤ z → a <ℤ (z +ℤ pos 1)
    before a b z same_number low = omega (arith, ints)
