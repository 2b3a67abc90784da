-- Operations that lead from the migrated area to a rendering are refused by no code, one after another.
use Rattle.std.proofs.Common.{◌≡◌, ◌≢◌, ℕ, zero, suc, ◌+◌, ℤ, pos, negsuc, ◌+ℤ◌, Bool, true, false, not, ◌||◌, if◌then◌else◌, List, [], ◌∷◌, ◌++◌, Option, Some, None, option_map, is_some, All, refl, sym, ap, ◌∙◌, subst, map, take, drop, get_or}
use Rattle.std.specs.Prelude.{Result, Ok, Err, ⊤, int_le}
use Rattle.std.specs.Ordering.{int_eq}
use Rattle.std.proofs.lemmas.Bool.Decides.{Decides-int_eq}
use Rattle.std.proofs.lemmas.List.{append-nil}
use Rattle.kz_types.specs.declared.limits.TheConstants.{MAX_CHUNK, MAX_LONG}
use Rattle.kz_types.specs.declared.tree.Row.{Row}
use Rattle.kz_types.specs.declared.tree.Op.{Op}
use Rattle.kz_types.specs.declared.tree.Op.TheVariants.{Set}
use Rattle.kz_types.specs.declared.tree.Rendered.{Rendered}
use Rattle.kz_types.specs.declared.machine.Recorded.{Recorded}
use Rattle.kz_types.specs.declared.fault.TreeFault.{TreeFault}
use Rattle.kz_types.specs.declared.fault.TreeFault.TheVariants as fault
use Rattle.kz_types.specs.Paths.{base_paths, is_migrated}
use Rattle.kz_types.specs.Order.{bytes_cmp}
use Rattle.kz_types.specs.Difference.{Edit, all_edited, difference}
use Rattle.kz_types.proofs.Order.{bytes_order}
use Rattle.kz_types.proofs.Difference.{prefix_leaves_rest}
use Rattle.kz_spec_data.specs.Control.{migration_path, epoch_path, written_recorded}
use Rattle.kz_spec_data.specs.Tree.{path_of_op, Tree, row_at, fits_version, Refusal, code, limit, check_refusal, op_refusal, after_op, rows_unless_refused, after_ops, with_zxid, multi, area, path_of_rendered}
use Rattle.kz_spec_data.specs.Image.{Image}
use Rattle.kz_spec_data.specs.InOrder.{IsInOrder}
use Rattle.kz_spec_data.specs.Rendering.{render}
use Rattle.kz_spec_data.specs.Difference.{same_body, op_of, chunk_length, diff}
use Rattle.kz_spec_machine.specs.Driver.{is_last_write, record_ops, write_ops}
use Rattle.kz_spec_machine.specs.Sound.{Lasts, IsNotRoot, TreeShape, HasBases, claim_version}
use Rattle.kz_laws_machine.specs.RefusalLaws.{IsOfOperation}
use Rattle.kz_laws_machine.proofs.Rows.{op_rises}
use Rattle.kz_laws_machine.proofs.Area.{area_of, area_rises, area_changed, edit_path, path_of_edit}
use Rattle.kz_laws_machine.proofs.Each.{Keeps, all_ran}
use Rattle.kz_laws_machine.proofs.Parents.{Is, there_kept, op_parents}
use Rattle.kz_laws_machine.proofs.Lasting.{lasts_keep, not_root_keep}
use Rattle.kz_laws_machine.proofs.Multi.{counted_up, edits_keep, migration_outside}
use Rattle.kz_laws_machine.proofs.Render.{decides_body, render_rises}
use Rattle.kz_laws_machine.proofs.Refusals.{Taken, set_taken}
use Rattle.kz_laws_machine.proofs.Ready.{Ready, bases_outside}
use Rattle.kz_laws_machine.proofs.FirstEdit.{edits_from, first_inside, first_taken}

-- ---- one edit

-- paths on both sides of the border of the area differ
outside_differs : (p q : List ℕ) → is_migrated p ≡ false → is_migrated q ≡ true → p ≢ q
outside_differs p q outside inside same = let e = ap is_migrated same in cc

op_inside : (e : Edit Rendered (List ℕ)) → is_migrated (edit_path e) ≡ true → is_migrated (path_of_op (op_of e)) ≡ true
op_inside e inside = ap is_migrated (path_of_edit e) ∙ inside

still_each : (P : Row → Type 0) (sessions : List ℤ) (zxid : ℤ) (e : Edit Rendered (List ℕ)) (rows : List Row) → op_refusal sessions (op_of e) rows ≡ None → is_migrated (edit_path e) ≡ true → Keeps P sessions zxid → All P rows → All P (after_op zxid (op_of e) rows)
still_each P sessions zxid e rows pass inside keeps all = all_ran P sessions zxid (op_of e ∷ []) rows (pass, tt) (edits_keep (e ∷ []) (inside, tt)) keeps all

ready_after : (sessions : List ℤ) (zxid : ℤ) (e : Edit Rendered (List ℕ)) (rows : List Row) → op_refusal sessions (op_of e) rows ≡ None → is_migrated (edit_path e) ≡ true → Ready rows → Ready (after_op zxid (op_of e) rows)
ready_after sessions zxid e rows pass inside ready = record {
  rise = op_rises zxid (op_of e) rows ready.rise;
  not_root = still_each IsNotRoot sessions zxid e rows pass inside (not_root_keep sessions zxid) ready.not_root;
  parents = op_parents sessions zxid (op_of e) rows pass ready.rise ready.parents;
  last = still_each Lasts sessions zxid e rows pass inside (lasts_keep sessions zxid) ready.last;
  bases = λ k d within. there_kept zxid (op_of e) (get_or base_paths k d) rows (outside_differs (get_or base_paths k d) (path_of_op (op_of e)) (bases_outside k d within) (op_inside e inside)) ∙ ready.bases k d within;
}

-- the edits that are left then
edits_after : (sessions : List ℤ) (zxid : ℤ) (i : Image) (e : Edit Rendered (List ℕ)) (es : List (Edit Rendered (List ℕ))) (rows : List Row) → op_refusal sessions (op_of e) rows ≡ None → is_migrated (edit_path e) ≡ true → Ready rows
    → edits_from rows i ≡ e ∷ es → edits_from (after_op zxid (op_of e) rows) i ≡ es
edits_after sessions zxid i e es rows pass inside ready is =
    ap (λ have. difference bytes_cmp path_of_rendered same_body have (render i)) (area_changed sessions zxid e rows ready.rise inside pass)
    ∙ ap (λ all. difference bytes_cmp path_of_rendered same_body (all_edited bytes_cmp path_of_rendered (take 1 all) (area_of rows)) (render i)) (sym is)
    ∙ prefix_leaves_rest bytes_order path_of_rendered same_body decides_body 1 (area_of rows) (render i) (area_rises rows ready.rise) (render_rises i)
    ∙ ap (drop 1) is

-- ---- all edits, and what follows them

-- These operations may follow edits: what they rest on is kept by each operation of the area, and they are refused by no code.
record Follow (sessions : List ℤ) (zxid : ℤ) (rest : List Op) (K : List Row → Type 0) : Type 0 where
  keeps : (o : Op) (rows : List Row) → is_migrated (path_of_op o) ≡ true → K rows → K (after_op zxid o rows)
  taken : (at index : ℕ) (c : ℤ) (rows : List Row) → K rows → after_ops sessions zxid at rest rows ≢ Err (fault.Refused index c)

one_taken : (at index : ℕ) (c : ℤ) (m : Option Refusal) (rest : Result (List Row) TreeFault) → Taken m → (m ≡ None → rest ≢ Err (fault.Refused index c)) → rows_unless_refused at m rest ≢ Err (fault.Refused index c)
one_taken at index c None rest taken later = later refl
one_taken at index c (Some (code x)) rest taken later = absurd taken
one_taken at index c (Some (limit n)) rest taken later = λ is. cc

edits_taken : (sessions : List ℤ) (zxid : ℤ) (i : Image) (rest : List Op) (K : List Row → Type 0) → IsInOrder i → Follow sessions zxid rest K → (n : ℕ) (es : List (Edit Rendered (List ℕ))) (rows : List Row) → Ready rows → K rows → edits_from rows i ≡ es
    → (at index : ℕ) (c : ℤ) → after_ops sessions zxid at (take n (map op_of es) ++ rest) rows ≢ Err (fault.Refused index c)
edits_taken sessions zxid i rest K order follow zero es rows ready kept is at index c = follow.taken at index c rows kept
edits_taken sessions zxid i rest K order follow (suc n) [] rows ready kept is at index c = follow.taken at index c rows kept
edits_taken sessions zxid i rest K order follow (suc n) (e ∷ es) rows ready kept is at index c =
    let inside = first_inside rows i e es is in
    one_taken at index c (op_refusal sessions (op_of e) rows) (after_ops sessions zxid (at + 1) (take n (map op_of es) ++ rest) (after_op zxid (op_of e) rows)) (first_taken sessions rows i e es order ready is)
    (λ pass. edits_taken sessions zxid i rest K order follow n es (after_op zxid (op_of e) rows) (ready_after sessions zxid e rows pass inside ready) (follow.keeps (op_of e) rows (op_inside e inside) kept)
    (edits_after sessions zxid i e es rows pass inside ready is) (at + 1) index c)

-- ---- multis

tree_ready : (t : Tree) → TreeShape t → HasBases t → Ready t.rows
tree_ready t shape bases = record { rise = shape.rise; not_root = shape.not_root; parents = shape.parents; last = shape.last; bases = bases }

counted_taken : (t : Tree) (index : ℕ) (c : ℤ) (rows : List Row) (full : Bool) → counted_up t rows full ≢ Err (fault.Refused index c)
counted_taken t index c rows true is = cc
counted_taken t index c rows false is = cc

same_fault : (e : TreeFault) (index : ℕ) (c : ℤ) → ◌≡◌ {A = Result Tree TreeFault} (Err e) (Err (fault.Refused index c)) → ◌≡◌ {A = Result (List Row) TreeFault} (Err e) (Err (fault.Refused index c))
same_fault e index c is = let same : e ≡ fault.Refused index c = cc in ap (λ f. Err f) same

with_zxid_taken : (t : Tree) (index : ℕ) (c : ℤ) (r : Result (List Row) TreeFault) → r ≢ Err (fault.Refused index c) → with_zxid t r ≢ Err (fault.Refused index c)
with_zxid_taken t index c (Err e) taken is = taken (same_fault e index c is)
with_zxid_taken t index c (Ok rows) taken is = counted_taken t index c rows (int_le MAX_LONG t.zxid) is

multi_taken : (t : Tree) (ops : List Op) (index : ℕ) (c : ℤ) → after_ops t.sessions (t.zxid +ℤ pos 1) 0 ops t.rows ≢ Err (fault.Refused index c) → multi t ops ≢ Err (fault.Refused index c)
unfolding multi
multi_taken t ops index c taken = with_zxid_taken t index c (after_ops t.sessions (t.zxid +ℤ pos 1) 0 ops t.rows) taken

nothing_follows : (sessions : List ℤ) (zxid : ℤ) → Follow sessions zxid [] (λ rows. ⊤)
nothing_follows sessions zxid = record { keeps = λ o rows inside kept. tt; taken = λ at index c rows kept is. cc }

pub difference_taken : (t : Tree) (i : Image) (n index : ℕ) (c : ℤ) → TreeShape t → HasBases t → IsInOrder i → multi t (take n (diff (area t) (render i))) ≢ Err (fault.Refused index c)
unfolding diff
difference_taken t i n index c shape bases order =
    let zxid = t.zxid +ℤ pos 1 in
    let ops = map op_of (edits_from t.rows i) in
    multi_taken t (take n ops) index c
    (subst (λ os. after_ops t.sessions zxid 0 os t.rows ≢ Err (fault.Refused index c)) (append-nil (take n ops))
    (edits_taken t.sessions zxid i [] (λ rows. ⊤) order (nothing_follows t.sessions zxid) n (edits_from t.rows i) t.rows (tree_ready t shape bases) tt refl 0 index c))

-- ---- writes

set_follows : (sessions : List ℤ) (zxid : ℤ) (b : Bool) (target : Recorded) → Follow sessions zxid (record_ops b target) (Is migration_path)
set_follows sessions zxid true target = record {
  keeps = λ o rows inside kept. there_kept zxid o migration_path rows (outside_differs migration_path (path_of_op o) migration_outside inside) ∙ kept;
  taken = λ at index c rows kept. one_taken at index c (op_refusal sessions (Set migration_path (written_recorded target) (negsuc 0)) rows) _ (set_taken (written_recorded target) (row_at migration_path rows) kept) (λ pass is. cc);
}
set_follows sessions zxid false target = record {
  keeps = λ o rows inside kept. there_kept zxid o migration_path rows (outside_differs migration_path (path_of_op o) migration_outside inside) ∙ kept;
  taken = λ at index c rows kept is. cc;
}

same_version : (claim : ℤ) (r : Row) → r.version ≡ claim → fits_version claim r ≡ true
same_version claim r is = or_true (int_eq claim (negsuc 0)) (int_eq claim r.version) ((Decides-int_eq claim r.version).1 (sym is))
  where
    or_true : (a b : Bool) → b ≡ true → (a || b) ≡ true
    or_true true b e = refl
    or_true false b e = e

check_taken : (claim : ℤ) (m : Option Row) → option_map (λ (r : Row). r.version) m ≡ Some claim → Taken (check_refusal claim m)
check_taken claim None is = absurd (cc)
check_taken claim (Some r) is = passes (fits_version claim r) (same_version claim r (cc))
  where
    passes : (b : Bool) → b ≡ true → Taken (if not b then Some (code (negsuc 102)) else None)
    passes true e = tt
    passes false e = absurd (cc)

pub write_taken : (t : Tree) (i : Image) (claim : ℤ) (target : Recorded) (index : ℕ) (c : ℤ) → TreeShape t → HasBases t → IsInOrder i → claim_version t ≡ Some claim → is_some (row_at migration_path t.rows) ≡ true
    → multi t (write_ops claim (diff (area t) (render i)) target) ≢ Err (fault.Refused index c)
unfolding diff
write_taken t i claim target index c shape bases order current there =
    let zxid = t.zxid +ℤ pos 1 in
    let ops = map op_of (edits_from t.rows i) in
    multi_taken t (write_ops claim ops target) index c
    (one_taken 0 index c (check_refusal claim (row_at epoch_path t.rows)) (after_ops t.sessions zxid 1 (take (chunk_length MAX_CHUNK ops) ops ++ record_ops (is_last_write ops) target) t.rows) (check_taken claim (row_at epoch_path t.rows) current)
    (λ pass. edits_taken t.sessions zxid i (record_ops (is_last_write ops) target) (Is migration_path) order (set_follows t.sessions zxid (is_last_write ops) target) (chunk_length MAX_CHUNK ops) (edits_from t.rows i) t.rows (tree_ready t shape bases) there refl 1 index c))

-- ---- faults

same_error : {A : Type 0} (e f : TreeFault) → ◌≡◌ {A = Result A TreeFault} (Err e) (Err f) → e ≡ f
same_error e f is = cc

refused_fails : (index : ℕ) (m : Option Refusal) (rest : Result (List Row) TreeFault) (f : TreeFault) → rows_unless_refused index m rest ≡ Err f → (rest ≡ Err f → IsOfOperation f) → IsOfOperation f
refused_fails index None rest f is later = later is
refused_fails index (Some (code c)) rest f is later = subst IsOfOperation (same_error (fault.Refused index c) f is) tt
refused_fails index (Some (limit n)) rest f is later = subst IsOfOperation (same_error (fault.Limit index n) f is) tt

ops_fail : (sessions : List ℤ) (zxid : ℤ) (index : ℕ) (os : List Op) (rows : List Row) (f : TreeFault) → after_ops sessions zxid index os rows ≡ Err f → IsOfOperation f
ops_fail sessions zxid index [] rows f is = absurd (cc)
ops_fail sessions zxid index (o ∷ os) rows f is =
    refused_fails index (op_refusal sessions o rows) (after_ops sessions zxid (index + 1) os (after_op zxid o rows)) f is (ops_fail sessions zxid (index + 1) os (after_op zxid o rows) f)

counted_fails : (t : Tree) (rows : List Row) (full : Bool) (f : TreeFault) → counted_up t rows full ≡ Err f → IsOfOperation f
counted_fails t rows true f is = subst IsOfOperation (same_error (fault.Limit 0 17) f is) tt
counted_fails t rows false f is = absurd (cc)

with_zxid_fails : (t : Tree) (r : Result (List Row) TreeFault) (f : TreeFault) → with_zxid t r ≡ Err f → ((e : TreeFault) → r ≡ Err e → IsOfOperation e) → IsOfOperation f
with_zxid_fails t (Err e) f is fails = subst IsOfOperation (same_error e f is) (fails e refl)
with_zxid_fails t (Ok rows) f is fails = counted_fails t rows (int_le MAX_LONG t.zxid) f is

pub multi_fails : (t : Tree) (ops : List Op) (f : TreeFault) → multi t ops ≡ Err f → IsOfOperation f
unfolding multi
multi_fails t ops f is = with_zxid_fails t (after_ops t.sessions (t.zxid +ℤ pos 1) 0 ops t.rows) f is (ops_fail t.sessions (t.zxid +ℤ pos 1) 0 ops t.rows)
