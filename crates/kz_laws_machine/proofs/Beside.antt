-- A claim beside the migrated area: what is recorded then, and a closed tree stays one.
use Rattle.std.proofs.Common.{◌≡◌, ◌≢◌, ℕ, ℤ, pos, negsuc, ◌+ℤ◌, Bool, true, false, cond, List, [], ◌∷◌, ◌++◌, Option, Some, None, option_map, refl, sym, ap, ◌∙◌, subst, filter}
use Rattle.std.specs.Prelude.{Ok, ⊤, option_and_then}
use Rattle.kz_types.specs.declared.tree.Row.{Row}
use Rattle.kz_types.specs.declared.tree.Op.{Op}
use Rattle.kz_types.specs.declared.tree.Op.TheVariants.{Create, Set, Delete, Check}
use Rattle.kz_types.specs.declared.driver.ClaimSeen.{ClaimSeen}
use Rattle.kz_types.specs.declared.machine.Recorded.{Recorded}
use Rattle.kz_types.specs.Paths.{is_migrated, roots, base_paths}
use Rattle.kz_types.specs.Order.{bytes_cmp}
use Rattle.kz_types.specs.Ordered.{find, Rises}
use Rattle.kz_types.proofs.Order.{bytes_order}
use Rattle.kz_types.proofs.Lookup.{find-put_other, find-without_other, key_of_found, same_items}
use Rattle.kz_types.proofs.Maps.{Rises-filter, find-filter_absent, find-filter_found}
use Rattle.kz_spec_data.specs.Control.{control_path, epoch_path, migration_path, recorded_of, written_control, written_recorded}
use Rattle.kz_spec_data.specs.Tree.{path_of_op, Tree, path_of_row, row_at, parent_of, with_child_change, after_set, set_row, created_row, after_op, set_refusal, multi, migrated_rows, area, migration_record, unclosed_below, unclosed_path}
use Rattle.kz_spec_data.specs.Image.{Image}
use Rattle.kz_spec_data.specs.Rendering.{render}
use Rattle.kz_spec_data.specs.Difference.{diff, chunk}
use Rattle.kz_spec_machine.specs.Driver.{Driver, epoch_or_zero, views_migrated, epoch_op, control_ops, migration_ops, base_op, base_ops, record_before_offsets, claim_ops, is_last_write, record_ops, write_ops}
use Rattle.kz_spec_machine.specs.Sound.{TreeShape}
use Rattle.kz_laws_machine.specs.TreeLaws.{Left}
use Rattle.kz_laws_machine.proofs.Rows.{still, op_rises, set_found, created_found}
use Rattle.kz_laws_machine.proofs.Area.{area_of}
use Rattle.kz_laws_machine.proofs.Runs.{ran, Passes, passes_left, passes_right, ran_append, ran_keeps, Avoids, avoids_append, Outside, area_ran_left}
use Rattle.kz_laws_machine.proofs.Multi.{Ran, multi_ran, differ, chunk_avoids, migration_outside}
use Rattle.kz_laws_machine.proofs.Later.{nothing_more}
use Rattle.kz_laws_machine.proofs.Claim.{Others, base_avoids, control_avoids_path, epoch_avoids}

-- ---- znodes that stay whole

touched_far : (zxid : ℤ) (p q : List ℕ) (rows : List Row) (m : Option Row) → row_at q rows ≡ m → p ≢ q → row_at p (with_child_change zxid m rows) ≡ row_at p rows
touched_far zxid p q rows None is far = refl
touched_far zxid p q rows (Some r) is far =
    find-put_other bytes_order path_of_row (record r { pzxid = zxid }) rows p (λ e. far (e ∙ key_of_found bytes_order path_of_row q rows r is))

set_far : (zxid : ℤ) (p q body : List ℕ) (rows : List Row) (m : Option Row) → row_at q rows ≡ m → p ≢ q → row_at p (after_set zxid body m rows) ≡ row_at p rows
set_far zxid p q body rows None is far = refl
set_far zxid p q body rows (Some r) is far = find-put_other bytes_order path_of_row (set_row zxid body r) rows p (λ e. far (e ∙ key_of_found bytes_order path_of_row q rows r is))

-- a path that is neither the operation's nor its parent's
far_kept : (zxid : ℤ) (o : Op) (p : List ℕ) (rows : List Row) → p ≢ path_of_op o → p ≢ parent_of (path_of_op o) → row_at p (after_op zxid o rows) ≡ row_at p rows
far_kept zxid (Create path body owner) p rows far up =
    find-put_other bytes_order path_of_row (created_row zxid path body owner) (with_child_change zxid (row_at (parent_of path) rows) rows) p far ∙ touched_far zxid p (parent_of path) rows (row_at (parent_of path) rows) refl up
far_kept zxid (Set path body version) p rows far up = set_far zxid p path body rows (row_at path rows) refl far
far_kept zxid (Delete path version) p rows far up =
    find-without_other bytes_order path_of_row path (with_child_change zxid (row_at (parent_of path) rows) rows) p far ∙ touched_far zxid p (parent_of path) rows (row_at (parent_of path) rows) refl up
far_kept zxid (Check path version) p rows far up = refl

abbrev in_area : Row → Bool
in_area r = is_migrated r.path

abbrev find_row : List ℕ → List Row → Option Row
find_row p rows = find bytes_cmp path_of_row p rows

abbrev nothing_there : Option Row
nothing_there = None

neither : (b : Bool) → nothing_there ≡ cond b nothing_there nothing_there
neither true = refl
neither false = refl

kept_by : (p : List ℕ) (rows : List Row) (m : Option Row) → Rises bytes_cmp path_of_row rows → row_at p rows ≡ m → find_row p (filter in_area rows) ≡ cond (is_migrated p) m None
kept_by p rows None rise is = find-filter_absent bytes_order path_of_row in_area p rows is ∙ neither (is_migrated p)
kept_by p rows (Some r) rise is = find-filter_found bytes_order path_of_row in_area p rows r rise is ∙ ap (λ q. cond (is_migrated q) (Some r) None) (key_of_found bytes_order path_of_row p rows r is)

find_migrated : (p : List ℕ) (rows : List Row) → Rises bytes_cmp path_of_row rows → find_row p (filter in_area rows) ≡ cond (is_migrated p) (row_at p rows) None
find_migrated p rows rise = kept_by p rows (row_at p rows) rise refl

pick : (b : Bool) (m n : Option Row) → (b ≡ true → m ≡ n) → cond b m None ≡ cond b n None
pick true m n e = e refl
pick false m n e = refl

-- neither the operation's path nor its parent is in the area
abbrev pub Beside : Op → Type 0
Beside o = (is_migrated (path_of_op o) ≡ false) × (is_migrated (parent_of (path_of_op o)) ≡ false)

apart : (p q : List ℕ) → is_migrated p ≡ true → is_migrated q ≡ false → p ≢ q
apart p q inside outside is = let e = ap is_migrated is in cc

pub rows_left : (zxid : ℤ) (o : Op) (rows : List Row) → Rises bytes_cmp path_of_row rows → Beside o → filter in_area (after_op zxid o rows) ≡ filter in_area rows
rows_left zxid o rows rise beside = same_items bytes_order path_of_row (filter in_area (after_op zxid o rows)) (filter in_area rows)
    (Rises-filter bytes_order path_of_row in_area (after_op zxid o rows) (op_rises zxid o rows rise)) (Rises-filter bytes_order path_of_row in_area rows rise)
    (λ p. find_migrated p (after_op zxid o rows) (op_rises zxid o rows rise)
    ∙ pick (is_migrated p) (row_at p (after_op zxid o rows)) (row_at p rows) (λ inside. far_kept zxid o p rows (apart p (path_of_op o) inside beside.0) (apart p (parent_of (path_of_op o)) inside beside.1))
    ∙ sym (find_migrated p rows rise))

abbrev AllBeside : List Op → Type 0
AllBeside [] = ⊤
AllBeside (o ∷ os) = Beside o × AllBeside os

ran_rows_left : (zxid : ℤ) (os : List Op) (rows : List Row) → Rises bytes_cmp path_of_row rows → AllBeside os → filter in_area (ran zxid os rows) ≡ filter in_area rows
ran_rows_left zxid [] rows rise beside = refl
ran_rows_left zxid (o ∷ os) rows rise beside = ran_rows_left zxid os (after_op zxid o rows) (op_rises zxid o rows rise) beside.1 ∙ rows_left zxid o rows rise beside.0

beside_append : (xs ys : List Op) → AllBeside xs → AllBeside ys → AllBeside (xs ++ ys)
beside_append [] ys a b = b
beside_append (x ∷ xs) ys a b = (a.0, beside_append xs ys a.1 b)

-- ---- the operations of a claim

abbrev Aside : List ℕ → Type 0
Aside p = (is_migrated p ≡ false) × (is_migrated (parent_of p) ≡ false)

epoch_aside : Aside epoch_path
unfolding is_migrated roots
epoch_aside = (refl, refl)

control_aside : Aside control_path
unfolding is_migrated roots
control_aside = (refl, refl)

abbrev AllAside : List (List ℕ) → Type 0
AllAside [] = ⊤
AllAside (p ∷ ps) = Aside p × AllAside ps

bases_aside : AllAside base_paths
unfolding is_migrated roots base_paths
bases_aside = ((refl, refl), ((refl, refl), ((refl, refl), ((refl, refl), ((refl, refl), tt)))))

epoch_beside : (seen : Option Row) → Beside (epoch_op seen)
epoch_beside None = epoch_aside
epoch_beside (Some r) = epoch_aside

control_beside : (seen : Option Row) (body : List ℕ) → AllBeside (control_ops seen body)
control_beside None body = (control_aside, tt)
control_beside (Some r) body = (control_aside, (control_aside, tt))

one_base_beside : (b : Bool) (p : List ℕ) → Aside p → AllBeside (base_op b p)
one_base_beside true p aside = tt
one_base_beside false p aside = (aside, tt)

base_beside : (bs : List Bool) (ps : List (List ℕ)) → AllAside ps → AllBeside (base_ops bs ps)
base_beside [] ps aside = tt
base_beside (b ∷ bs) [] aside = tt
base_beside (b ∷ bs) (p ∷ ps) aside = beside_append (base_op b p) (base_ops bs ps) (one_base_beside b p aside.0) (base_beside bs ps aside.1)

migration_beside : (b : Bool) (seen : Option Row) (body : List ℕ) → b ≡ true → AllBeside (migration_ops b seen body)
migration_beside true seen body is = tt
migration_beside false seen body is = absurd (cc)

claim_beside : (seen : ClaimSeen) (d : Driver) (now : ℤ) → views_migrated d ≡ true → AllBeside (claim_ops seen d now)
claim_beside seen d now migrated =
    let body = written_control d.id (epoch_or_zero d.epoch) now in
    let recording = migration_ops (views_migrated d) seen.migration (written_recorded (record_before_offsets d)) in (
      epoch_beside seen.epoch,
      beside_append (control_ops seen.control body) (recording ++ base_ops seen.bases base_paths) (control_beside seen.control body)
          (beside_append recording (base_ops seen.bases base_paths) (migration_beside (views_migrated d) seen.migration (written_recorded (record_before_offsets d)) migrated) (base_beside seen.bases base_paths bases_aside)),
    )

all_outside : (os : List Op) → AllBeside os → Outside os
all_outside [] beside = tt
all_outside (o ∷ os) beside = (beside.0.0, all_outside os beside.1)

-- ---- where the log is migrated a claim leaves what is recorded

pub migration_no_base : Others migration_path base_paths
unfolding base_paths
migration_no_base = (differ migration_path _ refl, (differ migration_path _ refl, (differ migration_path _ refl, (differ migration_path _ refl, (differ migration_path _ refl, tt)))))

nothing_recorded : (b : Bool) (seen : Option Row) (body : List ℕ) → b ≡ true → Avoids migration_path (migration_ops b seen body)
nothing_recorded true seen body is = tt
nothing_recorded false seen body is = absurd (cc)

pub claim_avoids : (seen : ClaimSeen) (d : Driver) (now : ℤ) → views_migrated d ≡ true → Avoids migration_path (claim_ops seen d now)
claim_avoids seen d now migrated =
    let body = written_control d.id (epoch_or_zero d.epoch) now in
    let recording = migration_ops (views_migrated d) seen.migration (written_recorded (record_before_offsets d)) in (
      epoch_avoids seen.epoch,
      avoids_append migration_path (control_ops seen.control body) (recording ++ base_ops seen.bases base_paths) (control_avoids_path migration_path seen.control body (differ migration_path control_path refl))
          (avoids_append migration_path recording (base_ops seen.bases base_paths) (nothing_recorded (views_migrated d) seen.migration (written_recorded (record_before_offsets d)) migrated) (base_avoids migration_path seen.bases base_paths migration_no_base)),
    )

pub recorded_still : (m : Option Row) → option_and_then (λ (r : Row). recorded_of r.body) (option_map still m) ≡ option_and_then (λ (r : Row). recorded_of r.body) m
recorded_still None = refl
recorded_still (Some r) = refl

pub migration_alike : (t new : Tree) (ops : List Op) → Ran t new ops → Avoids migration_path ops → option_map still (row_at migration_path new.rows) ≡ option_map still (row_at migration_path t.rows)
migration_alike t new ops m avoids = ap (λ rows. option_map still (row_at migration_path rows)) m.rows ∙ ran_keeps (t.zxid +ℤ pos 1) migration_path ops t.rows avoids

recorded_kept : (t new : Tree) (ops : List Op) → Ran t new ops → Avoids migration_path ops → migration_record new ≡ migration_record t
recorded_kept t new ops m avoids =
    sym (recorded_still (row_at migration_path new.rows)) ∙ ap (option_and_then (λ (r : Row). recorded_of r.body)) (migration_alike t new ops m avoids) ∙ recorded_still (row_at migration_path t.rows)

unclosed_still : (m : Option Row) (rows : List Row) → unclosed_below (option_map still m) rows ≡ unclosed_below m rows
unclosed_still None rows = refl
unclosed_still (Some r) rows = refl

-- whether the tree is closed stays with `/migration` and the area
pub unclosed_kept : (t new : Tree) → option_map still (row_at migration_path new.rows) ≡ option_map still (row_at migration_path t.rows) → migrated_rows new ≡ migrated_rows t → unclosed_path new ≡ unclosed_path t
unclosed_kept t new alike rows =
    ap (unclosed_below (row_at migration_path new.rows)) rows ∙ sym (unclosed_still (row_at migration_path new.rows) (migrated_rows t))
    ∙ ap (λ m. unclosed_below m (migrated_rows t)) alike ∙ unclosed_still (row_at migration_path t.rows) (migrated_rows t)

-- the znodes of the area stay
pub claim_keeps_rows : (t new : Tree) (seen : ClaimSeen) (d : Driver) (now : ℤ) → TreeShape t → views_migrated d ≡ true → multi t (claim_ops seen d now) ≡ Ok new → migrated_rows new ≡ migrated_rows t
claim_keeps_rows t new seen d now shape migrated is =
    ap (filter in_area) (multi_ran t new (claim_ops seen d now) is).rows ∙ ran_rows_left (t.zxid +ℤ pos 1) (claim_ops seen d now) t.rows shape.rise (claim_beside seen d now migrated)

pub claim_leaves : (t new : Tree) (seen : ClaimSeen) (d : Driver) (now : ℤ) → TreeShape t → views_migrated d ≡ true → multi t (claim_ops seen d now) ≡ Ok new → Left t new
claim_leaves t new seen d now shape migrated is =
    let ops = claim_ops seen d now in
    let m = multi_ran t new ops is in
    let beside = claim_beside seen d now migrated in
    let rows = claim_keeps_rows t new seen d now shape migrated is in
    record {
      recorded = recorded_kept t new ops m (claim_avoids seen d now migrated);
      area = ap area_of m.rows ∙ area_ran_left (t.zxid +ℤ pos 1) ops t.rows shape.rise (all_outside ops beside);
      unclosed = unclosed_kept t new (migration_alike t new ops m (claim_avoids seen d now migrated)) rows;
    }

-- ---- else it records that there is no offset yet

was_there : (body path : List ℕ) (version : ℤ) (rows : List Row) (m : Option Row) → row_at path rows ≡ m → set_refusal body version m ≡ None → (r : Row) × (row_at path rows ≡ Some r)
was_there body path version rows None is pass = absurd (cc)
was_there body path version rows (Some r) is pass = (r, is)

abbrev recorded_in : List Row → Option Recorded
recorded_in rows = option_and_then (λ (r : Row). recorded_of r.body) (row_at migration_path rows)

recorded_by : (sessions : List ℤ) (zxid : ℤ) (b : Bool) (seen : Option Row) (body : List ℕ) (rows : List Row) → b ≡ false → Passes sessions zxid (migration_ops b seen body) rows → recorded_in (ran zxid (migration_ops b seen body) rows) ≡ recorded_of body
recorded_by sessions zxid true seen body rows is passes = absurd (cc)
recorded_by sessions zxid false None body rows is passes = ap (option_and_then (λ (r : Row). recorded_of r.body)) (created_found zxid migration_path body None rows)
recorded_by sessions zxid false (Some x) body rows is passes =
    let old = was_there body migration_path (negsuc 0) rows (row_at migration_path rows) refl passes.0 in
    ap (option_and_then (λ (r : Row). recorded_of r.body)) (set_found zxid migration_path body (negsuc 0) rows old.0 old.1)

pub claim_records : (t new : Tree) (seen : ClaimSeen) (d : Driver) (now : ℤ) → views_migrated d ≡ false → multi t (claim_ops seen d now) ≡ Ok new → migration_record new ≡ recorded_of (written_recorded (record_before_offsets d))
claim_records t new seen d now unmigrated is =
    let zxid = t.zxid +ℤ pos 1 in
    let m = multi_ran t new (claim_ops seen d now) is in
    let controls = control_ops seen.control (written_control d.id (epoch_or_zero d.epoch) now) in
    let body = written_recorded (record_before_offsets d) in
    let recording = migration_ops (views_migrated d) seen.migration body in
    let bases = base_ops seen.bases base_paths in
    let first = after_op zxid (epoch_op seen.epoch) t.rows in
    let second = ran zxid controls first in
    let third = ran zxid recording second in
    let passes = passes_left t.sessions zxid recording bases second (passes_right t.sessions zxid controls (recording ++ bases) first m.passes.1) in
    ap recorded_in (m.rows ∙ ran_append zxid controls (recording ++ bases) first ∙ ran_append zxid recording bases second)
    ∙ sym (recorded_still (row_at migration_path (ran zxid bases third)))
    ∙ ap (option_and_then (λ (r : Row). recorded_of r.body)) (ran_keeps zxid migration_path bases third (base_avoids migration_path seen.bases base_paths migration_no_base))
    ∙ recorded_still (row_at migration_path third)
    ∙ recorded_by t.sessions zxid (views_migrated d) seen.migration body second unmigrated passes

-- ---- a write that isn't the last leaves what is recorded

pub write_keeps_recorded : (t new : Tree) (i : Image) (claim : ℤ) (target : Recorded) → is_last_write (diff (area t) (render i)) ≡ false → multi t (write_ops claim (diff (area t) (render i)) target) ≡ Ok new → migration_record new ≡ migration_record t
write_keeps_recorded t new i claim target more is =
    let ops = chunk (diff (area t) (render i)) ++ record_ops (is_last_write (diff (area t) (render i))) target in
    let avoids : Avoids migration_path ops = subst (Avoids migration_path) (sym (nothing_more (is_last_write (diff (area t) (render i))) target (chunk (diff (area t) (render i))) more)) (chunk_avoids t i migration_path migration_outside) in
    recorded_kept t new (write_ops claim (diff (area t) (render i)) target) (multi_ran t new (write_ops claim (diff (area t) (render i)) target) is) (differ migration_path epoch_path refl, avoids)
