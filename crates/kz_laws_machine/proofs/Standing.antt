-- While a KRaft controller holds the tree, `/migration` is there.
use Rattle.std.proofs.Common.{◌≡◌, ◌⊎◌, inl, inr, ℕ, ℤ, pos, negsuc, ◌+ℤ◌, Bool, true, false, ◌&&◌, List, [], ◌∷◌, ◌++◌, Option, Some, None, option_map, is_some, refl, sym, ap, ◌∙◌}
use Rattle.std.specs.Prelude.{Ok}
use Rattle.std.specs.Str.{bytes_eq}
use Rattle.std.proofs.lemmas.List.Elements.{All-head, All-tail}
use Rattle.std.proofs.lemmas.Slice.Eq.{bytes_eq-Decides}
use Rattle.kz_types.specs.declared.tree.Row.{Row}
use Rattle.kz_types.specs.declared.tree.Op.{Op}
use Rattle.kz_types.specs.declared.tree.Op.TheVariants.{Create, Set, Delete, Check}
use Rattle.kz_types.specs.declared.driver.ClaimSeen.{ClaimSeen}
use Rattle.kz_types.specs.declared.machine.Recorded.{Recorded}
use Rattle.kz_types.specs.Paths.{base_paths}
use Rattle.kz_types.specs.Order.{bytes_cmp}
use Rattle.kz_types.specs.Ordered.{Rises}
use Rattle.kz_spec_data.specs.Control.{control_path, migration_path, shown_epoch, written_control, written_recorded}
use Rattle.kz_spec_data.specs.Tree.{Tree, path_of_row, row_at, after_set, after_op, multi, begin_session, end_session, area}
use Rattle.kz_spec_data.specs.Image.{Image}
use Rattle.kz_spec_data.specs.Rendering.{render}
use Rattle.kz_spec_data.specs.Difference.{diff, chunk}
use Rattle.kz_spec_machine.specs.Driver.{Driver, shown_by, epoch_or_zero, views_migrated, record_before_offsets, is_last_write, record_ops, write_ops, epoch_op, control_ops, migration_ops, base_ops, claim_ops}
use Rattle.kz_spec_machine.specs.Machine.{is_reserved, is_held_tree, client_refusal}
use Rattle.kz_spec_machine.specs.Sound.{TreeShape, shown_in}
use Rattle.kz_laws_machine.specs.RefusalLaws.{HasMigration, HeldHasMigration}
use Rattle.kz_laws_machine.proofs.Rows.{still, same, other, compare, others_kept, op_rises, created_found, set_found, deleted_found}
use Rattle.kz_laws_machine.proofs.Runs.{ran, ran_append, ran_keeps, Passes, passes_left, passes_right}
use Rattle.kz_laws_machine.proofs.Parents.{Is, some_alike, found_some, set_there}
use Rattle.kz_laws_machine.proofs.Multi.{Ran, multi_ran, migration_outside, chunk_avoids}
use Rattle.kz_laws_machine.proofs.Claim.{shown_still, base_avoids, write_keeps_shown}
use Rattle.kz_laws_machine.proofs.Beside.{migration_no_base, claim_avoids, migration_alike}
use Rattle.kz_laws_machine.proofs.TreeUnchanged.{Alike}
use Rattle.kz_laws_machine.proofs.Sessions.{begun, migration_left, begin_leaves, end_leaves}
use Rattle.kz_laws_machine.proofs.Clients.{Passes as Free, create_parts, neither, none_reserved, migration_spared}

-- ---- it stays

stays_alike : (t new : Tree) → Alike t.rows new.rows migration_path → HasMigration t → HasMigration new
stays_alike t new alike there = some_alike (row_at migration_path new.rows) (row_at migration_path t.rows) alike ∙ there

set_stays : (zxid : ℤ) (path body : List ℕ) (version : ℤ) (rows : List Row) → Is path rows → Is path (after_op zxid (Set path body version) rows)
set_stays zxid path body version rows there =
    let found = found_some path rows (row_at path rows) refl there in
    ap is_some (set_found zxid path body version rows found.0 found.1)

-- ---- a claim

recording_makes : (sessions : List ℤ) (zxid : ℤ) (b : Bool) (seen : Option Row) (body : List ℕ) (rows : List Row) → b ≡ false → Passes sessions zxid (migration_ops b seen body) rows → Is migration_path (ran zxid (migration_ops b seen body) rows)
recording_makes sessions zxid true seen body rows is passes = absurd (cc)
recording_makes sessions zxid false None body rows is passes = ap is_some (created_found zxid migration_path body None rows)
recording_makes sessions zxid false (Some x) body rows is passes = set_stays zxid migration_path body (negsuc 0) rows (set_there body migration_path (negsuc 0) rows (row_at migration_path rows) refl passes.0)

claim_makes : (t new : Tree) (seen : ClaimSeen) (d : Driver) (now : ℤ) → views_migrated d ≡ false → Ran t new (claim_ops seen d now) → HasMigration new
claim_makes t new seen d now unmigrated m =
    let zxid = t.zxid +ℤ pos 1 in
    let controls = control_ops seen.control (written_control d.id (epoch_or_zero d.epoch) now) in
    let recording = migration_ops (views_migrated d) seen.migration (written_recorded (record_before_offsets d)) in
    let bases = base_ops seen.bases base_paths in
    let first = after_op zxid (epoch_op seen.epoch) t.rows in
    let second = ran zxid controls first in
    let third = ran zxid recording second in
    let passes = passes_left t.sessions zxid recording bases second (passes_right t.sessions zxid controls (recording ++ bases) first m.passes.1) in
    ap (λ rows. is_some (row_at migration_path rows)) (m.rows ∙ ran_append zxid controls (recording ++ bases) first ∙ ran_append zxid recording bases second)
    ∙ some_alike (row_at migration_path (ran zxid bases third)) (row_at migration_path third) (ran_keeps zxid migration_path bases third (base_avoids migration_path seen.bases base_paths migration_no_base))
    ∙ recording_makes t.sessions zxid (views_migrated d) seen.migration (written_recorded (record_before_offsets d)) second unmigrated passes

claim_by : (t new : Tree) (seen : ClaimSeen) (d : Driver) (now : ℤ) (b : Bool) → views_migrated d ≡ b → Ran t new (claim_ops seen d now) → (b ≡ true → HasMigration t) → HasMigration new
claim_by t new seen d now true is m there = stays_alike t new (migration_alike t new (claim_ops seen d now) m (claim_avoids seen d now is)) (there refl)
claim_by t new seen d now false is m there = claim_makes t new seen d now is m

pub claim_has_migration : (t new : Tree) (seen : ClaimSeen) (d : Driver) (now : ℤ) → multi t (claim_ops seen d now) ≡ Ok new → (views_migrated d ≡ true → is_held_tree t ≡ true) → HeldHasMigration t → HasMigration new
claim_has_migration t new seen d now is holds held =
    claim_by t new seen d now (views_migrated d) refl (multi_ran t new (claim_ops seen d now) is) (λ migrated. held (holds migrated))

-- ---- a write

record_stays : (zxid : ℤ) (b : Bool) (target : Recorded) (rows : List Row) → Is migration_path rows → Is migration_path (ran zxid (record_ops b target) rows)
record_stays zxid true target rows there = set_stays zxid migration_path (written_recorded target) (negsuc 0) rows there
record_stays zxid false target rows there = there

write_stays : (t new : Tree) (i : Image) (claim : ℤ) (target : Recorded) → Ran t new (write_ops claim (diff (area t) (render i)) target) → HasMigration t → HasMigration new
write_stays t new i claim target m there =
    let zxid = t.zxid +ℤ pos 1 in
    let edits = chunk (diff (area t) (render i)) in
    let last = is_last_write (diff (area t) (render i)) in
    let edited = ran zxid edits t.rows in
    ap (λ rows. is_some (row_at migration_path rows)) (m.rows ∙ ran_append zxid edits (record_ops last target) t.rows)
    ∙ record_stays zxid last target edited (some_alike (row_at migration_path edited) (row_at migration_path t.rows) (ran_keeps zxid migration_path edits t.rows (chunk_avoids t i migration_path migration_outside)) ∙ there)

pub write_keeps_migration : (t new : Tree) (i : Image) (claim : ℤ) (target : Recorded) → multi t (write_ops claim (diff (area t) (render i)) target) ≡ Ok new → HeldHasMigration t → HeldHasMigration new
write_keeps_migration t new i claim target is has held =
    write_stays t new i claim target (multi_ran t new (write_ops claim (diff (area t) (render i)) target) is) (has (sym (ap is_some (write_keeps_shown t new i claim target is)) ∙ held))

-- ---- a client's multi makes no tree held

no_epoch : (m : Option ℤ) → is_some m ≡ false → m ≡ None
no_epoch None is = refl
no_epoch (Some e) is = absurd (cc)

-- a body that no client may give `/controller` shows no epoch
shows_none : (path body : List ℕ) → (bytes_eq path control_path && is_some (shown_epoch body)) ≡ false → control_path ≡ path → shown_epoch body ≡ None
shows_none path body free is = no_epoch (shown_epoch body) (sym (ap (λ b. b && is_some (shown_epoch body)) ((bytes_eq-Decides path control_path).1 (sym is))) ∙ free)

abbrev ShowsNone : List Row → Type 0
ShowsNone rows = shown_by (row_at control_path rows) ≡ None

elsewhere : (zxid : ℤ) (o : Op) (rows new : List Row) → option_map still (row_at control_path new) ≡ option_map still (row_at control_path rows) → ShowsNone rows → ShowsNone new
elsewhere zxid o rows new alike none = sym (shown_still (row_at control_path new)) ∙ ap shown_by alike ∙ shown_still (row_at control_path rows) ∙ none

set_shows : (zxid : ℤ) (path body : List ℕ) (version : ℤ) (rows : List Row) (m : Option Row) → row_at path rows ≡ m → shown_epoch body ≡ None → control_path ≡ path → ShowsNone rows → ShowsNone (after_set zxid body m rows)
set_shows zxid path body version rows None is free at none = none
set_shows zxid path body version rows (Some r) is free at none =
    ap (λ q. shown_by (row_at q (after_set zxid body (Some r) rows))) at
    ∙ ap (λ m. shown_by (row_at path (after_set zxid body m rows))) (sym is)
    ∙ ap shown_by (set_found zxid path body version rows r is) ∙ free

one_shows : (zxid : ℤ) (o : Op) (rows : List Row) → Rises bytes_cmp path_of_row rows → is_reserved o ≡ false → ShowsNone rows → ShowsNone (after_op zxid o rows)
one_shows zxid (Create path body owner) rows rise free none = elim (compare control_path path) [
  | same at ↦ ap (λ q. shown_by (row_at q (after_op zxid (Create path body owner) rows))) at ∙ ap shown_by (created_found zxid path body owner rows) ∙ shows_none path body (create_parts path body owner free).3 at
  | other differ ↦ elsewhere zxid (Create path body owner) rows (after_op zxid (Create path body owner) rows) (others_kept zxid (Create path body owner) control_path rows differ) none
]
one_shows zxid (Set path body version) rows rise free none = elim (compare control_path path) [
  | same at ↦ set_shows zxid path body version rows (row_at path rows) refl (shows_none path body (neither (bytes_eq path migration_path) (bytes_eq path control_path && is_some (shown_epoch body)) free).1 at) at none
  | other differ ↦ elsewhere zxid (Set path body version) rows (after_op zxid (Set path body version) rows) (others_kept zxid (Set path body version) control_path rows differ) none
]
one_shows zxid (Delete path version) rows rise free none = elim (compare control_path path) [
  | same at ↦ ap (λ q. shown_by (row_at q (after_op zxid (Delete path version) rows))) at ∙ ap shown_by (deleted_found zxid path version rows rise)
  | other differ ↦ elsewhere zxid (Delete path version) rows (after_op zxid (Delete path version) rows) (others_kept zxid (Delete path version) control_path rows differ) none
]
one_shows zxid (Check path version) rows rise free none = none

all_show : (zxid : ℤ) (os : List Op) (rows : List Row) → Rises bytes_cmp path_of_row rows → Free is_reserved os → ShowsNone rows → ShowsNone (ran zxid os rows)
all_show zxid [] rows rise free none = none
all_show zxid (o ∷ os) rows rise free none =
    all_show zxid os (after_op zxid o rows) (op_rises zxid o rows rise) (All-tail (λ x. is_reserved x ≡ false) o os free) (one_shows zxid o rows rise (All-head (λ x. is_reserved x ≡ false) o os free) none)

-- a tree that none holds is held by none after a client's multi
pub client_unheld : (t new : Tree) (ops : List Op) → Ran t new ops → client_refusal t ops ≡ None → TreeShape t → is_held_tree t ≡ false → is_held_tree new ≡ false
client_unheld t new ops m none shape unheld =
    ap (λ rows. is_some (shown_by (row_at control_path rows))) m.rows
    ∙ ap is_some (all_show (t.zxid +ℤ pos 1) ops t.rows shape.rise (none_reserved t ops none) (no_epoch (shown_in t) unheld))

client_by : (t new : Tree) (ops : List Op) (b : Bool) → is_held_tree t ≡ b → Ran t new ops → client_refusal t ops ≡ None → TreeShape t → HeldHasMigration t → HeldHasMigration new
client_by t new ops true is m none shape has held = stays_alike t new (migration_spared t new ops m none) (has is)
client_by t new ops false is m none shape has held = absurd (let free = client_unheld t new ops m none shape is in cc)

pub client_keeps_migration : (t new : Tree) (ops : List Op) → multi t ops ≡ Ok new → client_refusal t ops ≡ None → TreeShape t → HeldHasMigration t → HeldHasMigration new
client_keeps_migration t new ops is none shape has = client_by t new ops (is_held_tree t) refl (multi_ran t new ops is) none shape has

-- ---- sessions

begin_keeps : (t new : Tree) (session : ℤ) → begin_session t session ≡ Ok new → TreeShape t → HeldHasMigration t → HeldHasMigration new
begin_keeps t new session is shape has held =
    stays_alike t new (ap (λ rows. option_map still (row_at migration_path rows)) (begun t new session is).rows) (has (sym (ap is_some (begin_leaves t new session is shape).1.shown) ∙ held))

end_keeps : (t new : Tree) (session : ℤ) → end_session t session ≡ Ok new → TreeShape t → HeldHasMigration t → HeldHasMigration new
end_keeps t new session is shape has held = stays_alike t new (migration_left t new session is shape) (has (sym (ap is_some (end_leaves t new session is shape).1.shown) ∙ held))

pub sessions_keep_migration : (t new : Tree) (session : ℤ) → (begin_session t session ≡ Ok new) ⊎ (end_session t session ≡ Ok new) → TreeShape t → HeldHasMigration t → HeldHasMigration new
sessions_keep_migration t new session (inl is) shape has = begin_keeps t new session is shape has
sessions_keep_migration t new session (inr is) shape has = end_keeps t new session is shape has
