-- The data version of `/controller_epoch` after a claim.
use Rattle.std.proofs.Common.{◌≡◌, ◌≢◌, ℕ, ℤ, pos, negsuc, ◌+ℤ◌, ◌≤ℤ◌, Bool, true, false, not, ◌||◌, List, [], ◌∷◌, ◌++◌, Option, Some, None, option_map, All, refl, sym, ap, ◌∙◌, arith}
use Rattle.std.specs.Prelude.{Ok, ⊤, nat_lt, int_le, length}
use Rattle.std.specs.Ordering.{int_eq}
use Rattle.std.proofs.lemmas.Bool.Decides.{Decides-int_eq}
use Rattle.std.proofs.lemmas.Int.{ints}
use Rattle.std.proofs.lemmas.List.Elements.{All-nil, All-cons, All-append, All-head, All-tail, All-from_recursion}
use Rattle.std.specs.List.{list_any}
use Rattle.kz_types.specs.declared.limits.TheConstants.{MAX_BODY_BYTES, MAX_VERSION}
use Rattle.kz_types.specs.declared.tree.Row.{Row}
use Rattle.kz_types.specs.declared.tree.Op.{Op}
use Rattle.kz_types.specs.declared.tree.Op.TheVariants.{Create, Set, Delete}
use Rattle.kz_types.specs.declared.driver.ClaimSeen.{ClaimSeen}
use Rattle.kz_types.specs.Paths.{base_paths, control_paths, is_below}
use Rattle.kz_spec_data.specs.Control.{control_path, epoch_path, migration_path, written_epoch, written_control, written_recorded}
use Rattle.kz_spec_data.specs.Tree.{path_of_op, Tree, area, row_at, after_op, op_refusal, Refusal, code, limit, first_refusal, fits_version, set_refusal, created_row, multi, is_root}
use Rattle.kz_types.specs.declared.machine.Recorded.{Recorded}
use Rattle.kz_spec_data.specs.Image.{Image}
use Rattle.kz_spec_data.specs.Rendering.{render}
use Rattle.kz_spec_data.specs.Difference.{diff}
use Rattle.kz_laws_values.specs.Ranges.{IsLong, IsEpoch}
use Rattle.kz_laws_values.proofs.Control.{control_is_read}
use Rattle.kz_spec_machine.specs.Driver.{Driver, epoch_or_zero, views_migrated, epoch_op, epoch_number, control_ops, migration_ops, base_op, base_ops, record_before_offsets, claimed_version, claim_ops, shown_by, write_ops}
use Rattle.kz_spec_machine.specs.Sound.{claim_version, shown_in}
use Rattle.kz_laws_machine.specs.TreeLaws.{KeepsShape}
use Rattle.kz_laws_machine.proofs.Rows.{still, set_found, created_found}
use Rattle.kz_laws_machine.proofs.Runs.{ran, ran_append, Avoids, avoids_append, ran_keeps}
use Rattle.kz_laws_machine.proofs.Multi.{Ran, multi_ran, differ, version_still, control_outside, rest_of_write_avoids}

abbrev version_in : List Row → Option ℤ
version_in rows = option_map (λ (r : Row). r.version) (row_at epoch_path rows)

version_after : (zxid : ℤ) (os : List Op) (rows : List Row) → Avoids epoch_path os → version_in (ran zxid os rows) ≡ version_in rows
version_after zxid os rows avoids =
    sym (version_still (row_at epoch_path (ran zxid os rows)))
    ∙ ap (option_map (λ (r : Row). r.version)) (ran_keeps zxid epoch_path os rows avoids)
    ∙ version_still (row_at epoch_path rows)

-- ---- the number of the claim

not_first : (b : Bool) (r : Refusal) (cs : List (Bool × Refusal)) → first_refusal ((b, r) ∷ cs) ≡ None → b ≡ false
not_first true r cs is = absurd (cc)
not_first false r cs is = refl

fits_by : (a b : Bool) → not (a || b) ≡ false → a ≡ false → b ≡ true
fits_by true b is none = absurd (cc)
fits_by false true is none = refl
fits_by false false is none = absurd (cc)

not_any : (version : ℤ) → pos 0 ≤ℤ version → int_eq version (negsuc 0) ≡ false
not_any (pos n) low = refl
not_any (negsuc n) low = absurd (omega (arith, ints))

version_fits : (version : ℤ) (x : Row) → pos 0 ≤ℤ version → not (fits_version version x) ≡ false → version ≡ x.version
version_fits version x low is = (Decides-int_eq version x.version).0 (fits_by (int_eq version (negsuc 0)) (int_eq version x.version) is (not_any version low))

set_version : (zxid : ℤ) (body : List ℕ) (version : ℤ) (rows : List Row) (m : Option Row) → row_at epoch_path rows ≡ m → pos 0 ≤ℤ version → set_refusal body version m ≡ None
    → version_in (after_op zxid (Set epoch_path body version) rows) ≡ Some (version +ℤ pos 1)
set_version zxid body version rows None is low pass = absurd (cc)
set_version zxid body version rows (Some x) is low pass =
    let fits : version ≡ x.version = version_fits version x low (not_first (not (fits_version version x)) (code (negsuc 102)) ((nat_lt MAX_BODY_BYTES (length body), limit 2) ∷ (int_le MAX_VERSION x.version, limit 5) ∷ []) pass) in
    ap (option_map (λ (r : Row). r.version)) (set_found zxid epoch_path body version rows x is) ∙ ap (λ v. Some (v +ℤ pos 1)) (sym fits)

first_op : (sessions : List ℤ) (zxid : ℤ) (seen : Option Row) (rows : List Row) → ((r : Row) → seen ≡ Some r → pos 0 ≤ℤ r.version) → op_refusal sessions (epoch_op seen) rows ≡ None
    → version_in (after_op zxid (epoch_op seen) rows) ≡ Some (claimed_version seen)
first_op sessions zxid None rows low pass = ap (option_map (λ (r : Row). r.version)) (created_found zxid epoch_path (written_epoch (pos 1)) None rows)
first_op sessions zxid (Some r) rows low pass = set_version zxid (written_epoch (epoch_number r +ℤ pos 1)) r.version rows (row_at epoch_path rows) refl (low r refl) pass

-- ---- the other operations

pub control_avoids_path : (p : List ℕ) (seen : Option Row) (body : List ℕ) → p ≢ control_path → Avoids p (control_ops seen body)
control_avoids_path p None body other = (other, tt)
control_avoids_path p (Some r) body other = (other, (other, tt))

pub epoch_avoids : (seen : Option Row) → migration_path ≢ path_of_op (epoch_op seen)
epoch_avoids None = differ migration_path epoch_path refl
epoch_avoids (Some r) = differ migration_path epoch_path refl

migration_avoids : (p : List ℕ) (b : Bool) (seen : Option Row) (body : List ℕ) → p ≢ migration_path → Avoids p (migration_ops b seen body)
migration_avoids p true seen body other = tt
migration_avoids p false None body other = (other, tt)
migration_avoids p false (Some r) body other = (other, tt)

abbrev pub Others : List ℕ → List (List ℕ) → Type 0
Others p [] = ⊤
Others p (q ∷ qs) = (p ≢ q) × Others p qs

one_base_avoids : (p : List ℕ) (b : Bool) (q : List ℕ) → p ≢ q → Avoids p (base_op b q)
one_base_avoids p true q other = tt
one_base_avoids p false q other = (other, tt)

pub base_avoids : (p : List ℕ) (bs : List Bool) (qs : List (List ℕ)) → Others p qs → Avoids p (base_ops bs qs)
base_avoids p [] qs others = tt
base_avoids p (b ∷ bs) [] others = tt
base_avoids p (b ∷ bs) (q ∷ qs) others = avoids_append p (base_op b q) (base_ops bs qs) (one_base_avoids p b q others.0) (base_avoids p bs qs others.1)

epoch_no_base : Others epoch_path base_paths
unfolding base_paths
epoch_no_base = (differ epoch_path _ refl, (differ epoch_path _ refl, (differ epoch_path _ refl, (differ epoch_path _ refl, (differ epoch_path _ refl, tt)))))

control_no_base : Others control_path base_paths
unfolding base_paths
control_no_base = (differ control_path _ refl, (differ control_path _ refl, (differ control_path _ refl, (differ control_path _ refl, (differ control_path _ refl, tt)))))

rest_avoids : (seen : ClaimSeen) (b : Bool) (control recorded : List ℕ) → Avoids epoch_path (control_ops seen.control control ++ (migration_ops b seen.migration recorded ++ base_ops seen.bases base_paths))
rest_avoids seen b control recorded = avoids_append epoch_path (control_ops seen.control control) (migration_ops b seen.migration recorded ++ base_ops seen.bases base_paths) (control_avoids_path epoch_path seen.control control (differ epoch_path control_path refl))
    (avoids_append epoch_path (migration_ops b seen.migration recorded) (base_ops seen.bases base_paths) (migration_avoids epoch_path b seen.migration recorded (differ epoch_path migration_path refl)) (base_avoids epoch_path seen.bases base_paths epoch_no_base))

pub claim_gives_version : (t new : Tree) (seen : ClaimSeen) (d : Driver) (now : ℤ) → ((r : Row) → seen.epoch ≡ Some r → pos 0 ≤ℤ r.version) → multi t (claim_ops seen d now) ≡ Ok new
    → claim_version new ≡ Some (claimed_version seen.epoch)
claim_gives_version t new seen d now low is =
    let m = multi_ran t new (claim_ops seen d now) is in
    let zxid = t.zxid +ℤ pos 1 in
    let control = written_control d.id (epoch_or_zero d.epoch) now in
    let recorded = written_recorded (record_before_offsets d) in
    ap version_in m.rows
    ∙ version_after zxid (control_ops seen.control control ++ (migration_ops (views_migrated d) seen.migration recorded ++ base_ops seen.bases base_paths)) (after_op zxid (epoch_op seen.epoch) t.rows) (rest_avoids seen (views_migrated d) control recorded)
    ∙ first_op t.sessions zxid seen.epoch t.rows low m.passes.0

-- ---- the shape of the tree is kept

-- where a znode without an owner may stand
record Standable (path : List ℕ) : Type 0 where
  not_root : is_root path ≡ false
  free : list_any (λ control. is_below control path) control_paths ≡ false

unowned : (path body : List ℕ) → Standable path → KeepsShape (Create path body None)
unowned path body at = record { not_root = at.not_root; free = at.free; last = λ owned. absurd (cc) }

control_standable : Standable control_path
unfolding control_paths
control_standable = record { not_root = refl; free = refl }

epoch_standable : Standable epoch_path
unfolding control_paths
epoch_standable = record { not_root = refl; free = refl }

migration_standable : Standable migration_path
unfolding control_paths
migration_standable = record { not_root = refl; free = refl }

bases_standable : All Standable base_paths
unfolding control_paths base_paths
bases_standable = All-from_recursion Standable base_paths (record { not_root = refl; free = refl }, (record { not_root = refl; free = refl }, (record { not_root = refl; free = refl }, (record { not_root = refl; free = refl }, (record { not_root = refl; free = refl }, tt)))))

epoch_keeps : (seen : Option Row) → KeepsShape (epoch_op seen)
epoch_keeps None = unowned epoch_path (written_epoch (pos 1)) epoch_standable
epoch_keeps (Some r) = refl

control_keeps : (seen : Option Row) (body : List ℕ) → All KeepsShape (control_ops seen body)
control_keeps None body = All-cons KeepsShape (Create control_path body None) [] (unowned control_path body control_standable) (All-nil KeepsShape)
control_keeps (Some r) body = All-cons KeepsShape (Delete control_path r.version) (Create control_path body None ∷ []) tt (All-cons KeepsShape (Create control_path body None) [] (unowned control_path body control_standable) (All-nil KeepsShape))

migration_keeps : (b : Bool) (seen : Option Row) (body : List ℕ) → All KeepsShape (migration_ops b seen body)
migration_keeps true seen body = All-nil KeepsShape
migration_keeps false None body = All-cons KeepsShape (Create migration_path body None) [] (unowned migration_path body migration_standable) (All-nil KeepsShape)
migration_keeps false (Some r) body = All-cons KeepsShape (Set migration_path body (negsuc 0)) [] refl (All-nil KeepsShape)

one_base_keeps : (b : Bool) (p : List ℕ) → Standable p → All KeepsShape (base_op b p)
one_base_keeps true p at = All-nil KeepsShape
one_base_keeps false p at = All-cons KeepsShape (Create p [] None) [] (unowned p [] at) (All-nil KeepsShape)

base_keeps : (bs : List Bool) (ps : List (List ℕ)) → All Standable ps → All KeepsShape (base_ops bs ps)
base_keeps [] ps at = All-nil KeepsShape
base_keeps (b ∷ bs) [] at = All-nil KeepsShape
base_keeps (b ∷ bs) (p ∷ ps) at = All-append KeepsShape (base_op b p) (base_ops bs ps) (one_base_keeps b p (All-head Standable p ps at)) (base_keeps bs ps (All-tail Standable p ps at))

pub claim_keeps_shape : (seen : ClaimSeen) (d : Driver) (now : ℤ) → All KeepsShape (claim_ops seen d now)
claim_keeps_shape seen d now =
    let body = written_control d.id (epoch_or_zero d.epoch) now in
    let recording = migration_ops (views_migrated d) seen.migration (written_recorded (record_before_offsets d)) in
    let bases = base_ops seen.bases base_paths in
    All-cons KeepsShape (epoch_op seen.epoch) (control_ops seen.control body ++ (recording ++ bases)) (epoch_keeps seen.epoch)
    (All-append KeepsShape (control_ops seen.control body) (recording ++ bases) (control_keeps seen.control body)
    (All-append KeepsShape recording bases (migration_keeps (views_migrated d) seen.migration (written_recorded (record_before_offsets d))) (base_keeps seen.bases base_paths bases_standable)))

-- ---- what `/controller` shows

pub shown_still : (m : Option Row) → shown_by (option_map still m) ≡ shown_by m
shown_still None = refl
shown_still (Some r) = refl

control_made : (zxid : ℤ) (seen : Option Row) (body : List ℕ) (rows : List Row) → row_at control_path (ran zxid (control_ops seen body) rows) ≡ Some (created_row zxid control_path body None)
control_made zxid None body rows = created_found zxid control_path body None rows
control_made zxid (Some r) body rows = created_found zxid control_path body None (after_op zxid (Delete control_path r.version) rows)

pub claim_shows : (t new : Tree) (seen : ClaimSeen) (d : Driver) (now : ℤ) → IsLong d.id → IsEpoch (epoch_or_zero d.epoch) → IsLong now → multi t (claim_ops seen d now) ≡ Ok new
    → shown_in new ≡ Some (epoch_or_zero d.epoch)
claim_shows t new seen d now id epoch time is =
    let m = multi_ran t new (claim_ops seen d now) is in
    let zxid = t.zxid +ℤ pos 1 in
    let body = written_control d.id (epoch_or_zero d.epoch) now in
    let recorded = written_recorded (record_before_offsets d) in
    let controls = control_ops seen.control body in
    let rest = migration_ops (views_migrated d) seen.migration recorded ++ base_ops seen.bases base_paths in
    let first = after_op zxid (epoch_op seen.epoch) t.rows in
    let avoids : Avoids control_path rest = avoids_append control_path (migration_ops (views_migrated d) seen.migration recorded) (base_ops seen.bases base_paths)
    (migration_avoids control_path (views_migrated d) seen.migration recorded (differ control_path migration_path refl)) (base_avoids control_path seen.bases base_paths control_no_base) in
    ap (λ rows. shown_by (row_at control_path rows)) (m.rows ∙ ran_append zxid controls rest first)
    ∙ sym (shown_still (row_at control_path (ran zxid rest (ran zxid controls first))))
    ∙ ap shown_by (ran_keeps zxid control_path rest (ran zxid controls first) avoids)
    ∙ shown_still (row_at control_path (ran zxid controls first))
    ∙ ap shown_by (control_made zxid seen.control body first)
    ∙ control_is_read d.id (epoch_or_zero d.epoch) now (record { id_is = id; epoch_is = epoch; now_is = time })

-- ---- a write leaves what `/controller` shows

pub shown_kept : (t new : Tree) (ops : List Op) → Ran t new ops → Avoids control_path ops → shown_in new ≡ shown_in t
shown_kept t new ops m avoids =
    ap (λ rows. shown_by (row_at control_path rows)) m.rows
    ∙ sym (shown_still (row_at control_path (ran (t.zxid +ℤ pos 1) ops t.rows)))
    ∙ ap shown_by (ran_keeps (t.zxid +ℤ pos 1) control_path ops t.rows avoids)
    ∙ shown_still (row_at control_path t.rows)

pub write_keeps_shown : (t new : Tree) (i : Image) (claim : ℤ) (target : Recorded) → multi t (write_ops claim (diff (area t) (render i)) target) ≡ Ok new → shown_in new ≡ shown_in t
write_keeps_shown t new i claim target is = shown_kept t new (write_ops claim (diff (area t) (render i)) target) (multi_ran t new (write_ops claim (diff (area t) (render i)) target) is)
    (differ control_path epoch_path refl, rest_of_write_avoids t i target control_path control_outside (differ control_path migration_path refl))
