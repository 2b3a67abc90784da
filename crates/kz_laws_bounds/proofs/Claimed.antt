-- Steps of a driver that claims.
use Rattle.std.proofs.Common.{◌≡◌, ◌⊎◌, inl, inr, ℕ, suc, ◌+◌, ◌*◌, ◌≤◌, ◌<◌, ℤ, pos, ◌+ℤ◌, Bool, true, false, if◌then◌else◌, List, [], ◌∷◌, ◌++◌, filter, Option, Some, None, refl, sym, ap, ◌∙◌, subst, arith}
use Rattle.std.specs.Prelude.{Result, Ok, Err, ⊤}
use Rattle.kz_types.specs.declared.tree.Row.{Row}
use Rattle.kz_types.specs.declared.tree.Op.{Op}
use Rattle.kz_types.specs.declared.driver.ClaimSeen.{ClaimSeen}
use Rattle.kz_types.specs.declared.driver.Stage.{Stage}
use Rattle.kz_types.specs.declared.driver.Stage.TheVariants as stage
use Rattle.kz_types.specs.declared.fault.TreeFault.{TreeFault}
use Rattle.kz_types.specs.declared.fault.TreeFault.TheVariants as tree_fault
use Rattle.kz_types.specs.Paths.{base_paths, is_migrated, roots}
use Rattle.kz_types.specs.Order.{bytes_cmp}
use Rattle.kz_types.specs.Ordered.{Rises}
use Rattle.kz_spec_data.specs.Control.{control_path, epoch_path, migration_path, written_control, written_recorded}
use Rattle.kz_spec_data.specs.Tree.{Tree, path_of_row, parent_of, after_op, multi, migrated_rows, area}
use Rattle.kz_spec_data.specs.Log.{Log, image_of, is_migrated_log}
use Rattle.kz_spec_data.specs.Rendering.{render}
use Rattle.kz_spec_data.specs.Translation.{translate}
use Rattle.kz_spec_machine.specs.Driver.{Shared, Driver, epoch_or_zero, views_migrated, seen_in, epoch_op, control_ops, record_before_offsets, migration_ops, base_op, base_ops, claimed_version, claim_ops, with_tree, after_claim}
use Rattle.kz_spec_machine.specs.Machine.{final_znodes}
use Rattle.kz_spec_machine.specs.Sound.{IsSharedSound, TreeShape, IsSoundDriver}
use Rattle.kz_laws_machine.proofs.Rows.{op_rises}
use Rattle.kz_laws_machine.proofs.Runs.{ran}
use Rattle.kz_laws_machine.proofs.Multi.{multi_ran}
use Rattle.kz_laws_machine.proofs.Beside.{Beside, rows_left}
use Rattle.kz_laws_bounds.proofs.Pages.{all_behind}
use Rattle.kz_laws_bounds.proofs.Amounts.{Znodes}
use Rattle.kz_laws_bounds.proofs.Left.{Reaches, no_more_itself, Ahead, nearer, ahead_least, Starts, starts_nearer, starts_least, Left, Goes}
use Rattle.kz_laws_bounds.proofs.Looked.{look_taken}

-- ---- a claim leaves the znodes of the migrated area

abbrev AllBeside : List Op → Type 0
AllBeside [] = ⊤
AllBeside (o ∷ os) = Beside o × AllBeside os

rows_ran : (zxid : ℤ) (os : List Op) (rows : List Row) → Rises bytes_cmp path_of_row rows → AllBeside os → filter (λ (r : Row). is_migrated r.path) (ran zxid os rows) ≡ filter (λ (r : Row). is_migrated r.path) rows
rows_ran zxid [] rows rise beside = refl
rows_ran zxid (o ∷ os) rows rise beside = rows_ran zxid os (after_op zxid o rows) (op_rises zxid o rows rise) beside.1 ∙ rows_left zxid o rows rise beside.0

beside_append : (xs ys : List Op) → AllBeside xs → AllBeside ys → AllBeside (xs ++ ys)
beside_append [] ys a b = b
beside_append (x ∷ xs) ys a b = (a.0, beside_append xs ys a.1 b)

abbrev Aside : List ℕ → Type 0
Aside p = (is_migrated p ≡ false) × (is_migrated (parent_of p) ≡ false)

epoch_aside : Aside epoch_path
unfolding is_migrated roots
epoch_aside = (refl, refl)

control_aside : Aside control_path
unfolding is_migrated roots
control_aside = (refl, refl)

migration_aside : Aside migration_path
unfolding is_migrated roots
migration_aside = (refl, refl)

abbrev AllAside : List (List ℕ) → Type 0
AllAside [] = ⊤
AllAside (p ∷ ps) = Aside p × AllAside ps

bases_aside : AllAside base_paths
unfolding is_migrated roots base_paths
bases_aside = ((refl, refl), ((refl, refl), ((refl, refl), ((refl, refl), ((refl, refl), tt)))))

epoch_beside : (m : Option Row) → Beside (epoch_op m)
epoch_beside None = epoch_aside
epoch_beside (Some r) = epoch_aside

control_beside : (m : Option Row) (body : List ℕ) → AllBeside (control_ops m body)
control_beside None body = (control_aside, tt)
control_beside (Some r) body = (control_aside, (control_aside, tt))

migration_beside : (b : Bool) (m : Option Row) (body : List ℕ) → AllBeside (migration_ops b m body)
migration_beside true m body = tt
migration_beside false None body = (migration_aside, tt)
migration_beside false (Some r) body = (migration_aside, tt)

one_base_beside : (b : Bool) (p : List ℕ) → Aside p → AllBeside (base_op b p)
one_base_beside true p aside = tt
one_base_beside false p aside = (aside, tt)

base_beside : (bs : List Bool) (ps : List (List ℕ)) → AllAside ps → AllBeside (base_ops bs ps)
base_beside [] ps aside = tt
base_beside (b ∷ bs) [] aside = tt
base_beside (b ∷ bs) (p ∷ ps) aside = beside_append (base_op b p) (base_ops bs ps) (one_base_beside b p aside.0) (base_beside bs ps aside.1)

claim_beside : (seen : ClaimSeen) (d : Driver) (now : ℤ) → AllBeside (claim_ops seen d now)
claim_beside seen d now =
    let body = written_control d.id (epoch_or_zero d.epoch) now in
    let recorded = written_recorded (record_before_offsets d) in
    let recording = migration_ops (views_migrated d) seen.migration recorded in (
      epoch_beside seen.epoch,
      beside_append (control_ops seen.control body) (recording ++ base_ops seen.bases base_paths) (control_beside seen.control body)
          (beside_append recording (base_ops seen.bases base_paths) (migration_beside (views_migrated d) seen.migration recorded) (base_beside seen.bases base_paths bases_aside)),
    )

pub claim_rows : (t new : Tree) (seen : ClaimSeen) (d : Driver) (now : ℤ) → TreeShape t → multi t (claim_ops seen d now) ≡ Ok new → migrated_rows new ≡ migrated_rows t
claim_rows t new seen d now shape is =
    ap (filter (λ (r : Row). is_migrated r.path)) (multi_ran t new (claim_ops seen d now) is).rows ∙ rows_ran (t.zxid +ℤ pos 1) (claim_ops seen d now) t.rows shape.rise (claim_beside seen d now)

-- ---- a claim that is taken

-- the znodes of a migrated log
pub final_known : (b : Bool) (l : Log) (epoch : ℤ) (rows : List Row) → b ≡ true → final_znodes b l epoch (translate rows) ≡ render (image_of l)
final_known true l epoch rows is = refl
final_known false l epoch rows is = absurd (cc)

abbrev claimed_driver : Driver → ClaimSeen → Stage → Driver
claimed_driver d seen x = record d { claim = Some (claimed_version seen.epoch); stage = x }

claimed_resync : (s : Shared) (d : Driver) (seen : ClaimSeen) (new : Tree) (n : ℕ) → is_migrated_log s.log ≡ true → Starts (migrated_rows new) s.log (epoch_or_zero d.epoch) 0 n → Left (record s { tree = new }) (claimed_driver d seen stage.ReadLogForResync) n
claimed_resync s d seen new n migrated starts =
    let a : Ahead (migrated_rows new) s.log (epoch_or_zero d.epoch) (starts.first + 0) n = starts.ahead in
    record {
      some = let least = starts_least (migrated_rows new) s.log (epoch_or_zero d.epoch) 0 n starts in omega (arith, least);
      at = record {
        pages = a.pages;
        read = a.read;
        least = by_least starts.first a.appends a.pages a.writes a.enough;
        current = λ c. (
          a.writes,
          subst (λ (want : Znodes). Reaches (area new) want a.writes) (final_known (is_migrated_log s.log) s.log (epoch_or_zero d.epoch) (migrated_rows new) migrated) a.write (render (image_of s.log)) (no_more_itself (render (image_of s.log))),
          by starts.first a.appends a.pages a.writes a.enough,
        );
      };
    }
  where
    by_least : (f x y z : ℕ) → (f + 0) + x + y + z + 6 ≤ n → y + 2 ≤ n
    by_least f x y z enough = omega (arith, enough)

    by : (f x y z : ℕ) → (f + 0) + x + y + z + 6 ≤ n → y + z + 4 ≤ n
    by f x y z enough = omega (arith, enough)

claimed_scan : (s : Shared) (d : Driver) (seen : ClaimSeen) (new : Tree) (n : ℕ) → Starts (migrated_rows new) s.log (epoch_or_zero d.epoch) 0 n → Left (record s { tree = new }) (claimed_driver d seen (stage.ScanForMigration [])) n
claimed_scan s d seen new n starts =
    let a : Ahead (migrated_rows new) s.log (epoch_or_zero d.epoch) (starts.first + 0) n = starts.ahead in
    record {
      some = let least = starts_least (migrated_rows new) s.log (epoch_or_zero d.epoch) 0 n starts in omega (arith, least);
      at = record {
        pages = starts.first;
        left = subst (λ (k : ℕ). k < 256 * starts.first) (sym (all_behind new)) starts.scanned;
        least = by starts.first (ahead_least (migrated_rows new) s.log (epoch_or_zero d.epoch) (starts.first + 0) n a);
        current = λ c. nearer (migrated_rows new) s.log (epoch_or_zero d.epoch) starts.first (starts.first + 0) n n (same starts.first) a;
      };
    }
  where
    by : (f : ℕ) → (f + 0) + 6 ≤ n → f + 1 ≤ n
    by f enough = omega (arith, enough)

    same : (f : ℕ) → n + f ≤ n + (f + 0)
    same f = omega arith

claimed_by : (s : Shared) (d : Driver) (seen : ClaimSeen) (new : Tree) (n : ℕ) (b : Bool) → (b ≡ true → is_migrated_log s.log ≡ true) → Starts (migrated_rows new) s.log (epoch_or_zero d.epoch) 0 n
    → Left (record s { tree = new }) (claimed_driver d seen (if b then stage.ReadLogForResync else stage.ScanForMigration [])) n
claimed_by s d seen new n true migrated starts = claimed_resync s d seen new n (migrated refl) starts
claimed_by s d seen new n false migrated starts = claimed_scan s d seen new n starts

-- ---- a claim

goes_refused : (s : Shared) (d : Driver) (seen : ClaimSeen) (ops : List Op) (f : TreeFault) (n : ℕ) → ((index : ℕ) (c : ℤ) → f ≡ tree_fault.Refused index c → Starts (migrated_rows s.tree) s.log (epoch_or_zero d.epoch) 2 n) → Goes s (after_claim seen d ops (Err f)) n
goes_refused s d seen ops (tree_fault.Refused index c) n stale =
    let starts = stale index c refl in
    inr (record { some = let least = starts_least (migrated_rows s.tree) s.log (epoch_or_zero d.epoch) 2 n starts in omega (arith, least); at = starts })
goes_refused s d seen ops (tree_fault.Limit index number) n stale = inl refl
goes_refused s d seen ops tree_fault.NoMemory n stale = inl refl
goes_refused s d seen ops tree_fault.Device n stale = inl refl
goes_refused s d seen ops tree_fault.Down n stale = inl refl
goes_refused s d seen ops (tree_fault.Full size) n stale = inl refl

goes_by : (s : Shared) (now : ℤ) (d : Driver) (seen : ClaimSeen) (r : Result Tree TreeFault) (n : ℕ) → multi s.tree (claim_ops seen d now) ≡ r → IsSharedSound s → IsSoundDriver s d → Starts (migrated_rows s.tree) s.log (epoch_or_zero d.epoch) 0 n
    → ((index : ℕ) (c : ℤ) → multi s.tree (claim_ops seen d now) ≡ Err (tree_fault.Refused index c) → Starts (migrated_rows s.tree) s.log (epoch_or_zero d.epoch) 2 n)
    → Goes (with_tree s r) (after_claim seen d (claim_ops seen d now) r) n
goes_by s now d seen (Ok new) n is kept fine starts stale =
    inr (claimed_by s d seen new n (views_migrated d) fine.views.migrated (subst (λ (rows : List Row). Starts rows s.log (epoch_or_zero d.epoch) 0 n) (sym (claim_rows s.tree new seen d now kept.tree is)) starts))
goes_by s now d seen (Err f) n is kept fine starts stale = goes_refused s d seen (claim_ops seen d now) f n (λ index c same. stale index c (is ∙ ap (λ (x : TreeFault). Err x) same))

abbrev StartsIn : Shared → Driver → ℕ → ℕ → Type 0
StartsIn s d before n = Starts (migrated_rows s.tree) s.log (epoch_or_zero d.epoch) before n

near : (s : Shared) (d : Driver) (j k n : ℕ) → 1 + j ≤ k → StartsIn s d k (suc n) → StartsIn s d j n
near s d j k n low starts = starts_nearer (migrated_rows s.tree) s.log (epoch_or_zero d.epoch) j k (suc n) n (omega (arith, low)) starts

-- a driver that has just looked isn't refused
fresh : (s : Shared) (now : ℤ) (d : Driver) (seen : ClaimSeen) (index : ℕ) (c : ℤ) → IsSharedSound s → seen ≡ seen_in s.tree → multi s.tree (claim_ops seen d now) ≡ Err (tree_fault.Refused index c) → ⊥
fresh s now d seen index c kept is refused = look_taken s.tree d now index c kept.tree (ap (λ (x : ClaimSeen). multi s.tree (claim_ops x d now)) (sym is) ∙ refused)

pub goes_claimed : (s : Shared) (now : ℤ) (d : Driver) (seen : ClaimSeen) (n : ℕ) → IsSharedSound s → IsSoundDriver s d → ((seen ≡ seen_in s.tree) × StartsIn s d 1 (suc n)) ⊎ StartsIn s d 3 (suc n)
    → Goes (with_tree s (multi s.tree (claim_ops seen d now))) (after_claim seen d (claim_ops seen d now) (multi s.tree (claim_ops seen d now))) n
goes_claimed s now d seen n kept fine (inl looked) =
    goes_by s now d seen (multi s.tree (claim_ops seen d now)) n refl kept fine (near s d 0 1 n (omega arith) looked.1) (λ index c refused. absurd (fresh s now d seen index c kept looked.0 refused))
goes_claimed s now d seen n kept fine (inr stale) =
    goes_by s now d seen (multi s.tree (claim_ops seen d now)) n refl kept fine (near s d 0 3 n (omega arith) stale) (λ index c refused. near s d 2 3 n (omega arith) stale)
