-- Steps of a driver that waits, looks, or reads the migrated area, and those that read the log.
use Rattle.std.proofs.Common.{◌≡◌, inl, inr, ℕ, zero, suc, ◌+◌, ◌*◌, ◌≤◌, ◌<◌, nat_lt, ℤ, Bool, true, false, not, ◌&&◌, ◌||◌, if◌then◌else◌, List, [], ◌++◌, length, Option, Some, None, option_map, refl, sym, ap, ◌∙◌, subst, arith}
use Rattle.std.specs.Prelude.{Result, Ok, Err}
use Rattle.std.specs.Ordering.{int_eq}
use Rattle.std.proofs.lemmas.Bool.Decides.{Decides-int_eq}
use Rattle.kz_types.specs.declared.codes.TheConstants.{MIGRATION, POST_MIGRATION}
use Rattle.kz_types.specs.declared.limits.TheConstants.{MAX_SCAN_ROWS, MAX_VERSION}
use Rattle.kz_types.specs.declared.tree.Row.{Row}
use Rattle.kz_types.specs.declared.tree.Op.{Op}
use Rattle.kz_types.specs.declared.driver.Stage.{Stage}
use Rattle.kz_types.specs.declared.driver.Stage.TheVariants as stage
use Rattle.kz_types.specs.declared.driver.ClaimSeen.{ClaimSeen}
use Rattle.kz_types.specs.declared.fault.BodyFault.{BodyFault}
use Rattle.kz_types.specs.declared.machine.DriverState.TheVariants as state
use Rattle.kz_types.specs.declared.machine.Recorded.{Recorded}
use Rattle.kz_types.specs.declared.machine.Reply.{Reply}
use Rattle.kz_types.specs.declared.machine.Reply.TheVariants as reply
use Rattle.kz_spec_data.specs.Control.{epoch_path, migration_path, read_epoch}
use Rattle.kz_spec_data.specs.Tree.{Tree, area, migrated_rows, migration_record, scan}
use Rattle.kz_spec_data.specs.Log.{Log, end_of, image_at, image_of, is_migrated_log}
use Rattle.kz_spec_data.specs.Rendering.{render}
use Rattle.kz_spec_data.specs.Difference.{diff}
use Rattle.kz_spec_machine.specs.Driver.{Shared, Driver, epoch_or_zero, views_migrated, at_stage, resigned_driver, seen_in, shown_by, unless_fenced, unless_full_epoch, unless_bad_epoch, unless_full_record, after_look, last_path, target_of, missing_controller, driver_at_log_end, unless_finalised, wait_or_move, after_quorum, after_brokers, after_page, after_log, is_recorded_at, after_rest, remaining_at}
use Rattle.kz_spec_machine.specs.Sound.{IsSharedSound, IsCurrent, RecordAgrees, IsAtRest, AtStage, IsSoundDriver}
use Rattle.kz_laws_events.proofs.Targets.{closed_offset}
use Rattle.kz_laws_events.proofs.Tests.{true_or_false}
use Rattle.kz_laws_bounds.proofs.Chunks.{WritesIn}
use Rattle.kz_laws_bounds.proofs.Pages.{behind, all_behind, page_on}
use Rattle.kz_laws_bounds.proofs.Left.{Ahead, nearer, Starts, starts_nearer, starts_least, ScansMigration, Afterwards, afterwards_nearer, Resyncs, WritesUpTo, ScansResync, RestsAfter, Left, Goes}

-- ---- choices

pub goes_if : (s : Shared) (n : ℕ) (b : Bool) (x y : Driver × Reply) → (b ≡ true → Goes s x n) → (b ≡ false → Goes s y n) → Goes s (if b then x else y) n
goes_if s n true x y first second = first refl
goes_if s n false x y first second = second refl

-- a driver that resigns has one step left
finalised : (s : Shared) (e : Driver) (rest : Driver × Reply) (n : ℕ) → 1 ≤ n → Goes s rest n → Goes s (unless_finalised e rest) n
finalised s e rest n some goes = goes_if s n (int_eq e.view.image.state POST_MIGRATION) (resigned_driver e, reply.Moved state.Inactive) rest (λ over. inr (record { some = some; at = tt })) (λ on. goes)

abbrev StartsAt : Shared → Driver → ℕ → ℕ → Type 0
StartsAt s d before n = Starts (migrated_rows s.tree) s.log (epoch_or_zero d.epoch) before n

-- one step of the start
on_start : (s : Shared) (d : Driver) (j k n : ℕ) → 1 + j ≤ k → StartsAt s d k (suc n) → StartsAt s d j n
on_start s d j k n low starts = starts_nearer (migrated_rows s.tree) s.log (epoch_or_zero d.epoch) j k (suc n) n (omega (arith, low)) starts

some_start : (s : Shared) (d : Driver) (k n : ℕ) → StartsAt s d k (suc n) → 1 ≤ n
some_start s d k n starts = let least = starts_least (migrated_rows s.tree) s.log (epoch_or_zero d.epoch) k (suc n) starts in omega (arith, least)

-- ---- waiting

pub goes_uninitialized : (s : Shared) (d : Driver) (n : ℕ) → 2 ≤ suc n → Goes s (at_stage stage.Inactive d, reply.Moved state.Inactive) n
goes_uninitialized s d n least = inr (record { some = omega (arith, least); at = tt })

waits : (s : Shared) (e : Driver) (m : Option ℤ) (n : ℕ) → StartsAt s e 5 (suc n) → Goes s (wait_or_move m e) n
waits s e (Some id) n starts = inl refl
waits s e None n starts = inr (record { some = some_start s e 5 n starts; at = on_start s e 4 5 n (omega arith) starts })

pub goes_quorum : (s : Shared) (running : List ℤ) (d : Driver) (n : ℕ) → StartsAt s d 5 (suc n) → Goes s (after_quorum s.declared running (driver_at_log_end s.log d)) n
goes_quorum s running d n starts =
    let e : Driver = driver_at_log_end s.log d in
    finalised s e _ n (some_start s d 5 n starts)
    (goes_if s n (int_eq e.view.image.state MIGRATION) (at_stage stage.ReadControlZnodes e, reply.Moved state.BecomeController) (wait_or_move (missing_controller s.declared running) e)
    (λ over. inr (record { some = some_start s d 5 n starts; at = on_start s d 2 5 n (omega arith) starts }))
    (λ more. waits s e (missing_controller s.declared running) n starts))

pub goes_brokers : (s : Shared) (d : Driver) (n : ℕ) → StartsAt s d 4 (suc n) → Goes s (unless_finalised (driver_at_log_end s.log d) (at_stage stage.ListBrokers (driver_at_log_end s.log d), reply.Looked)) n
goes_brokers s d n starts =
    let e : Driver = driver_at_log_end s.log d in
    finalised s e (at_stage stage.ListBrokers e, reply.Looked) n (some_start s d 4 n starts) (inr (record { some = some_start s d 4 n starts; at = on_start s d 3 4 n (omega arith) starts }))

pub goes_listed : (s : Shared) (d : Driver) (m : Option ℤ) (n : ℕ) → StartsAt s d 3 (suc n) → Goes s (after_brokers m d) n
goes_listed s d (Some id) n starts = inl refl
goes_listed s d None n starts = inr (record { some = some_start s d 3 n starts; at = on_start s d 2 3 n (omega arith) starts })

-- ---- a look

fenced : (s : Shared) (d : Driver) (m : Option ℤ) (rest : Driver × Reply) (n : ℕ) → Goes s rest n → Goes s (unless_fenced m d rest) n
fenced s d None rest n goes = goes
fenced s d (Some e) rest n goes = goes_if s n (Rattle.std.specs.Prelude.int_lt (epoch_or_zero d.epoch) e) (resigned_driver d, reply.FencedEpoch e) rest (λ above. inl refl) (λ low. goes)

full_epoch : (s : Shared) (d : Driver) (r : Result ℤ BodyFault) (version : ℤ) (rest : Driver × Reply) (n : ℕ) → Goes s rest n → Goes s (unless_full_epoch r version d rest) n
full_epoch s d (Err e) version rest n goes = inl refl
full_epoch s d (Ok number) version rest n goes = goes_if s n (int_eq number MAX_VERSION || int_eq version MAX_VERSION) (d, reply.Limit epoch_path) rest (λ full. inl refl) (λ room. goes)

bad_epoch : (s : Shared) (d : Driver) (m : Option Row) (rest : Driver × Reply) (n : ℕ) → Goes s rest n → Goes s (unless_bad_epoch m d rest) n
bad_epoch s d None rest n goes = goes
bad_epoch s d (Some r) rest n goes = full_epoch s d (read_epoch r.body) r.version rest n goes

full_record : (s : Shared) (d : Driver) (m : Option Row) (rest : Driver × Reply) (n : ℕ) → Goes s rest n → Goes s (unless_full_record m d rest) n
full_record s d None rest n goes = goes
full_record s d (Some r) rest n goes = goes_if s n (not (views_migrated d) && int_eq r.version MAX_VERSION) (d, reply.Limit migration_path) rest (λ full. inl refl) (λ room. goes)

pub goes_looked : (s : Shared) (d : Driver) (n : ℕ) → StartsAt s d 2 (suc n) → Goes s (after_look (seen_in s.tree) d) n
goes_looked s d n starts =
    let seen : ClaimSeen = seen_in s.tree in
    fenced s d (shown_by seen.control) _ n (bad_epoch s d seen.epoch _ n (full_record s d seen.migration (at_stage (stage.ClaimLeadership seen) d, reply.Looked) n
    (inr (record { some = some_start s d 2 n starts; at = inl (refl, on_start s d 1 2 n (omega arith) starts) }))))

-- ---- pages

some_page : (left pages : ℕ) → left < 256 * pages → 1 ≤ pages
some_page left pages low = omega (arith, low)

-- what is left after a full page
fewer_left : (left rest pages : ℕ) → rest + 256 ≤ left → left < 256 * suc pages → rest < 256 * pages
fewer_left left rest pages low is = omega (arith, low, is)

page_by : (s : Shared) (d : Driver) (n k : ℕ) (b : Bool) (x y : Stage) → (b ≡ true → Left s (at_stage x d) n) → (b ≡ false → Left s (at_stage y d) n) → Goes s (at_stage (if b then x else y) d, reply.Read k) n
page_by s d n k true x y last more = inr (last refl)
page_by s d n k false x y last more = inr (more refl)

abbrev page_of : Shared → List Row → List Row
page_of s rows = scan s.tree (last_path rows) MAX_SCAN_ROWS

migration_more : (s : Shared) (d : Driver) (rows : List Row) (n pages : ℕ) → behind s.tree (last_path rows) < 256 * pages → pages + 1 ≤ suc n → (IsCurrent s.tree d.claim → Ahead (migrated_rows s.tree) s.log (epoch_or_zero d.epoch) pages (suc n))
    → behind s.tree (last_path (rows ++ page_of s rows)) + 256 ≤ behind s.tree (last_path rows) → Left s (at_stage (stage.ScanForMigration (rows ++ page_of s rows)) d) n
migration_more s d rows n zero left least current fewer = absurd (omega (arith, left))
migration_more s d rows n (suc pages) left least current fewer =
    let less : behind s.tree (last_path (rows ++ page_of s rows)) < 256 * pages = fewer_left (behind s.tree (last_path rows)) (behind s.tree (last_path (rows ++ page_of s rows))) pages fewer left in
    record {
      some = let some = some_page (behind s.tree (last_path (rows ++ page_of s rows))) pages less in omega (arith, some, least);
      at = record { pages = pages; left = less; least = omega (arith, least); current = λ c. nearer (migrated_rows s.tree) s.log (epoch_or_zero d.epoch) pages (suc pages) (suc n) n (omega arith) (current c) };
    }

pub goes_migration_page : (s : Shared) (d : Driver) (rows : List Row) (n : ℕ) → IsSharedSound s → ScansMigration s.tree s.log d rows (suc n)
    → Goes s (after_page rows (page_of s rows) (λ all. stage.ScanForMigration all) (λ all. stage.BeginMigration all) d) n
goes_migration_page s d rows n kept scans =
    let page : List Row = page_of s rows in
    let some = some_page (behind s.tree (last_path rows)) scans.pages scans.left in
    let least = scans.least in
    page_by s d n (length page) (nat_lt (length page) MAX_SCAN_ROWS) (stage.BeginMigration (rows ++ page)) (stage.ScanForMigration (rows ++ page))
    (λ short. record { some = omega (arith, some, least); at = λ c. nearer (migrated_rows s.tree) s.log (epoch_or_zero d.epoch) 0 scans.pages (suc n) n (omega (arith, some)) (scans.current c) })
    (λ full. migration_more s d rows n scans.pages scans.left scans.least scans.current (page_on s.tree rows kept.tree full))

nearer_writes : (t : Tree) (l : Log) (target : Recorded) (j k n m : ℕ) → n + j ≤ m + k → WritesUpTo t l target k n → WritesUpTo t l target j m
nearer_writes t l target j k n m low w = (w.0, w.1, afterwards_nearer l target.offset (j + w.0) (k + w.0) n m (by w.0) w.2)
  where
    by : (x : ℕ) → n + (j + x) ≤ m + (k + x)
    by x = omega (arith, low)

resync_more : (s : Shared) (d : Driver) (target : Recorded) (rows : List Row) (n pages : ℕ) → behind s.tree (last_path rows) < 256 * pages → pages + 1 ≤ suc n → (IsCurrent s.tree d.claim → WritesUpTo s.tree s.log target (pages + 1) (suc n))
    → behind s.tree (last_path (rows ++ page_of s rows)) + 256 ≤ behind s.tree (last_path rows) → Left s (at_stage (stage.ScanForResync target (rows ++ page_of s rows)) d) n
resync_more s d target rows n zero left least current fewer = absurd (omega (arith, left))
resync_more s d target rows n (suc pages) left least current fewer =
    let less : behind s.tree (last_path (rows ++ page_of s rows)) < 256 * pages = fewer_left (behind s.tree (last_path rows)) (behind s.tree (last_path (rows ++ page_of s rows))) pages fewer left in
    record {
      some = let some = some_page (behind s.tree (last_path (rows ++ page_of s rows))) pages less in omega (arith, some, least);
      at = record { pages = pages; left = less; least = omega (arith, least); current = λ c. nearer_writes s.tree s.log target (pages + 1) (suc pages + 1) (suc n) n (omega arith) (current c) };
    }

pub goes_resync_page : (s : Shared) (d : Driver) (target : Recorded) (rows : List Row) (make : List Row → List Op) (n : ℕ) → IsSharedSound s → ScansResync s.tree s.log d target rows (suc n)
    → Goes s (after_page rows (page_of s rows) (λ all. stage.ScanForResync target all) (λ all. stage.WriteResync target (make all)) d) n
goes_resync_page s d target rows make n kept scans =
    let page : List Row = page_of s rows in
    let some = some_page (behind s.tree (last_path rows)) scans.pages scans.left in
    let least = scans.least in
    page_by s d n (length page) (nat_lt (length page) MAX_SCAN_ROWS) (stage.WriteResync target (make (rows ++ page))) (stage.ScanForResync target (rows ++ page))
    (λ short. record { some = omega (arith, some, least); at = λ c. nearer_writes s.tree s.log target 1 (scans.pages + 1) (suc n) n (omega (arith, some)) (scans.current c) })
    (λ full. resync_more s d target rows n scans.pages scans.left scans.least scans.current (page_on s.tree rows kept.tree full))

-- ---- before a resync

pub goes_log_read : (s : Shared) (d : Driver) (n : ℕ) → Resyncs s.tree s.log d (suc n) → Goes s (after_log (driver_at_log_end s.log d)) n
goes_log_read s d n r =
    let e : Driver = driver_at_log_end s.log d in
    let least = r.least in
    let some = some_page (length (migrated_rows s.tree)) r.pages r.read in
    finalised s e (at_stage (stage.ScanForResync (target_of e) []) e, reply.Looked) n (omega (arith, some, least))
    (inr (record {
      some = omega (arith, some, least);
      at = record {
        pages = r.pages;
        left = subst (λ (k : ℕ). k < 256 * r.pages) (sym (all_behind s.tree)) r.read;
        least = omega (arith, least);
        current = λ c. let w = r.current c in (w.0, w.1, inl (refl, by r.pages w.0 w.2));
      };
    }))
  where
    by : (p w : ℕ) → p + w + 4 ≤ suc n → ((p + 1) + w) + 2 ≤ n
    by p w is = omega (arith, is)

-- ---- at rest

pub goes_told : (s : Shared) (d : Driver) (n : ℕ) → 3 ≤ suc n → (IsCurrent s.tree d.claim → RestsAfter s.log d.recorded 1 (suc n)) → Goes s (at_stage stage.DualWrite d, reply.Moved state.DualWrite) n
goes_told s d n least current = inr (record {
  some = omega (arith, least);
  at = (omega (arith, least), λ c. let r = current c in (r.0, r.1, afterwards_nearer s.log r.0 0 1 (suc n) n (omega arith) r.2));
})

named : (m : Option Recorded) (o : ℤ) → option_map (λ (r : Recorded). r.offset) m ≡ Some o → (r : Recorded) × (m ≡ Some r) × (r.offset ≡ o)
named None o is = absurd (cc)
named (Some r) o is = (r, refl, cc)

-- the area of a tree at rest is the rendering at the offset that the driver recorded
pub area_at_rest : (s : Shared) (d : Driver) (offset : ℤ) → IsSharedSound s → is_migrated_log s.log ≡ true → IsAtRest s.tree d.view d.recorded → d.recorded ≡ Some offset → area s.tree ≡ render (image_at s.log offset)
area_at_rest s d offset kept migrated rests is =
    let r = named (migration_record s.tree) offset (rests.same ∙ is) in
    let agrees : RecordAgrees s.tree s.log r.0 = (kept.agreement migrated).recorded r.0 r.1 in
    agrees.same (closed_offset s.tree r.0 r.1 rests.closed) rests.closed ∙ ap (λ (o : ℤ). render (image_at s.log o)) r.2

not_recorded : (m : Option ℤ) (o end : ℤ) → is_recorded_at m end ≡ false → m ≡ Some o → o ≡ end → ⊥
not_recorded m o end not_yet is same = true_or_false (is_recorded_at m end) (ap (λ (x : Option ℤ). is_recorded_at x end) is ∙ (Decides-int_eq o end).1 same) not_yet

writes_new : (s : Shared) (d : Driver) (offset : ℤ) (n : ℕ) → IsSharedSound s → is_migrated_log s.log ≡ true → IsAtRest s.tree d.view d.recorded → d.recorded ≡ Some offset → is_recorded_at d.recorded (end_of s.log) ≡ false → Afterwards s.log offset 0 (suc n)
    → (writes : ℕ) × WritesIn writes (remaining_at s.tree s.log (end_of s.log)) × Afterwards s.log (end_of s.log) (0 + writes) n
writes_new s d offset n kept migrated rests is not_yet (inl same) = absurd (not_recorded d.recorded offset (end_of s.log) not_yet is same.0)
writes_new s d offset n kept migrated rests is not_yet (inr more) = (
  more.0,
  subst (λ (have : List Rattle.kz_types.specs.declared.tree.Rendered.Rendered). WritesIn more.0 (diff have (render (image_of s.log)))) (sym (area_at_rest s d offset kept migrated rests is)) more.1,
  inl (refl, by more.0 more.2),
)
  where
    by : (x : ℕ) → 0 + x + 3 ≤ suc n → (0 + x) + 2 ≤ n
    by x enough = omega (arith, enough)

pub goes_rested : (s : Shared) (d : Driver) (n : ℕ) → d.stage ≡ stage.DualWrite → IsSharedSound s → IsSoundDriver s d → 2 ≤ suc n → (IsCurrent s.tree d.claim → RestsAfter s.log d.recorded 0 (suc n)) → Goes s (after_rest d.view.image (driver_at_log_end s.log d)) n
goes_rested s d n is kept fine least current =
    let e : Driver = driver_at_log_end s.log d in
    let at : AtStage s.tree s.log d stage.DualWrite = subst (AtStage s.tree s.log d) is fine.stage in
    let writing : Stage = stage.WriteDelta (target_of e) (diff (render d.view.image) (render e.view.image)) in
    finalised s e _ n (omega (arith, least))
    (goes_if s n (is_recorded_at e.recorded e.view.position) (e, reply.Idle) (at_stage writing e, reply.Looked)
    (λ same. inl refl)
    (λ not_yet. inr (record { some = omega (arith, least); at = λ c. let r = current c in writes_new s d r.0 n kept at.0.migrated (at.1 c) r.1 not_yet r.2 })))
