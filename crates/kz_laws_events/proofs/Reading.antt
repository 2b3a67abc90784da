-- Steps of a driver that read and write nothing.
use Rattle.std.proofs.Common.{◌≡◌, ◌≢◌, nat_lt, ℤ, pos, ◌≤ℤ◌, int_lt, Bool, true, false, not, ◌&&◌, if◌then◌else◌, List, ◌++◌, length, take, drop, filter, Option, Some, None, option_map, refl, sym, ap, ◌∙◌, subst, arith}
use Rattle.std.specs.Prelude.{◌<ℤ◌, Result, Ok, Err, ⊤}
use Rattle.std.specs.Ordering.{int_eq}
use Rattle.std.proofs.lemmas.Int.{ints}
use Rattle.std.proofs.lemmas.List.Elements.{All-contains}
use Rattle.kz_types.specs.declared.codes.TheConstants.{MIGRATION}
use Rattle.kz_types.specs.declared.limits.TheConstants.{MAX_SCAN_ROWS, MAX_VERSION}
use Rattle.kz_types.specs.declared.tree.Row.{Row}
use Rattle.kz_types.specs.declared.driver.Stage.{Stage}
use Rattle.kz_types.specs.declared.driver.Stage.TheVariants as stage
use Rattle.kz_types.specs.declared.machine.DriverState.TheVariants as state
use Rattle.kz_types.specs.declared.machine.Reply.{Reply}
use Rattle.kz_types.specs.declared.machine.Reply.TheVariants as reply
use Rattle.kz_types.specs.declared.fault.BodyFault.{BodyFault}
use Rattle.kz_types.specs.Paths.{base_paths, is_migrated}
use Rattle.kz_types.specs.Order.{bytes_cmp}
use Rattle.kz_types.specs.Ordered.{Rises}
use Rattle.kz_types.proofs.Order.{bytes_order}
use Rattle.kz_types.proofs.Maps.{Rises-filter}
use Rattle.kz_types.proofs.Lookup.{found_is_contained}
use Rattle.kz_spec_data.specs.Control.{epoch_path, migration_path, read_epoch}
use Rattle.kz_spec_data.specs.Tree.{Tree, row_at, path_of_row, is_after, scan, migrated_rows}
use Rattle.kz_spec_machine.specs.Driver.{Shared, Driver, at_stage, resigned_driver, epoch_or_zero, views_migrated, seen_in, shown_by, unless_fenced, unless_full_epoch, unless_bad_epoch, unless_full_record, after_look, last_path, missing_controller, driver_at_log_end, wait_or_move, after_quorum, after_brokers}
use Rattle.kz_spec_machine.specs.Sound.{IsStamped, TreeShape, IsSharedSound, shown_in, WasElected, MayNotKnow, Looks, Reads, is_filling, AtStage, IsSoundDriver}
use Rattle.kz_laws_machine.proofs.Pages.{after_last, short_page, one_page_more}
use Rattle.kz_laws_machine.proofs.Numbers.{same_number, at_least_itself}
use Rattle.kz_laws_events.proofs.Ways.{lasts_of, lasts_read, resigned, either, unless_over, moved, read_on, read_stays}

-- ---- waiting

waits : (s : Shared) (d : Driver) (m : Option ℤ) → d.stage ≡ stage.WaitForControllerQuorum → IsSharedSound s → IsSoundDriver s d → d.epoch ≢ None → IsSoundDriver s (wait_or_move m (driver_at_log_end s.log d)).0
waits s d (Some id) is kept fine elected = read_stays s d stage.WaitForControllerQuorum kept.log fine is tt
waits s d None is kept fine elected = read_on s d stage.WaitForBrokers kept.log fine elected (ap is_filling is) tt

pub quorum_waits : (s : Shared) (running : List ℤ) (d : Driver) → d.stage ≡ stage.WaitForControllerQuorum → IsSharedSound s → IsSoundDriver s d → IsSoundDriver s (after_quorum s.declared running (driver_at_log_end s.log d)).0
quorum_waits s running d is kept fine =
    let e : Driver = driver_at_log_end s.log d in
    let elected : d.epoch ≢ None = subst (WasElected d.epoch) is fine.elected in
    unless_over s e _ (lasts_read s d kept.log fine)
    (either (IsSoundDriver s) (int_eq e.view.image.state MIGRATION) (at_stage stage.ReadControlZnodes e, reply.Moved state.BecomeController) (wait_or_move (missing_controller s.declared running) e)
    (λ over. read_on s d stage.ReadControlZnodes kept.log fine elected (ap is_filling is) tt)
    (λ more. waits s d (missing_controller s.declared running) is kept fine elected))

pub brokers_looked : (s : Shared) (d : Driver) → d.stage ≡ stage.WaitForBrokers → IsSharedSound s → IsSoundDriver s d → IsSoundDriver s (at_stage stage.ListBrokers (driver_at_log_end s.log d))
brokers_looked s d is kept fine = read_on s d stage.ListBrokers kept.log fine (subst (WasElected d.epoch) is fine.elected) (ap is_filling is) tt

pub brokers_wait : (s : Shared) (d : Driver) (m : Option ℤ) → d.stage ≡ stage.ListBrokers → IsSoundDriver s d → IsSoundDriver s (after_brokers m d).0
brokers_wait s d (Some id) is fine =
    moved s d stage.WaitForBrokers fine (subst (WasElected d.epoch) is fine.elected) (ap is_filling is) (λ migrated none some. subst (MayNotKnow (shown_in s.tree) d.epoch) is (fine.views.unknown migrated none some)) tt
brokers_wait s d None is fine =
    moved s d stage.ReadControlZnodes fine (subst (WasElected d.epoch) is fine.elected) (ap is_filling is) (λ migrated none some. subst (MayNotKnow (shown_in s.tree) d.epoch) is (fine.views.unknown migrated none some)) tt

-- ---- a look

version_low : (t : Tree) (r : Row) → TreeShape t → row_at epoch_path t.rows ≡ Some r → pos 0 ≤ℤ r.version
version_low t r shape is = (All-contains (IsStamped t.zxid) t.rows r shape.stamped (found_is_contained bytes_order path_of_row epoch_path t.rows r is)).version

all_bases_seen : (t : Tree) → length (seen_in t).bases ≡ length base_paths
unfolding base_paths
all_bases_seen t = refl

-- no epoch above the driver's is shown
abbrev NotFenced : Option ℤ → Option ℤ → Type 0
NotFenced shown epoch = (e : ℤ) → shown ≡ Some e → e ≤ℤ epoch_or_zero epoch

looks_now : (t : Tree) (epoch : Option ℤ) → TreeShape t → NotFenced (shown_in t) epoch → Looks t epoch (seen_in t)
looks_now t epoch shape low = record {
  version = λ r is. version_low t r shape is;
  low = λ r is. (r.version, ap (option_map (λ (x : Row). x.version)) is, at_least_itself r.version);
  first = λ sees e is. low e is;
  bases = all_bases_seen t;
}

not_above : (a b : ℤ) → int_lt a b ≡ false → b ≤ℤ a
not_above a b is = grind (arith, ints)

fenced : (s : Shared) (d : Driver) (m : Option ℤ) (rest : Driver × Reply) → IsSoundDriver s d → (NotFenced m d.epoch → IsSoundDriver s rest.0) → IsSoundDriver s (unless_fenced m d rest).0
fenced s d None rest fine on = on (λ e is. absurd (cc))
fenced s d (Some e) rest fine on = either (IsSoundDriver s) (int_lt (epoch_or_zero d.epoch) e) (resigned_driver d, reply.FencedEpoch e) rest (λ above. resigned s d (lasts_of s d fine))
    (λ low. on (λ f is. subst (λ (x : ℤ). x ≤ℤ epoch_or_zero d.epoch) (same_number e f is) (not_above (epoch_or_zero d.epoch) e low)))

full_epoch : (s : Shared) (d : Driver) (r : Result ℤ BodyFault) (version : ℤ) (rest : Driver × Reply) → IsSoundDriver s d → IsSoundDriver s rest.0 → IsSoundDriver s (unless_full_epoch r version d rest).0
full_epoch s d (Err e) version rest fine on = fine
full_epoch s d (Ok number) version rest fine on = either (IsSoundDriver s) (Rattle.std.specs.Prelude.◌||◌ (int_eq number MAX_VERSION) (int_eq version MAX_VERSION)) (d, reply.Limit epoch_path) rest (λ full. fine) (λ room. on)

bad_epoch : (s : Shared) (d : Driver) (m : Option Row) (rest : Driver × Reply) → IsSoundDriver s d → IsSoundDriver s rest.0 → IsSoundDriver s (unless_bad_epoch m d rest).0
bad_epoch s d None rest fine on = on
bad_epoch s d (Some r) rest fine on = full_epoch s d (read_epoch r.body) r.version rest fine on

full_record : (s : Shared) (d : Driver) (m : Option Row) (rest : Driver × Reply) → IsSoundDriver s d → IsSoundDriver s rest.0 → IsSoundDriver s (unless_full_record m d rest).0
full_record s d None rest fine on = on
full_record s d (Some r) rest fine on = either (IsSoundDriver s) (not (views_migrated d) && int_eq r.version MAX_VERSION) (d, reply.Limit migration_path) rest (λ full. fine) (λ room. on)

pub looked : (s : Shared) (d : Driver) → d.stage ≡ stage.ReadControlZnodes → IsSharedSound s → IsSoundDriver s d → IsSoundDriver s (after_look (seen_in s.tree) d).0
looked s d is kept fine =
    let seen = seen_in s.tree in
    fenced s d (shown_by seen.control) _ fine
    (λ low. bad_epoch s d seen.epoch _ fine
    (full_record s d seen.migration (at_stage (stage.ClaimLeadership seen) d, reply.Looked) fine
    (moved s d (stage.ClaimLeadership seen) fine (subst (WasElected d.epoch) is fine.elected) (ap is_filling is)
    (λ migrated none some. subst (MayNotKnow (shown_in s.tree) d.epoch) is (fine.views.unknown migrated none some))
    (looks_now s.tree d.epoch kept.tree low))))

-- ---- pages

page_is : (t : Tree) (rows : List Row) → TreeShape t → (so_far : Reads t rows) → scan t (last_path rows) MAX_SCAN_ROWS ≡ take MAX_SCAN_ROWS so_far.rest
page_is t rows shape so_far =
    let rise : Rises bytes_cmp path_of_row (rows ++ so_far.rest) = subst (Rises bytes_cmp path_of_row) so_far.whole (Rises-filter bytes_order path_of_row (λ (r : Row). is_migrated r.path) t.rows shape.rise) in
    ap (take MAX_SCAN_ROWS) (ap (filter (is_after (last_path rows))) so_far.whole ∙ after_last rows so_far.rest rise)

pub read_more : (t : Tree) (rows : List Row) → TreeShape t → Reads t rows → Reads t (rows ++ scan t (last_path rows) MAX_SCAN_ROWS)
read_more t rows shape so_far =
    let page : scan t (last_path rows) MAX_SCAN_ROWS ≡ take MAX_SCAN_ROWS so_far.rest = page_is t rows shape so_far in
    record {
      rest = drop MAX_SCAN_ROWS so_far.rest;
      whole = so_far.whole ∙ sym (one_page_more MAX_SCAN_ROWS rows so_far.rest) ∙ ap (λ l. (rows ++ l) ++ drop MAX_SCAN_ROWS so_far.rest) (sym page);
    }

pub read_all : (t : Tree) (rows : List Row) → TreeShape t → Reads t rows → nat_lt (length (scan t (last_path rows) MAX_SCAN_ROWS)) MAX_SCAN_ROWS ≡ true → migrated_rows t ≡ rows ++ scan t (last_path rows) MAX_SCAN_ROWS
read_all t rows shape so_far short =
    let page : scan t (last_path rows) MAX_SCAN_ROWS ≡ take MAX_SCAN_ROWS so_far.rest = page_is t rows shape so_far in
    let rest : scan t (last_path rows) MAX_SCAN_ROWS ≡ so_far.rest = page ∙ short_page MAX_SCAN_ROWS so_far.rest (sym (ap (λ l. nat_lt (length l) MAX_SCAN_ROWS) page) ∙ short) in
    so_far.whole ∙ ap (λ l. rows ++ l) (sym rest)

by_page : (s : Shared) (d : Driver) (b : Bool) (x y : Stage) → (b ≡ true → IsSoundDriver s (at_stage x d)) → (b ≡ false → IsSoundDriver s (at_stage y d)) → IsSoundDriver s (at_stage (if b then x else y) d)
by_page s d true x y last more = last refl
by_page s d false x y last more = more refl

pub migration_scanned : (s : Shared) (d : Driver) (rows : List Row) → d.stage ≡ stage.ScanForMigration rows → IsSharedSound s → IsSoundDriver s d
    → IsSoundDriver s (at_stage (if nat_lt (length (scan s.tree (last_path rows) MAX_SCAN_ROWS)) MAX_SCAN_ROWS then stage.BeginMigration (rows ++ scan s.tree (last_path rows) MAX_SCAN_ROWS) else stage.ScanForMigration (rows ++ scan s.tree (last_path rows) MAX_SCAN_ROWS)) d)
migration_scanned s d rows is kept fine =
    let page = scan s.tree (last_path rows) MAX_SCAN_ROWS in
    let at : AtStage s.tree s.log d (stage.ScanForMigration rows) = subst (AtStage s.tree s.log d) is fine.stage in
    let elected : d.epoch ≢ None = subst (WasElected d.epoch) is fine.elected in
    by_page s d (nat_lt (length page) MAX_SCAN_ROWS) (stage.BeginMigration (rows ++ page)) (stage.ScanForMigration (rows ++ page))
    (λ short. moved s d (stage.BeginMigration (rows ++ page)) fine elected (ap is_filling is) (λ migrated none some. subst (MayNotKnow (shown_in s.tree) d.epoch) is (fine.views.unknown migrated none some))
    (at.0, λ c. read_all s.tree rows kept.tree (at.1 c) short))
    (λ full. moved s d (stage.ScanForMigration (rows ++ page)) fine elected (ap is_filling is) (λ migrated none some. subst (MayNotKnow (shown_in s.tree) d.epoch) is (fine.views.unknown migrated none some))
    (at.0, λ c. read_more s.tree rows kept.tree (at.1 c)))
