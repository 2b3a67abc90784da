-- Steps of a driver that read on a migrated log: before a resync, within it, and at rest.
use Rattle.std.proofs.Common.{◌≡◌, ◌≢◌, ◌⊎◌, inl, inr, nat_lt, ℤ, pos, negsuc, ◌≤ℤ◌, Bool, true, false, if◌then◌else◌, List, [], ◌++◌, length, map, Option, Some, None, option_map, refl, sym, ap, ◌∙◌, subst, arith}
use Rattle.std.specs.Prelude.{◌<ℤ◌}
use Rattle.std.specs.Ordering.{int_eq}
use Rattle.std.proofs.lemmas.Bool.Decides.{Decides-int_eq}
use Rattle.std.proofs.lemmas.Int.{ints}
use Rattle.kz_types.specs.declared.limits.TheConstants.{MAX_SCAN_ROWS}
use Rattle.kz_types.specs.declared.tree.Row.{Row}
use Rattle.kz_types.specs.declared.driver.Stage.{Stage}
use Rattle.kz_types.specs.declared.driver.Stage.TheVariants as stage
use Rattle.kz_types.specs.declared.machine.Recorded.{Recorded}
use Rattle.kz_types.specs.declared.machine.Reply.TheVariants as reply
use Rattle.kz_spec_data.specs.Metadata.{Image}
use Rattle.kz_spec_data.specs.Image.{empty_image, is_migrated_state}
use Rattle.kz_spec_data.specs.Tree.{scan, area, rendered_row, migrated_rows, migration_record}
use Rattle.kz_spec_data.specs.Log.{Log, View, IsViewOf, end_of, image_at, image_of, is_migrated_log}
use Rattle.kz_spec_data.specs.Rendering.{render}
use Rattle.kz_spec_data.specs.Difference.{diff}
use Rattle.kz_spec_machine.specs.Driver.{Shared, Driver, at_stage, epoch_or_zero, target_of, last_path, driver_at_log_end, after_log, after_rest, is_recorded_at}
use Rattle.kz_spec_machine.specs.Sound.{IsEpochOrNone, LogShape, IsBatchEnd, IsPastCommit, RecordAgrees, IsSharedSound, shown_in, WasElected, MayNotKnow, IsTargetOf, IsAfterMigration, Targets, Writes, IsAtRest, is_filling, AtStage, IsSoundDriver}
use Rattle.kz_laws_machine.proofs.Ends.{base_within, end_least, end_is_batch_end, batch_end_within, batch_end_least, image_before}
use Rattle.kz_laws_machine.proofs.TreeCommits.{end_is_past}
use Rattle.kz_laws_machine.proofs.Numbers.{less_itself, at_most_by, at_most_then, both_at_most, less_or_same}
use Rattle.kz_laws_events.proofs.Tests.{true_or_false, own_epoch, epoch_or_none}
use Rattle.kz_laws_events.proofs.Ways.{lasts_read, either, unless_over, moved, read_on, read_stays}
use Rattle.kz_laws_events.proofs.Reading.{read_more, read_all}
use Rattle.kz_laws_events.proofs.Targets.{closed_offset}

-- ---- a migrated log has a record

above : (a : ℤ) → negsuc 0 <ℤ a → pos 0 ≤ℤ a
above a less = omega (arith, ints, less)

not_migrated_at : (l : Log) → LogShape l → end_of l ≡ negsuc 0 → is_migrated_log l ≡ false
not_migrated_at l shape is =
    let first : l.base ≡ negsuc 0 = both_at_most l.base (negsuc 0) (subst (λ (o : ℤ). l.base ≤ℤ o) is (base_within l shape)) shape.log.base in
    let image : image_of l ≡ empty_image = ap (image_at l) is ∙ image_before l shape first in
    ap (λ (i : Image). is_migrated_state i.state) image

pub end_not_negative : (l : Log) → LogShape l → is_migrated_log l ≡ true → pos 0 ≤ℤ end_of l
end_not_negative l shape migrated = by_order (less_or_same (negsuc 0) (end_of l) (end_least l shape))
  where
    by_order : (negsuc 0 <ℤ end_of l) ⊎ (negsuc 0 ≡ end_of l) → pos 0 ≤ℤ end_of l
    by_order (inl less) = above (end_of l) less
    by_order (inr same) = absurd (true_or_false (is_migrated_log l) migrated (not_migrated_at l shape (sym same)))

-- ---- the target of a driver that has read the log to its end

record_within : (s : Shared) (r : Recorded) → LogShape s.log → RecordAgrees s.tree s.log r → r.offset ≤ℤ end_of s.log
record_within s r shape agrees = by_order (less_or_same (negsuc 0) r.offset agrees.least)
  where
    by_order : (negsuc 0 <ℤ r.offset) ⊎ (negsuc 0 ≡ r.offset) → r.offset ≤ℤ end_of s.log
    by_order (inl less) = batch_end_within s.log r.offset shape (agrees.end (above r.offset less))
    by_order (inr same) = at_most_then r.offset (negsuc 0) (end_of s.log) (at_most_by r.offset (negsuc 0) (sym same)) (end_least s.log shape)

pub recorded_within : (s : Shared) (r : Recorded) → IsSharedSound s → is_migrated_log s.log ≡ true → migration_record s.tree ≡ Some r → r.offset ≤ℤ end_of s.log
recorded_within s r kept migrated is = record_within s r kept.log ((kept.agreement migrated).recorded r is)

either_epoch : (b : Bool) (x y : ℤ) → IsEpochOrNone x → IsEpochOrNone y → IsEpochOrNone (if b then x else y)
either_epoch true x y first second = first
either_epoch false x y first second = second

aims : (s : Shared) (d : Driver) → IsSharedSound s → IsSoundDriver s d → d.epoch ≢ None → is_migrated_log s.log ≡ true → IsTargetOf (target_of (driver_at_log_end s.log d)) d.id d.epoch (driver_at_log_end s.log d).view
aims s d kept fine elected migrated =
    let e : Driver = driver_at_log_end s.log d in
    record {
      id = refl;
      controller_epoch = own_epoch d.epoch elected;
      offset = refl;
      not_negative = end_not_negative s.log kept.log migrated;
      epoch = either_epoch (int_eq e.view.epoch (pos 0)) (epoch_or_zero d.epoch) e.view.epoch (epoch_or_none s.log.epoch d.epoch fine.epochs) (lasts_read s d kept.log fine).range;
      migrated = migrated;
    }

targets_end : (s : Shared) (target : Recorded) → IsSharedSound s → is_migrated_log s.log ≡ true → target.offset ≡ end_of s.log → Targets s.tree s.log target
targets_end s target kept migrated is = record {
  end = subst (IsBatchEnd s.log) (sym is) (end_is_batch_end s.log);
  past = subst (IsPastCommit s.log) (sym is) (end_is_past s.log kept.log);
  recorded = λ r found. subst (λ (o : ℤ). r.offset ≤ℤ o) (sym is) (recorded_within s r kept migrated found);
}

-- ---- before a resync

pub log_read : (s : Shared) (d : Driver) → d.stage ≡ stage.ReadLogForResync → IsSharedSound s → IsSoundDriver s d → IsSoundDriver s (after_log (driver_at_log_end s.log d)).0
log_read s d is kept fine =
    let e : Driver = driver_at_log_end s.log d in
    let after : IsAfterMigration s.log d.claim = subst (AtStage s.tree s.log d) is fine.stage in
    let elected : d.epoch ≢ None = subst (WasElected d.epoch) is fine.elected in
    unless_over s e (at_stage (stage.ScanForResync (target_of e) []) e, reply.Looked) (lasts_read s d kept.log fine)
    (read_on s d (stage.ScanForResync (target_of e) []) kept.log fine elected (ap is_filling is)
    (after, aims s d kept fine elected after.migrated, λ c. (targets_end s (target_of e) kept after.migrated refl, record { rest = migrated_rows s.tree; whole = refl })))

-- ---- what a view says at a batch end

at_batch_end : (l : Log) (v : View) → LogShape l → IsViewOf l v → IsBatchEnd l v.position → v.image ≡ image_at l v.position
at_batch_end l v shape (inl passed) end = absurd (less_itself v.position l.base passed (batch_end_least l v.position shape end))
at_batch_end l v shape (inr at) end = at.image

-- ---- within a resync

area_writes : (s : Shared) (d : Driver) (target : Recorded) (rows : List Row) → IsSharedSound s → IsSoundDriver s d → IsTargetOf target d.id d.epoch d.view → Targets s.tree s.log target → migrated_rows s.tree ≡ rows
    → Writes s.tree s.log target (diff (map rendered_row rows) (render d.view.image))
area_writes s d target rows kept fine aim targets all = record {
  targets = targets;
  remaining = ap (λ l. diff (map rendered_row l) (render d.view.image)) (sym all)
      ∙ ap (λ i. diff (area s.tree) (render i)) (at_batch_end s.log d.view kept.log fine.views.view (subst (IsBatchEnd s.log) aim.offset targets.end) ∙ ap (image_at s.log) (sym aim.offset));
}

by_page : (s : Shared) (d : Driver) (b : Bool) (x y : Stage) → (b ≡ true → IsSoundDriver s (at_stage x d)) → (b ≡ false → IsSoundDriver s (at_stage y d)) → IsSoundDriver s (at_stage (if b then x else y) d)
by_page s d true x y last more = last refl
by_page s d false x y last more = more refl

pub resync_scanned : (s : Shared) (d : Driver) (target : Recorded) (rows : List Row) → d.stage ≡ stage.ScanForResync target rows → IsSharedSound s → IsSoundDriver s d
    → IsSoundDriver s (at_stage (if nat_lt (length (scan s.tree (last_path rows) MAX_SCAN_ROWS)) MAX_SCAN_ROWS
    then stage.WriteResync target (diff (map rendered_row (rows ++ scan s.tree (last_path rows) MAX_SCAN_ROWS)) (render d.view.image))
    else stage.ScanForResync target (rows ++ scan s.tree (last_path rows) MAX_SCAN_ROWS)) d)
resync_scanned s d target rows is kept fine =
    let page = scan s.tree (last_path rows) MAX_SCAN_ROWS in
    let at : AtStage s.tree s.log d (stage.ScanForResync target rows) = subst (AtStage s.tree s.log d) is fine.stage in
    let elected : d.epoch ≢ None = subst (WasElected d.epoch) is fine.elected in
    by_page s d (nat_lt (length page) MAX_SCAN_ROWS) (stage.WriteResync target (diff (map rendered_row (rows ++ page)) (render d.view.image))) (stage.ScanForResync target (rows ++ page))
    (λ short. moved s d (stage.WriteResync target (diff (map rendered_row (rows ++ page)) (render d.view.image))) fine elected (ap is_filling is)
    (λ migrated none some. subst (MayNotKnow (shown_in s.tree) d.epoch) is (fine.views.unknown migrated none some))
    (at.0, at.1, λ c. area_writes s d target (rows ++ page) kept fine at.1 (at.2 c).0 (read_all s.tree rows kept.tree (at.2 c).1 short)))
    (λ full. moved s d (stage.ScanForResync target (rows ++ page)) fine elected (ap is_filling is) (λ migrated none some. subst (MayNotKnow (shown_in s.tree) d.epoch) is (fine.views.unknown migrated none some))
    (at.0, at.1, λ c. ((at.2 c).0, read_more s.tree rows kept.tree (at.2 c).1)))

-- ---- at rest

pub told_brokers : (s : Shared) (d : Driver) → d.stage ≡ stage.KraftControllerToBrokerComm → IsSoundDriver s d → IsSoundDriver s (at_stage stage.DualWrite d)
told_brokers s d is fine =
    let at : AtStage s.tree s.log d stage.KraftControllerToBrokerComm = subst (AtStage s.tree s.log d) is fine.stage in
    moved s d stage.DualWrite fine (subst (WasElected d.epoch) is fine.elected) (ap is_filling is) (λ migrated none some. subst (MayNotKnow (shown_in s.tree) d.epoch) is (fine.views.unknown migrated none some)) at

named : (m : Option Recorded) (o : ℤ) → option_map (λ (r : Recorded). r.offset) m ≡ Some o → (r : Recorded) × (m ≡ Some r) × (r.offset ≡ o)
named None o is = absurd (cc)
named (Some r) o is = (r, refl, cc)

-- the area is the rendering of what the driver knows
rest_area : (s : Shared) (d : Driver) → IsSharedSound s → is_migrated_log s.log ≡ true → IsSoundDriver s d → IsAtRest s.tree d.view d.recorded → area s.tree ≡ render d.view.image
rest_area s d kept migrated fine rests =
    let r = named (migration_record s.tree) d.view.position (rests.same ∙ rests.view) in
    let low = closed_offset s.tree r.0 r.1 rests.closed in
    let agrees : RecordAgrees s.tree s.log r.0 = (kept.agreement migrated).recorded r.0 r.1 in
    agrees.same low rests.closed ∙ ap (λ (o : ℤ). render (image_at s.log o)) r.2
    ∙ ap render (sym (at_batch_end s.log d.view kept.log fine.views.view (subst (IsBatchEnd s.log) r.2 (agrees.end low))))

pub recorded_at : (m : Option ℤ) (offset : ℤ) → is_recorded_at m offset ≡ true → m ≡ Some offset
recorded_at None offset is = absurd (cc)
recorded_at (Some o) offset is = ap (λ (x : ℤ). Some x) ((Decides-int_eq o offset).0 is)

pub rested : (s : Shared) (d : Driver) → d.stage ≡ stage.DualWrite → IsSharedSound s → IsSoundDriver s d → IsSoundDriver s (after_rest d.view.image (driver_at_log_end s.log d)).0
rested s d is kept fine =
    let e : Driver = driver_at_log_end s.log d in
    let ops = diff (render d.view.image) (render e.view.image) in
    let at : AtStage s.tree s.log d stage.DualWrite = subst (AtStage s.tree s.log d) is fine.stage in
    let elected : d.epoch ≢ None = subst (WasElected d.epoch) is fine.elected in
    let migrated = at.0.migrated in
    unless_over s e (if is_recorded_at e.recorded e.view.position then (e, reply.Idle) else (at_stage (stage.WriteDelta (target_of e) ops) e, reply.Looked)) (lasts_read s d kept.log fine)
    (either (IsSoundDriver s) (is_recorded_at e.recorded e.view.position) (e, reply.Idle) (at_stage (stage.WriteDelta (target_of e) ops) e, reply.Looked)
    (λ same. read_stays s d stage.DualWrite kept.log fine is
    (at.0, λ c. let old = at.1 c in record { closed = old.closed; same = old.same; view = recorded_at d.recorded (end_of s.log) same; known = migrated }))
    (λ new. read_on s d (stage.WriteDelta (target_of e) ops) kept.log fine elected (ap is_filling is) (
      at.0,
      aims s d kept fine elected migrated,
      λ c. record {
        targets = targets_end s (target_of e) kept migrated refl;
        remaining = ap (λ have. diff have (render (image_of s.log))) (sym (rest_area s d kept migrated fine (at.1 c)));
      },
    )))
