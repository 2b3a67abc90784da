-- The commit of a migration.
use Rattle.std.proofs.Common.{◌≡◌, ◌≢◌, ◌⊎◌, inl, inr, ◌≤◌, ℤ, pos, negsuc, ◌≤ℤ◌, true, false, List, [], ◌++◌, length, map, Option, Some, None, option_map, is_some, All, refl, sym, ap, ◌∙◌, subst, arith, append-nil}
use Rattle.std.specs.Prelude.{Ok}
use Rattle.std.proofs.lemmas.Int.{ints}
use Rattle.kz_types.specs.declared.codes.TheConstants.{MIGRATION}
use Rattle.kz_types.specs.declared.limits.TheConstants.{MAX_EPOCH}
use Rattle.kz_types.specs.declared.driver.Stage.TheVariants as stage
use Rattle.kz_types.specs.declared.machine.Recorded.{Recorded}
use Rattle.kz_types.specs.declared.record.MetaRecord.{MetaRecord}
use Rattle.kz_types.specs.declared.record.MetaRecord.TheVariants as meta
use Rattle.kz_spec_data.specs.Settlement.{is_open}
use Rattle.kz_spec_data.specs.Image.{Image, empty_image, all_applied, image_with}
use Rattle.kz_spec_data.specs.Tree.{migration_record}
use Rattle.kz_spec_data.specs.Log.{Log, end_of, entries, all_entries_applied, image_at, image_of, with_batch, append, is_migrated_log, is_open_log, commit_of}
use Rattle.kz_spec_data.specs.Rendering.{excess}
use Rattle.kz_spec_machine.specs.Driver.{Shared, Driver, at_stage, epoch_or_zero, commit_records}
use Rattle.kz_laws_machine.proofs.TreeCommits.{commit_is_past}
use Rattle.kz_spec_machine.specs.Sound.{LogShape, IsBatchEnd, Agreement, IsSharedSound, claim_version, shown_in, Migrates, Fills, IsTranslated, AtStage, WasElected, IsSoundDriver}
use Rattle.kz_laws_machine.specs.Effects.{IsLonger}
use Rattle.kz_laws_machine.proofs.Numbers.{both_at_most, at_most_by, at_least_itself}
use Rattle.kz_laws_machine.proofs.Longer.{epochs_longer, claims_longer, others_committed}
use Rattle.kz_laws_machine.proofs.Keeps.{translated_keep, bare_keeps, others_keep}
use Rattle.kz_laws_machine.proofs.Ends.{batch_end_within}
use Rattle.kz_laws_machine.proofs.LogBatches.{image_kept}
use Rattle.kz_laws_machine.proofs.Migration.{state_applied}
use Rattle.kz_laws_machine.proofs.Growth.{Appended, append_appends, batch_lengthens, commit_is_migrated}
use Rattle.kz_laws_machine.proofs.CommitOf.{commit_is}
use Rattle.kz_laws_machine.proofs.Opened.{begun_is_open, commit_closes}
use Rattle.kz_laws_machine.proofs.Counted.{commit_applied}
use Rattle.kz_laws_machine.proofs.Pending.{pending, item_of}
use Rattle.kz_laws_machine.proofs.BatchEnds.{old_or_end}
use Rattle.kz_laws_machine.proofs.Bare.{image_is_bare}
use Rattle.kz_laws_machine.proofs.Filled.{pending_are, pending_unmarked, pending_translated}
use Rattle.kz_laws_machine.proofs.Epochs.{pending_epochs}
use Rattle.kz_laws_events.specs.Steps.{IsApartFrom}
use Rattle.kz_laws_events.proofs.Tests.{true_or_false}
use Rattle.kz_laws_events.proofs.Leading.{IsLeading, first_epoch, leading, not_leading, below_shown}
use Rattle.kz_laws_events.proofs.Uncommitted.{Both, none_recorded, lost_append}

-- ---- what is known of a commit

-- the log before it, whose transaction has all records
pub record IsReady (s : Shared) (d : Driver) (epoch now : ℤ) : Type 0 where
  pub kept : IsSharedSound s
  pub fine : IsSoundDriver s d
  pub elected : d.epoch ≢ None
  pub lead : IsLeading s d
  pub migrates : Migrates s.tree s.log d.claim
  pub fills : Fills s.log []
  pub more : LogShape (with_batch s.log epoch now commit_records)
  pub same : epoch ≡ s.log.epoch

abbrev after_commit : Shared → ℤ → ℤ → Log
after_commit s epoch now = with_batch s.log epoch now commit_records

two_items : 1 ≤ length commit_records
two_items = omega arith

pub unmigrated : (s : Shared) (d : Driver) (epoch now : ℤ) → IsReady s d epoch now → is_migrated_log s.log ≡ false
unmigrated s d epoch now k = k.migrates.unmigrated k.lead.current

longer : (s : Shared) (d : Driver) (epoch now : ℤ) → IsReady s d epoch now → IsLonger s.log (after_commit s epoch now)
longer s d epoch now k =
    batch_lengthens s.log epoch now commit_records k.kept.log (at_most_by s.log.epoch epoch (sym k.same)) two_items (λ migrated. commit_is_migrated s.log epoch now k.kept.log) (λ migrated. absurd (true_or_false (is_migrated_log s.log) migrated (unmigrated s d epoch now k)))

opened : (s : Shared) (d : Driver) (epoch now : ℤ) → IsReady s d epoch now → is_open_log s.log ≡ true
opened s d epoch now k = begun_is_open s.log k.fills.from k.kept.log k.fills.begun

commits : (s : Shared) (d : Driver) (epoch now : ℤ) → IsReady s d epoch now → commit_of (after_commit s epoch now) ≡ Some (end_of (after_commit s epoch now))
commits s d epoch now k = commit_is s.log epoch now k.kept.log (k.kept.before (unmigrated s d epoch now k)) (opened s d epoch now k)

-- ---- the metadata keeps the limits

-- the metadata at the log's end, before the state changes
filled_fits : (s : Shared) (d : Driver) (epoch now : ℤ) → IsReady s d epoch now → excess (all_entries_applied (pending (entries s.log.batches)) (image_of s.log)) ≡ None
filled_fits s d epoch now k =
    let l = s.log in
    let f = k.fills in
    let records = f.records in
    let same : records ++ [] ≡ records = append-nil records in
    let translated : All IsTranslated records = subst (All IsTranslated) same f.translated in
    let are : map item_of (pending (entries l.batches)) ≡ records = pending_are l f.from records k.kept.log f.begun f.so_far in
    let fits : excess (all_applied MAX_EPOCH (map item_of (pending (entries l.batches))) empty_image) ≡ None =
    ap (λ (rs : List MetaRecord). excess (all_applied MAX_EPOCH rs empty_image)) (are ∙ sym same) ∙ f.fits in
    translated_keep (pending (entries l.batches)) (image_of l) (image_is_bare l (end_of l) k.kept.log (k.kept.before (unmigrated s d epoch now k)) (at_least_itself (end_of l)))
    (pending_translated l records are translated) (pending_epochs l k.kept.log) fits

-- the state passes no limit
state_fits : (epoch : ℤ) (i : Image) → excess i ≡ None → excess (image_with epoch (meta.ZkMigrationState MIGRATION) i) ≡ None
state_fits epoch i fits = ap excess (state_applied epoch MIGRATION i) ∙ others_keep i i.brokers MIGRATION ∙ fits

end_fits : (s : Shared) (d : Driver) (epoch now : ℤ) → IsReady s d epoch now → excess (image_of (after_commit s epoch now)) ≡ None
end_fits s d epoch now k =
    let l = s.log in
    let f = k.fills in
    let translated : All IsTranslated f.records = subst (All IsTranslated) (append-nil f.records) f.translated in
    let are = pending_are l f.from f.records k.kept.log f.begun f.so_far in
    ap excess (commit_applied l epoch now k.kept.log (pending_unmarked l f.records are translated)) ∙ state_fits epoch (all_entries_applied (pending (entries l.batches)) (image_of l)) (filled_fits s d epoch now k)

old_fits : (s : Shared) (d : Driver) (epoch now at : ℤ) → IsReady s d epoch now → IsBatchEnd s.log at → excess (image_at (after_commit s epoch now) at) ≡ None
old_fits s d epoch now at k e =
    let low = batch_end_within s.log at k.kept.log e in
    ap excess (image_kept s.log epoch now commit_records at low) ∙ bare_keeps (image_at s.log at) (image_is_bare s.log at k.kept.log (k.kept.before (unmigrated s d epoch now k)) low)

each_fits : (s : Shared) (d : Driver) (epoch now at : ℤ) → IsReady s d epoch now → IsBatchEnd s.log at ⊎ (at ≡ end_of (after_commit s epoch now)) → excess (image_at (after_commit s epoch now) at) ≡ None
each_fits s d epoch now at k (inl old) = old_fits s d epoch now at k old
each_fits s d epoch now at k (inr last) = ap (λ (o : ℤ). excess (image_at (after_commit s epoch now) o)) last ∙ end_fits s d epoch now k

-- ---- how the tree and the log agree

held_by : (shown : Option ℤ) (e : ℤ) → shown ≡ Some e → is_some shown ≡ true
held_by shown e is = ap is_some is

none_offset : (o : ℤ) → o ≡ negsuc 0 → pos 0 ≤ℤ o → ⊥
none_offset o is low = absurd (omega (arith, ints, is, low))

least_offset : (o : ℤ) → o ≡ negsuc 0 → negsuc 0 ≤ℤ o
least_offset o is = omega (arith, ints, is)

pub offset_by : (m : Option Recorded) (r : Recorded) → m ≡ Some r → option_map (λ (x : Recorded). x.offset) m ≡ Some (negsuc 0) → r.offset ≡ negsuc 0
offset_by m r is none = same (sym (ap (option_map (λ (x : Recorded). x.offset)) is) ∙ none)
  where
    same : Some r.offset ≡ Some (negsuc 0) → r.offset ≡ negsuc 0
    same both = cc

there_by : (m : Option Recorded) → option_map (λ (x : Recorded). x.offset) m ≡ Some (negsuc 0) → m ≢ None
there_by m is none = absurd (cc (sym (ap (option_map (λ (x : Recorded). x.offset)) none) ∙ is))

agrees : (s : Shared) (d : Driver) (epoch now : ℤ) → IsReady s d epoch now → Agreement s.tree (after_commit s epoch now)
agrees s d epoch now k =
    let more = after_commit s epoch now in
    let recorded = k.migrates.recorded k.lead.current in
    record {
      holds = held_by (shown_in s.tree) s.log.epoch k.lead.shows;
      ended = λ at e past.
          let last : at ≡ end_of more = both_at_most at (end_of more) (batch_end_within more at k.more e) (commit_is_past more (end_of more) at past (commits s d epoch now k)) in
          ap (is_open (entries more.batches)) last ∙ commit_closes s.log epoch now k.more;
      fits = λ at e. each_fits s d epoch now at k (old_or_end s.log epoch now commit_records at e);
      record_there = there_by (migration_record s.tree) recorded;
      recorded = λ r found.
          let none = offset_by (migration_record s.tree) r found recorded in
          record {
            least = least_offset r.offset none;
            first = λ is. ((k.kept.before (unmigrated s d epoch now k)).base, λ absent. absurd (cc (sym (commits s d epoch now k) ∙ absent)));
            end = λ low. absurd (none_offset r.offset none low);
            past = λ low. absurd (none_offset r.offset none low);
            same = λ low closed. absurd (none_offset r.offset none low);
          };
    }

-- ---- what the step keeps

shared_committed : (s : Shared) (d : Driver) (epoch now : ℤ) → IsReady s d epoch now → IsSharedSound (record s { log = after_commit s epoch now })
shared_committed s d epoch now k = record {
  tree = k.kept.tree;
  log = k.more;
  before = λ none. absurd (true_or_false (is_migrated_log (after_commit s epoch now)) (commit_is_migrated s.log epoch now k.kept.log) none);
  agreement = λ migrated. agrees s d epoch now k;
}

driver_committed : (s : Shared) (d : Driver) (epoch now : ℤ) → IsReady s d epoch now → IsSoundDriver (record s { log = after_commit s epoch now }) (at_stage stage.ReadLogForResync d)
driver_committed s d epoch now k =
    let more = after_commit s epoch now in
    let more_than = longer s d epoch now k in
    record {
      id = k.fine.id;
      epochs = epochs_longer s.log.epoch more.epoch d.epoch more_than.epoch k.fine.epochs;
      elected = k.elected;
      claims = claims_longer s.log.epoch more.epoch (claim_version s.tree) (shown_in s.tree) d.epoch d.claim more_than.epoch k.fine.claims;
      views = record {
        view = more_than.view d.view k.fine.views.view;
        epoch_range = k.fine.views.epoch_range;
        migrated = λ is. more_than.migrated (k.fine.views.migrated is);
        unknown = λ migrated none some. tt;
      };
      own_record = none_recorded s.tree s.log more d.recorded (unmigrated s d epoch now k) k.fine.own_record;
      leads = λ leads filling. commit_closes s.log epoch now k.more;
      stage = record { claimed = k.migrates.claimed; migrated = commit_is_migrated s.log epoch now k.kept.log };
    }

others_keep_commit : (s : Shared) (d : Driver) (epoch now : ℤ) → IsReady s d epoch now → epoch ≡ epoch_or_zero d.epoch → (f : Driver) → IsApartFrom d f → IsSoundDriver s f → IsSoundDriver (record s { log = after_commit s epoch now }) f
others_keep_commit s d epoch now k own f apart fine =
    others_committed s (after_commit s epoch now) f (longer s d epoch now k) (unmigrated s d epoch now k) (not_leading s d f epoch k.elected own apart) (below_shown s d f k.lead apart k.elected fine) fine

pub ready : (s : Shared) (now : ℤ) (d : Driver) (new : Log) → IsSharedSound s → IsSoundDriver s d → d.stage ≡ stage.AppendRecords [] → append s.log (epoch_or_zero d.epoch) now commit_records ≡ Ok new → Appended s.log (epoch_or_zero d.epoch) now commit_records new × IsReady s d (epoch_or_zero d.epoch) now
ready s now d new kept fine at made =
    let epoch = epoch_or_zero d.epoch in
    let elected : d.epoch ≢ None = subst (WasElected d.epoch) at fine.elected in
    let a : Appended s.log epoch now commit_records new = append_appends s.log epoch now commit_records new made (first_epoch s d fine elected) two_items kept.log in
    let held : AtStage s.tree s.log d (stage.AppendRecords []) = subst (AtStage s.tree s.log d) at fine.stage in
    let lead : IsLeading s d = leading s d fine elected held.0.claimed a.same in
    (a, record { kept = kept; fine = fine; elected = elected; lead = lead; migrates = held.0; fills = held.1 lead.current lead.leads; more = subst LogShape (sym a.made) a.shape; same = a.same })

pub committed : (s : Shared) (now : ℤ) (d : Driver) (new : Log) → IsSharedSound s → IsSoundDriver s d → d.stage ≡ stage.AppendRecords [] → append s.log (epoch_or_zero d.epoch) now commit_records ≡ Ok new → Both s d new (at_stage stage.ReadLogForResync d)
committed s now d new kept fine at made =
    let epoch = epoch_or_zero d.epoch in
    let both = ready s now d new kept fine at made in
    let k : IsReady s d epoch now = both.1 in
    let shared = shared_committed s d epoch now k in
    let others = others_keep_commit s d epoch now k refl in
    subst (λ (l : Log). Both s d l (at_stage stage.ReadLogForResync d)) both.0.made
    (record {
      heard = record { shared = shared; driver = driver_committed s d epoch now k; others = others };
      lost = record { shared = shared; driver = lost_append s (after_commit s epoch now) d (longer s d epoch now k) (unmigrated s d epoch now k) fine; others = others };
    })

pub commit_agrees : (s : Shared) (now : ℤ) (d : Driver) (new : Log) → IsSharedSound s → IsSoundDriver s d → d.stage ≡ stage.AppendRecords [] → append s.log (epoch_or_zero d.epoch) now commit_records ≡ Ok new → (commit_of new ≡ Some (end_of new)) × Agreement s.tree new
commit_agrees s now d new kept fine at made =
    let epoch = epoch_or_zero d.epoch in
    let both = ready s now d new kept fine at made in
    subst (λ (l : Log). (commit_of l ≡ Some (end_of l)) × Agreement s.tree l) both.0.made (commits s d epoch now both.1, agrees s d epoch now both.1)
