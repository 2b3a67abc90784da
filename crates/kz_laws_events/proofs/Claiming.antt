-- A claim that is taken.
use Rattle.std.proofs.Common.{◌≡◌, ◌≢◌, ℤ, pos, negsuc, ◌+ℤ◌, ◌≤ℤ◌, Bool, true, false, if◌then◌else◌, List, [], Option, Some, None, option_map, is_some, refl, sym, ap, ◌∙◌, subst, arith}
use Rattle.std.specs.Prelude.{◌<ℤ◌, Ok}
use Rattle.std.specs.Ordering.{int_eq}
use Rattle.std.specs.Result.{result_ok}
use Rattle.std.proofs.lemmas.Bool.Decides.{Decides-int_eq}
use Rattle.std.proofs.lemmas.Int.{ints}
use Rattle.kz_types.specs.declared.codes.TheConstants.{BAD_VERSION, NODE_EXISTS, NO_NODE}
use Rattle.kz_types.specs.declared.tree.Row.{Row}
use Rattle.kz_types.specs.declared.driver.ClaimSeen.{ClaimSeen}
use Rattle.kz_types.specs.declared.driver.Stage.{Stage}
use Rattle.kz_types.specs.declared.driver.Stage.TheVariants as stage
use Rattle.kz_types.specs.declared.machine.Recorded.{Recorded}
use Rattle.kz_spec_data.specs.Control.{epoch_path, written_epoch, recorded_of, written_recorded}
use Rattle.kz_spec_data.specs.Tree.{Tree, row_at, code, create_refusal, set_refusal, op_refusal, multi, migrated_rows, migration_record}
use Rattle.kz_spec_data.specs.Log.{Log, is_migrated_log}
use Rattle.kz_spec_data.specs.Image.{is_migrated_state}
use Rattle.kz_spec_machine.specs.Driver.{Shared, Driver, epoch_or_zero, epoch_number, epoch_op, claimed_version, claim_ops, views_migrated, record_before_offsets, begins_again, after_claim}
use Rattle.kz_spec_machine.specs.Sound.{IsTime, IsId, Epochs, Agreement, IsSharedSound, claim_version, shown_in, IsBelowShown, IsClaimOf, WasElected, MayNotKnow, SeesPresent, Looks, is_filling, AtStage, IsSoundDriver}
use Rattle.kz_laws_values.proofs.Control.{recorded_is_read}
use Rattle.kz_laws_machine.specs.Effects.{KeepsRecord, IsClaimed}
use Rattle.kz_laws_machine.proofs.Numbers.{less_itself, same_number, at_most_by}
use Rattle.kz_laws_machine.proofs.Claimed.{own_kept}
use Rattle.kz_laws_machine.proofs.FenceDrivers.{create_refused, set_refused, unseen}
use Rattle.kz_laws_machine.proofs.Multi.{multi_ran, shape_kept}
use Rattle.kz_laws_machine.proofs.Claim.{claim_gives_version, claim_keeps_shape, claim_shows}
use Rattle.kz_laws_machine.proofs.Beside.{claim_leaves, claim_records}
use Rattle.kz_laws_events.specs.Steps.{ClaimLeads}
use Rattle.kz_laws_events.proofs.Unheard.{relook}
use Rattle.kz_laws_events.proofs.Tests.{true_or_false, not_refused, less_than_next, own_epoch, epoch_within, epoch_or_none}

abbrev version_of : Row → ℤ
version_of r = r.version

-- ---- the driver saw what is there

set_sees : (t : Tree) (r x : Row) (b : Bool) → row_at epoch_path t.rows ≡ Some x → pos 0 ≤ℤ r.version → op_refusal t.sessions (epoch_op (Some r)) t.rows ≡ None → int_eq r.version x.version ≡ b → Some r.version ≡ Some x.version
set_sees t r x true is low pass test = ap (λ (v : ℤ). Some v) ((Decides-int_eq r.version x.version).0 test)
set_sees t r x false is low pass test =
    let body = written_epoch (epoch_number r +ℤ pos 1) in
    absurd (not_refused (set_refusal body r.version (row_at epoch_path t.rows)) (code BAD_VERSION) pass
    (ap (set_refusal body r.version) is ∙ set_refused body r.version x low (λ same. true_or_false (int_eq r.version x.version) ((Decides-int_eq r.version x.version).1 same) test)))

sees : (t : Tree) (seen m : Option Row) → row_at epoch_path t.rows ≡ m → ((r : Row) → seen ≡ Some r → pos 0 ≤ℤ r.version) → op_refusal t.sessions (epoch_op seen) t.rows ≡ None → option_map version_of seen ≡ option_map version_of m
sees t None None is low pass = refl
sees t None (Some x) is low pass =
    absurd (not_refused (create_refusal t.sessions epoch_path (written_epoch (pos 1)) None t.rows) (code NODE_EXISTS) pass (create_refused t.sessions (written_epoch (pos 1)) t.rows x is))
sees t (Some r) None is low pass =
    let body = written_epoch (epoch_number r +ℤ pos 1) in
    absurd (not_refused (set_refusal body r.version (row_at epoch_path t.rows)) (code NO_NODE) pass (ap (set_refusal body r.version) is))
sees t (Some r) (Some x) is low pass = set_sees t r x (int_eq r.version x.version) is (low r refl) pass refl

pub sees_present : (t new : Tree) (seen : ClaimSeen) (d : Driver) (now : ℤ) → Looks t d.epoch seen → multi t (claim_ops seen d now) ≡ Ok new → SeesPresent t seen
sees_present t new seen d now looks is = sees t seen.epoch (row_at epoch_path t.rows) refl looks.version (multi_ran t new (claim_ops seen d now) is).passes.0

rises_by : (seen : Option Row) (version : Option ℤ) (v : ℤ) → option_map version_of seen ≡ version → version ≡ Some v → v <ℤ claimed_version seen
rises_by None version v is found = absurd (cc)
rises_by (Some r) version v is found = less_than_next v r.version (sym (same_number r.version v (is ∙ found)))

version_least : (seen : Option Row) → ((r : Row) → seen ≡ Some r → pos 0 ≤ℤ r.version) → pos 0 ≤ℤ claimed_version seen
version_least None low = omega (arith, ints)
version_least (Some r) low = let old = low r refl in omega (arith, ints, old)

-- ---- it knows of the migration, where there was one

known_by : (s : Shared) (d : Driver) (seen : ClaimSeen) (b : Bool) → views_migrated d ≡ b → Looks s.tree d.epoch seen → SeesPresent s.tree seen → (is_migrated_state d.view.image.state ≡ false → IsBelowShown (shown_in s.tree) d.epoch) → b ≡ true
known_by s d seen true is looks present unknown = refl
known_by s d seen false is looks present unknown = absurd (unseen s.tree d.epoch seen looks (unknown is) present)

-- ---- what is recorded before the first offset is read as it was written

abbrev HasRanges : ℤ → Driver → Type 0
HasRanges l d = IsId d.id × Epochs l d.epoch

unrecorded_read : (l : ℤ) (d : Driver) → HasRanges l d → recorded_of (written_recorded (record_before_offsets d)) ≡ Some (record_before_offsets d)
unrecorded_read l d range =
    let epoch = epoch_or_none l d.epoch range.1 in
    ap result_ok (recorded_is_read (record_before_offsets d) (record {
      id = (range.0.least, range.0.most);
      controller_epoch = (epoch.least, epoch.most);
      offset = (omega (arith, ints), omega (arith, ints));
      epoch = (omega (arith, ints), omega (arith, ints));
    }))

-- ---- a claim that is taken

-- what is known of it
pub record Taken (s : Shared) (d : Driver) (seen : ClaimSeen) (new : Tree) : Type 0 where
  pub elected : d.epoch ≢ None
  pub looks : Looks s.tree d.epoch seen
  pub present : SeesPresent s.tree seen
  pub version : claim_version new ≡ Some (claimed_version seen.epoch)
  pub shown : shown_in new ≡ Some (epoch_or_zero d.epoch)
  pub within : epoch_or_zero d.epoch ≤ℤ s.log.epoch
  pub known : is_migrated_log s.log ≡ true → views_migrated d ≡ true
  pub keeps : is_migrated_log s.log ≡ true → KeepsRecord s.tree new
  pub unrecorded : views_migrated d ≡ false → option_map (λ (r : Recorded). r.offset) (migration_record new) ≡ Some (negsuc 0)

pub taken : (s : Shared) (d : Driver) (seen : ClaimSeen) (now : ℤ) (new : Tree) → IsTime now → IsSharedSound s → IsSoundDriver s d → d.stage ≡ stage.ClaimLeadership seen → multi s.tree (claim_ops seen d now) ≡ Ok new → Taken s d seen new
taken s d seen now new time kept fine at is =
    let elected : d.epoch ≢ None = subst (WasElected d.epoch) at fine.elected in
    let looks : Looks s.tree d.epoch seen = subst (AtStage s.tree s.log d) at fine.stage in
    let present = sees_present s.tree new seen d now looks is in
    let epoch = epoch_or_none s.log.epoch d.epoch fine.epochs in
    let known : is_migrated_log s.log ≡ true → views_migrated d ≡ true = λ migrated. known_by s d seen (views_migrated d) refl looks present (λ none. subst (MayNotKnow (shown_in s.tree) d.epoch) at (fine.views.unknown migrated none elected)) in
    record {
      elected = elected;
      looks = looks;
      present = present;
      version = claim_gives_version s.tree new seen d now looks.version is;
      shown = claim_shows s.tree new seen d now (let a = fine.id.least in omega (arith, ints, a), let a = fine.id.most in omega (arith, ints, a)) (epoch.least, epoch.most) (let a = time.least in omega (arith, ints, a), time.most) is;
      within = epoch_within s.log.epoch d.epoch fine.epochs elected;
      known = known;
      keeps = λ migrated. let left = claim_leaves s.tree new seen d now kept.tree (known migrated) is in record { recorded = left.recorded; unclosed = left.unclosed };
      unrecorded = λ none. ap (option_map (λ (r : Recorded). r.offset)) (claim_records s.tree new seen d now none is ∙ unrecorded_read s.log.epoch d (fine.id, fine.epochs));
    }

claim_effect : (s : Shared) (d : Driver) (seen : ClaimSeen) (new : Tree) → Taken s d seen new → IsClaimed s.tree new s.log (claimed_version seen.epoch) (epoch_or_zero d.epoch)
claim_effect s d seen new k = record {
  version_is = k.version;
  rises = λ v is. rises_by seen.epoch (claim_version s.tree) v k.present is;
  shown_is = k.shown;
  highest = λ e is. k.looks.first k.present e is;
  within = k.within;
  keeps = k.keeps;
}

-- the claim is current
claim_made : (s : Shared) (d : Driver) (seen : ClaimSeen) (new : Tree) → Taken s d seen new → IsClaimOf s.log.epoch (claim_version new) (shown_in new) d.epoch (claimed_version seen.epoch)
claim_made s d seen new k =
    let v = claimed_version seen.epoch in
    record {
      elected = k.elected;
      least = version_least seen.epoch k.looks.version;
      low = λ now is. at_most_by v now (same_number v now (sym k.version ∙ is));
      there = λ none. absurd (cc (k.version, none));
      held = λ none. absurd (cc (k.shown, none));
      within = λ e is. subst (λ (x : ℤ). x ≤ℤ s.log.epoch) (same_number (epoch_or_zero d.epoch) e (sym k.shown ∙ is)) k.within;
      shows = λ is. k.shown ∙ own_epoch d.epoch k.elected;
      fenced = λ now is less. absurd (less_itself v now less (at_most_by now v (sym (same_number v now (sym k.version ∙ is)))));
    }

-- the driver at the stage after its claim
abbrev claimed_driver : Driver → ClaimSeen → Stage → Driver
claimed_driver d seen x = record d { claim = Some (claimed_version seen.epoch); stage = x }

claimed_at : (s : Shared) (d : Driver) (seen : ClaimSeen) (new : Tree) (x : Stage) → IsSoundDriver s d → d.stage ≡ stage.ClaimLeadership seen → Taken s d seen new → WasElected d.epoch x → AtStage new s.log (claimed_driver d seen x) x → IsSoundDriver (record s { tree = new }) (claimed_driver d seen x)
claimed_at s d seen new x fine at k elected holds = record {
  id = fine.id;
  epochs = fine.epochs;
  elected = elected;
  claims = claim_made s d seen new k;
  views = record {
    view = fine.views.view;
    epoch_range = fine.views.epoch_range;
    migrated = fine.views.migrated;
    unknown = λ migrated none some. absurd (true_or_false (views_migrated d) (k.known migrated) none);
  };
  own_record = own_kept s.tree new s.log d.recorded k.keeps fine.own_record;
  leads = λ leads filling. fine.leads leads (ap is_filling at);
  stage = holds;
}

not_migrated : (l : Log) (known : Bool) (b : Bool) → is_migrated_log l ≡ b → (is_migrated_log l ≡ true → known ≡ true) → known ≡ false → b ≡ false
not_migrated l known true is knows none = absurd (true_or_false known (knows is) none)
not_migrated l known false is knows none = refl

claimed_by : (s : Shared) (d : Driver) (seen : ClaimSeen) (new : Tree) (b : Bool) → views_migrated d ≡ b → IsSoundDriver s d → d.stage ≡ stage.ClaimLeadership seen → Taken s d seen new
    → IsSoundDriver (record s { tree = new }) (claimed_driver d seen (if b then stage.ReadLogForResync else stage.ScanForMigration []))
claimed_by s d seen new true is fine at k = claimed_at s d seen new stage.ReadLogForResync fine at k k.elected (record { claimed = λ none. cc; migrated = fine.views.migrated is })
claimed_by s d seen new false is fine at k = claimed_at s d seen new (stage.ScanForMigration []) fine at k k.elected (
  record { claimed = λ none. cc; unmigrated = λ c. not_migrated s.log (views_migrated d) (is_migrated_log s.log) refl k.known is; recorded = λ c. k.unrecorded is },
  λ c. record { rest = migrated_rows new; whole = refl },
)

-- ---- what is shared

agrees_claimed : (s : Shared) (d : Driver) (seen : ClaimSeen) (now : ℤ) (new : Tree) → IsSharedSound s → Taken s d seen new → multi s.tree (claim_ops seen d now) ≡ Ok new → is_migrated_log s.log ≡ true → Agreement new s.log
agrees_claimed s d seen now new kept k is migrated =
    let old : Agreement s.tree s.log = kept.agreement migrated in
    let left = claim_leaves s.tree new seen d now kept.tree (k.known migrated) is in
    record {
      holds = ap is_some k.shown;
      ended = old.ended;
      fits = old.fits;
      record_there = λ none. old.record_there (sym left.recorded ∙ none);
      recorded = λ r found.
          let a = old.recorded r (sym left.recorded ∙ found) in
          record { least = a.least; first = a.first; end = a.end; past = a.past; same = λ low closed. left.area ∙ a.same low (sym left.unclosed ∙ closed) };
    }

shared_claimed : (s : Shared) (d : Driver) (seen : ClaimSeen) (now : ℤ) (new : Tree) → IsSharedSound s → Taken s d seen new → multi s.tree (claim_ops seen d now) ≡ Ok new → IsSharedSound (record s { tree = new })
shared_claimed s d seen now new kept k is = record {
  tree = shape_kept s.tree new (claim_ops seen d now) (multi_ran s.tree new (claim_ops seen d now) is) (claim_keeps_shape seen d now) kept.tree;
  log = kept.log;
  before = kept.before;
  agreement = λ migrated. agrees_claimed s d seen now new kept k is migrated;
}

-- the driver looks anew where the answer is lost
pub claim_lost : (s : Shared) (now : ℤ) (d : Driver) (seen : ClaimSeen) (new : Tree) → IsTime now → IsSharedSound s → IsSoundDriver s d → d.stage ≡ stage.ClaimLeadership seen → multi s.tree (claim_ops seen d now) ≡ Ok new → IsSoundDriver (record s { tree = new }) (begins_again d)
claim_lost s now d seen new time kept fine at is =
    let k = taken s d seen now new time kept fine at is in
    relook s new d fine k.elected (ap is_filling at) (own_kept s.tree new s.log d.recorded k.keeps fine.own_record) (λ migrated none some. absurd (true_or_false (views_migrated d) (k.known migrated) none))

pub claim_leads : (s : Shared) (running : List ℤ) (now : ℤ) (d : Driver) (seen : ClaimSeen) (new : Tree) → IsTime now → IsSharedSound s → IsSoundDriver s d → d.stage ≡ stage.ClaimLeadership seen → multi s.tree (claim_ops seen d now) ≡ Ok new
    → ClaimLeads s running now d seen new
claim_leads s running now d seen new time kept fine at is =
    let k = taken s d seen now new time kept fine at is in
    record {
      effect = claim_effect s d seen new k;
      shared = shared_claimed s d seen now new kept k is;
      driver = subst (λ r. IsSoundDriver (record s { tree = new }) (after_claim seen d (claim_ops seen d now) r).0) (sym is) (claimed_by s d seen new (views_migrated d) refl fine at k);
    }
