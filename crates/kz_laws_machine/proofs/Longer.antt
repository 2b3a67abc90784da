-- More batches at the end of the log.
use Rattle.std.proofs.Common.{◌≡◌, ◌≢◌, ℤ, ◌≤ℤ◌, Bool, true, false, List, Option, Some, None, refl, sym, ap, ◌∙◌, subst}
use Rattle.kz_types.specs.declared.tree.Op.{Op}
use Rattle.kz_types.specs.declared.driver.Stage.{Stage}
use Rattle.kz_types.specs.declared.driver.Stage.TheVariants as stage
use Rattle.kz_types.specs.declared.machine.Recorded.{Recorded}
use Rattle.kz_types.specs.declared.record.MetaRecord.{MetaRecord}
use Rattle.kz_spec_data.specs.Tree.{Tree, area, migration_record}
use Rattle.kz_spec_data.specs.Log.{Log, end_of, begun_of, is_migrated_log, is_open_log}
use Rattle.kz_spec_data.specs.Rendering.{render}
use Rattle.kz_spec_data.specs.Difference.{diff}
use Rattle.kz_spec_machine.specs.Driver.{Shared, Driver, epoch_or_zero}
use Rattle.kz_spec_machine.specs.Sound.{claim_version, IsCurrent, shown_in, IsBelowShown, Claims, Epochs, OwnRecord, IsAfterMigration, Migrates, Fills, Targets, Writes, AtStage, IsSoundDriver}
use Rattle.kz_laws_machine.specs.Effects.{IsLonger}
use Rattle.kz_laws_machine.specs.Others.{IsApart}
use Rattle.kz_laws_machine.proofs.Numbers.{less_itself, same_number, at_most_by, at_most_then, both_at_most}
use Rattle.kz_laws_machine.proofs.Known.{fenced_may_not_know}
use Rattle.kz_laws_machine.proofs.Written.{shows_own, was_elected}

-- ---- epochs and claims

pub epochs_longer : (l more : ℤ) (epoch : Option ℤ) → l ≤ℤ more → Epochs l epoch → Epochs more epoch
epochs_longer l more None low old = tt
epochs_longer l more (Some e) low old = (old.0, at_most_then e l more old.1 low)

pub claims_longer : (l more : ℤ) (version shown epoch claim : Option ℤ) → l ≤ℤ more → Claims l version shown epoch claim → Claims more version shown epoch claim
claims_longer l more version shown epoch None low old = tt
claims_longer l more version shown epoch (Some v) low old = record {
  elected = old.elected;
  least = old.least;
  low = old.low;
  there = old.there;
  held = old.held;
  within = λ e is. at_most_then e l more (old.within e is) low;
  shows = old.shows;
  fenced = old.fenced;
}

-- a driver that leads the longer log led the other
led_before : (l more : ℤ) (epoch : Option ℤ) → l ≤ℤ more → Epochs l epoch → epoch ≡ Some more → epoch ≡ Some l
led_before l more None low old is = absurd (cc)
led_before l more (Some e) low old is =
    let same : e ≡ more = same_number e more is in
    ap (λ (x : ℤ). Some x) (both_at_most e l old.1 (subst (λ (x : ℤ). l ≤ℤ x) (sym same) low))

-- ---- stages

after_longer : (l more : Log) (claim : Option ℤ) → IsLonger l more → IsAfterMigration l claim → IsAfterMigration more claim
after_longer l more claim longer old = record { claimed = old.claimed; migrated = longer.migrated old.migrated }

still_unmigrated : (b : Bool) (was : Bool) → (b ≡ true → was ≡ true) → was ≡ false → b ≡ false
still_unmigrated true was back is = absurd (let there = back refl in cc)
still_unmigrated false was back is = refl

migrates_longer : (t : Tree) (l more : Log) (claim : Option ℤ) → (is_migrated_log more ≡ true → is_migrated_log l ≡ true) → Migrates t l claim → Migrates t more claim
migrates_longer t l more claim back old = record { claimed = old.claimed; unmigrated = λ c. still_unmigrated (is_migrated_log more) (is_migrated_log l) back (old.unmigrated c); recorded = old.recorded }

targets_longer : (t : Tree) (l more : Log) (target : Recorded) → IsLonger l more → is_migrated_log l ≡ true → Targets t l target → Targets t more target
targets_longer t l more target longer migrated old = record {
  end = longer.batch_end target.offset old.end;
  past = longer.past migrated target.offset old.past;
  recorded = old.recorded;
}

writes_longer : (t : Tree) (l more : Log) (target : Recorded) (ops : List Op) → IsLonger l more → is_migrated_log l ≡ true → Writes t l target ops → Writes t more target ops
writes_longer t l more target ops longer migrated old = record {
  targets = targets_longer t l more target longer migrated old.targets;
  remaining = old.remaining ∙ ap (λ i. diff (area t) (render i)) (sym (longer.image target.offset (longer.within target.offset old.targets.end)));
}

none_or_some : (m : Option ℤ) (from : ℤ) → m ≡ None → m ≡ Some from → ⊥
none_or_some m from none some = cc

-- a driver that leads has no transaction open
not_filling : (l more : Log) (epoch : Option ℤ) (records : List MetaRecord) → IsLonger l more → Epochs l.epoch epoch → begun_of l ≡ None → (epoch ≡ Some l.epoch → Fills l records) → epoch ≡ Some more.epoch → ⊥
not_filling l more epoch records longer epochs none fills leads =
    let f = fills (led_before l.epoch more.epoch epoch longer.epoch epochs leads) in none_or_some (begun_of l) f.from none f.begun

at_longer : (t : Tree) (l more : Log) (d : Driver) (x : Stage) → IsLonger l more → (is_migrated_log more ≡ true → is_migrated_log l ≡ true) → Epochs l.epoch d.epoch → (d.epoch ≡ Some more.epoch → begun_of l ≡ None) → AtStage t l d x → AtStage t more d x
at_longer t l more d stage.Uninitialized longer back epochs none at = tt
at_longer t l more d stage.Inactive longer back epochs none at = tt
at_longer t l more d stage.WaitForControllerQuorum longer back epochs none at = tt
at_longer t l more d stage.WaitForBrokers longer back epochs none at = tt
at_longer t l more d stage.ListBrokers longer back epochs none at = tt
at_longer t l more d stage.ReadControlZnodes longer back epochs none at = tt
at_longer t l more d (stage.ClaimLeadership seen) longer back epochs none at = at
at_longer t l more d (stage.ScanForMigration rows) longer back epochs none at = (migrates_longer t l more d.claim back at.0, at.1)
at_longer t l more d (stage.BeginMigration rows) longer back epochs none at = (migrates_longer t l more d.claim back at.0, at.1)
at_longer t l more d (stage.AppendRecords records) longer back epochs none at =
    (migrates_longer t l more d.claim back at.0, λ c leads. absurd (not_filling l more d.epoch records longer epochs (none leads) (at.1 c) leads))
at_longer t l more d stage.ReadLogForResync longer back epochs none at = after_longer l more d.claim longer at
at_longer t l more d (stage.ScanForResync target rows) longer back epochs none at =
    (after_longer l more d.claim longer at.0, at.1, λ c. let old = at.2 c in (targets_longer t l more target longer at.0.migrated old.0, old.1))
at_longer t l more d (stage.WriteResync target ops) longer back epochs none at = (after_longer l more d.claim longer at.0, at.1, λ c. writes_longer t l more target ops longer at.0.migrated (at.2 c))
at_longer t l more d stage.KraftControllerToBrokerComm longer back epochs none at = (after_longer l more d.claim longer at.0, at.1)
at_longer t l more d stage.DualWrite longer back epochs none at = (after_longer l more d.claim longer at.0, at.1)
at_longer t l more d (stage.WriteDelta target ops) longer back epochs none at = (after_longer l more d.claim longer at.0, at.1, λ c. writes_longer t l more target ops longer at.0.migrated (at.2 c))

-- ---- what a driver recorded

own_longer : (t : Tree) (l more : Log) (own : Option ℤ) → IsLonger l more → ((r : Recorded) → is_migrated_log l ≡ true → migration_record t ≡ Some r → r.offset ≤ℤ end_of l) → OwnRecord t l own → OwnRecord t more own
own_longer t l more own longer within old = record {
  low = λ o is. let was = old.low o is in (longer.migrated was.0, was.1, was.2, was.3);
  rest = λ o r is found same end.
      absurd (less_itself (end_of l) (end_of more) longer.end
      (subst (λ (x : ℤ). x ≤ℤ end_of l) (same ∙ sym end) (within r (old.low o is).0 found)));
}

pub others_longer : (s : Shared) (more : Log) (d : Driver) → IsLonger s.log more → (is_migrated_log more ≡ true → is_migrated_log s.log ≡ true)
    → (d.epoch ≡ Some more.epoch → (begun_of s.log ≡ None) × (is_open_log more ≡ false)) → ((r : Recorded) → is_migrated_log s.log ≡ true → migration_record s.tree ≡ Some r → r.offset ≤ℤ end_of s.log)
    → IsSoundDriver s d → IsSoundDriver (record s { log = more }) d
others_longer s more d longer back leads within fine = record {
  id = fine.id;
  epochs = epochs_longer s.log.epoch more.epoch d.epoch longer.epoch fine.epochs;
  elected = fine.elected;
  claims = claims_longer s.log.epoch more.epoch (claim_version s.tree) (shown_in s.tree) d.epoch d.claim longer.epoch fine.claims;
  views = record {
    view = longer.view d.view fine.views.view;
    epoch_range = fine.views.epoch_range;
    migrated = λ is. longer.migrated (fine.views.migrated is);
    unknown = λ is none some. fine.views.unknown (back is) none some;
  };
  own_record = own_longer s.tree s.log more d.recorded longer within fine.own_record;
  leads = λ is filling. (leads is).1;
  stage = at_longer s.tree s.log more d d.stage longer back fine.epochs (λ is. (leads is).0) fine.stage;
}

-- ---- the commit of another

same_shown : (shown epoch : Option ℤ) → shown ≡ epoch → IsBelowShown shown epoch → ⊥
same_shown shown epoch is below =
    let own : epoch_or_zero epoch ≡ below.0 = ap epoch_or_zero (sym is ∙ below.1) in
    less_itself (epoch_or_zero epoch) below.0 below.2 (at_most_by below.0 (epoch_or_zero epoch) (sym own))

pub below_not_current : (log_epoch : ℤ) (t : Tree) (epoch claim : Option ℤ) → Claims log_epoch (claim_version t) (shown_in t) epoch claim → (epoch ≢ None → IsBelowShown (shown_in t) epoch) → IsCurrent t claim → ⊥
below_not_current log_epoch t epoch claim claims below c =
    same_shown (shown_in t) epoch (shows_own log_epoch (claim_version t) (shown_in t) epoch claim claims c.0 c.1)
    (below (was_elected log_epoch (claim_version t) (shown_in t) epoch claim claims c.1))

migrates_past : (t : Tree) (l more : Log) (claim : Option ℤ) → (IsCurrent t claim → ⊥) → Migrates t l claim → Migrates t more claim
migrates_past t l more claim past old = record { claimed = old.claimed; unmigrated = λ c. absurd (past c); recorded = old.recorded }

at_committed : (t : Tree) (l more : Log) (d : Driver) (x : Stage) → IsLonger l more → (IsCurrent t d.claim → ⊥) → AtStage t l d x → AtStage t more d x
at_committed t l more d stage.Uninitialized longer past at = tt
at_committed t l more d stage.Inactive longer past at = tt
at_committed t l more d stage.WaitForControllerQuorum longer past at = tt
at_committed t l more d stage.WaitForBrokers longer past at = tt
at_committed t l more d stage.ListBrokers longer past at = tt
at_committed t l more d stage.ReadControlZnodes longer past at = tt
at_committed t l more d (stage.ClaimLeadership seen) longer past at = at
at_committed t l more d (stage.ScanForMigration rows) longer past at = (migrates_past t l more d.claim past at.0, λ c. absurd (past c))
at_committed t l more d (stage.BeginMigration rows) longer past at = (migrates_past t l more d.claim past at.0, λ c. absurd (past c))
at_committed t l more d (stage.AppendRecords records) longer past at = (migrates_past t l more d.claim past at.0, λ c. absurd (past c))
at_committed t l more d stage.ReadLogForResync longer past at = after_longer l more d.claim longer at
at_committed t l more d (stage.ScanForResync target rows) longer past at = (after_longer l more d.claim longer at.0, at.1, λ c. absurd (past c))
at_committed t l more d (stage.WriteResync target ops) longer past at = (after_longer l more d.claim longer at.0, at.1, λ c. absurd (past c))
at_committed t l more d stage.KraftControllerToBrokerComm longer past at = (after_longer l more d.claim longer at.0, λ c. absurd (past c))
at_committed t l more d stage.DualWrite longer past at = (after_longer l more d.claim longer at.0, λ c. absurd (past c))
at_committed t l more d (stage.WriteDelta target ops) longer past at = (after_longer l more d.claim longer at.0, at.1, λ c. absurd (past c))

true_or_false : (b : Bool) → b ≡ true → b ≡ false → ⊥
true_or_false b x y = cc

pub others_committed : (s : Shared) (more : Log) (d : Driver) → IsLonger s.log more → is_migrated_log s.log ≡ false → IsApart d more.epoch
    → (d.epoch ≢ None → IsBelowShown (shown_in s.tree) d.epoch) → IsSoundDriver s d → IsSoundDriver (record s { log = more }) d
others_committed s more d longer before apart below fine = record {
  id = fine.id;
  epochs = epochs_longer s.log.epoch more.epoch d.epoch longer.epoch fine.epochs;
  elected = fine.elected;
  claims = claims_longer s.log.epoch more.epoch (claim_version s.tree) (shown_in s.tree) d.epoch d.claim longer.epoch fine.claims;
  views = record {
    view = longer.view d.view fine.views.view;
    epoch_range = fine.views.epoch_range;
    migrated = λ is. longer.migrated (fine.views.migrated is);
    unknown = λ is none some. fenced_may_not_know (shown_in s.tree) d.epoch d.stage (below some);
  };
  own_record = record {
    low = λ o is. absurd (true_or_false (is_migrated_log s.log) (fine.own_record.low o is).0 before);
    rest = λ o r is found same end. absurd (true_or_false (is_migrated_log s.log) (fine.own_record.low o is).0 before);
  };
  leads = λ is filling. absurd (apart is);
  stage = at_committed s.tree s.log more d d.stage longer (below_not_current s.log.epoch s.tree d.epoch d.claim fine.claims below) fine.stage;
}
