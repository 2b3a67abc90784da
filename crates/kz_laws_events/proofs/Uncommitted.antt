-- A batch that leaves an unmigrated log so.
use Rattle.std.proofs.Common.{◌≡◌, ◌≢◌, ℤ, false, List, Option, Some, None}
use Rattle.kz_types.specs.declared.driver.Stage.TheVariants as stage
use Rattle.kz_types.specs.declared.record.MetaRecord.{MetaRecord}
use Rattle.kz_spec_data.specs.Tree.{Tree}
use Rattle.kz_spec_data.specs.Log.{Log, is_migrated_log}
use Rattle.kz_spec_machine.specs.Driver.{Shared, Driver, at_stage, resigned_driver}
use Rattle.kz_spec_machine.specs.Sound.{LogShape, Unmigrated, IsSharedSound, claim_version, shown_in, OwnRecord, Migrates, Fills, IsSoundDriver}
use Rattle.kz_laws_machine.specs.Effects.{IsLonger}
use Rattle.kz_laws_machine.proofs.Longer.{epochs_longer, claims_longer, others_longer}
use Rattle.kz_laws_events.specs.Steps.{IsApartFrom, StepKeeps}
use Rattle.kz_laws_events.proofs.Tests.{true_or_false}
use Rattle.kz_laws_events.proofs.Ways.{Lasts, resigned}

-- what is known of such a batch
pub record IsUnmigratedBatch (l more : Log) : Type 0 where
  pub longer : IsLonger l more
  pub shape : LogShape more
  pub was : is_migrated_log l ≡ false
  pub still : is_migrated_log more ≡ false
  pub before : Unmigrated more

-- what a step keeps where its driver hears of its append, and where it doesn't
pub record Both (s : Shared) (d : Driver) (more : Log) (after : Driver) : Type 0 where
  pub heard : StepKeeps s d (record s { log = more }) after
  pub lost : StepKeeps s d (record s { log = more }) (resigned_driver d)

-- a driver of an unmigrated log has recorded no offset
pub none_recorded : (t : Tree) (l more : Log) (own : Option ℤ) → is_migrated_log l ≡ false → OwnRecord t l own → OwnRecord t more own
none_recorded t l more own was old = record {
  low = λ o is. absurd (true_or_false (is_migrated_log l) (old.low o is).0 was);
  rest = λ o r is found same end. absurd (true_or_false (is_migrated_log l) (old.low o is).0 was);
}

shared_kept : (s : Shared) (more : Log) → IsSharedSound s → IsUnmigratedBatch s.log more → IsSharedSound (record s { log = more })
shared_kept s more kept b = record {
  tree = kept.tree;
  log = b.shape;
  before = λ still. b.before;
  agreement = λ migrated. absurd (true_or_false (is_migrated_log more) migrated b.still);
}

others_kept : (s : Shared) (more : Log) (f : Driver) → IsUnmigratedBatch s.log more → (f.epoch ≡ Some more.epoch → ⊥) → IsSoundDriver s f → IsSoundDriver (record s { log = more }) f
others_kept s more f b other fine = others_longer s more f b.longer (λ migrated. absurd (true_or_false (is_migrated_log more) migrated b.still)) (λ leads. absurd (other leads)) (λ r migrated found. absurd (true_or_false (is_migrated_log s.log) migrated b.was)) fine

lasts_longer : (s : Shared) (more : Log) (d : Driver) → IsLonger s.log more → is_migrated_log s.log ≡ false → IsSoundDriver s d → Lasts (record s { log = more }) d
lasts_longer s more d longer was fine = record {
  id = fine.id;
  view = longer.view d.view fine.views.view;
  range = fine.views.epoch_range;
  migrated = λ is. longer.migrated (fine.views.migrated is);
  own = none_recorded s.tree s.log more d.recorded was fine.own_record;
}

-- the driver that doesn't hear of its append resigns
pub lost_append : (s : Shared) (more : Log) (d : Driver) → IsLonger s.log more → is_migrated_log s.log ≡ false → IsSoundDriver s d → IsSoundDriver (record s { log = more }) (resigned_driver d)
lost_append s more d longer was fine = resigned (record s { log = more }) d (lasts_longer s more d longer was fine)

migrates_kept : (t : Tree) (l more : Log) (claim : Option ℤ) → is_migrated_log more ≡ false → Migrates t l claim → Migrates t more claim
migrates_kept t l more claim still old = record { claimed = old.claimed; unmigrated = λ c. still; recorded = old.recorded }

-- and one that does goes on to fill its transaction
filling : (s : Shared) (more : Log) (d : Driver) (rest : List MetaRecord) → IsUnmigratedBatch s.log more → IsSoundDriver s d → d.epoch ≢ None → Migrates s.tree s.log d.claim → Fills more rest → IsSoundDriver (record s { log = more }) (at_stage (stage.AppendRecords rest) d)
filling s more d rest b fine elected migrates fills = record {
  id = fine.id;
  epochs = epochs_longer s.log.epoch more.epoch d.epoch b.longer.epoch fine.epochs;
  elected = elected;
  claims = claims_longer s.log.epoch more.epoch (claim_version s.tree) (shown_in s.tree) d.epoch d.claim b.longer.epoch fine.claims;
  views = record {
    view = b.longer.view d.view fine.views.view;
    epoch_range = fine.views.epoch_range;
    migrated = λ is. b.longer.migrated (fine.views.migrated is);
    unknown = λ migrated none some. absurd (true_or_false (is_migrated_log more) migrated b.still);
  };
  own_record = none_recorded s.tree s.log more d.recorded b.was fine.own_record;
  leads = λ leads filling. absurd (cc);
  stage = (migrates_kept s.tree s.log more d.claim b.still migrates, λ c leads. fills);
}

pub filled : (s : Shared) (more : Log) (d : Driver) (rest : List MetaRecord) → IsSharedSound s → IsSoundDriver s d → IsUnmigratedBatch s.log more → d.epoch ≢ None → Migrates s.tree s.log d.claim → Fills more rest
    → ((f : Driver) → IsApartFrom d f → f.epoch ≡ Some more.epoch → ⊥) → Both s d more (at_stage (stage.AppendRecords rest) d)
filled s more d rest kept fine b elected migrates fills other = record {
  heard = record { shared = shared_kept s more kept b; driver = filling s more d rest b fine elected migrates fills; others = λ f apart old. others_kept s more f b (other f apart) old };
  lost = record { shared = shared_kept s more kept b; driver = lost_append s more d b.longer b.was fine; others = λ f apart old. others_kept s more f b (other f apart) old };
}
