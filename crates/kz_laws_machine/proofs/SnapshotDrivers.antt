-- What is true of a driver stays so where the log is cut at what is recorded.
use Rattle.std.proofs.Common.{◌≡◌, ◌≢◌, ℤ, pos, ◌≤ℤ◌, Bool, true, false, List, Option, Some, None, refl, sym, ap, ◌∙◌, subst}
use Rattle.kz_types.specs.declared.tree.Op.{Op}
use Rattle.kz_types.specs.declared.driver.Stage.{Stage}
use Rattle.kz_types.specs.declared.driver.Stage.TheVariants as stage
use Rattle.kz_types.specs.declared.machine.Recorded.{Recorded}
use Rattle.kz_spec_data.specs.Tree.{Tree, area, migration_record}
use Rattle.kz_spec_data.specs.Log.{Log, end_of, is_migrated_log, is_open_log}
use Rattle.kz_spec_data.specs.Rendering.{render}
use Rattle.kz_spec_data.specs.Difference.{diff}
use Rattle.kz_spec_machine.specs.Driver.{Shared, Driver}
use Rattle.kz_spec_machine.specs.Sound.{claim_version, IsCurrent, shown_in, Claims, Epochs, OwnRecord, IsAfterMigration, Migrates, Targets, Writes, AtStage, LeadsSettledLog, IsSoundDriver}
use Rattle.kz_laws_machine.specs.Snapshots.{IsCut}

module _ (t : Tree) (l cut : Log) (r : Recorded) (cuts : IsCut l cut r.offset) (found : migration_record t ≡ Some r) (was : is_migrated_log l ≡ true) (is : is_migrated_log cut ≡ true) where
  after : (claim : Option ℤ) → IsAfterMigration l claim → IsAfterMigration cut claim
  after claim old = record { claimed = old.claimed; migrated = is }

  not_current : (claim : Option ℤ) → Migrates t l claim → IsCurrent t claim → ⊥
  not_current claim old c = let un = old.unmigrated c in let both : true ≡ false = sym was ∙ un in absurd (cc)

  migrates : (claim : Option ℤ) → Migrates t l claim → Migrates t cut claim
  migrates claim old = record { claimed = old.claimed; unmigrated = λ c. absurd (not_current claim old c); recorded = old.recorded }

  targets : (target : Recorded) → Targets t l target → Targets t cut target
  targets target old = record { end = cuts.batch_end target.offset old.end (old.recorded r found); past = cuts.past target.offset old.past; recorded = old.recorded }

  writes : (target : Recorded) (ops : List Op) → Writes t l target ops → Writes t cut target ops
  writes target ops old = record {
    targets = targets target old.targets;
    remaining = old.remaining ∙ ap (λ i. diff (area t) (render i)) (sym (cuts.image target.offset old.targets.end (old.targets.recorded r found)));
  }

  at : (d : Driver) (x : Stage) → AtStage t l d x → AtStage t cut d x
  at d stage.Uninitialized old = tt
  at d stage.Inactive old = tt
  at d stage.WaitForControllerQuorum old = tt
  at d stage.WaitForBrokers old = tt
  at d stage.ListBrokers old = tt
  at d stage.ReadControlZnodes old = tt
  at d (stage.ClaimLeadership seen) old = old
  at d (stage.ScanForMigration rows) old = (migrates d.claim old.0, old.1)
  at d (stage.BeginMigration rows) old = (migrates d.claim old.0, old.1)
  at d (stage.AppendRecords records) old = (migrates d.claim old.0, λ c leads. absurd (not_current d.claim old.0 c))
  at d stage.ReadLogForResync old = after d.claim old
  at d (stage.ScanForResync target rows) old = (after d.claim old.0, old.1, λ c. (targets target (old.2 c).0, (old.2 c).1))
  at d (stage.WriteResync target ops) old = (after d.claim old.0, old.1, λ c. writes target ops (old.2 c))
  at d stage.KraftControllerToBrokerComm old = (after d.claim old.0, old.1)
  at d stage.DualWrite old = (after d.claim old.0, old.1)
  at d (stage.WriteDelta target ops) old = (after d.claim old.0, old.1, λ c. writes target ops (old.2 c))

  own : (recorded : Option ℤ) → OwnRecord t l recorded → OwnRecord t cut recorded
  own recorded old = record {
    low = λ o same. (is, (old.low o same).1, (old.low o same).2, (old.low o same).3);
    rest = λ o q same there offset end. old.rest o q same there offset (sym cuts.end ∙ end);
  }

module _ (s : Shared) (cut : Log) (r : Recorded) (cuts : IsCut s.log cut r.offset) (found : migration_record s.tree ≡ Some r) (was : is_migrated_log s.log ≡ true) (is : is_migrated_log cut ≡ true)
    (settled : is_open_log cut ≡ is_open_log s.log) where
  pub driver_stays : (d : Driver) → IsSoundDriver s d → IsSoundDriver (record s { log = cut }) d
  driver_stays d fine = record {
    id = fine.id;
    epochs = subst (λ (e : ℤ). Epochs e d.epoch) (sym cuts.epoch) fine.epochs;
    elected = fine.elected;
    claims = subst (λ (e : ℤ). Claims e (claim_version s.tree) (shown_in s.tree) d.epoch d.claim) (sym cuts.epoch) fine.claims;
    views = record {
      view = cuts.view d.view fine.views.view;
      epoch_range = fine.views.epoch_range;
      migrated = λ known. is;
      unknown = λ now none some. fine.views.unknown was none some;
    };
    own_record = own s.tree s.log cut r cuts found was is d.recorded fine.own_record;
    leads = λ leads filling. settled ∙ fine.leads (leads ∙ ap (λ (e : ℤ). Some e) cuts.epoch) filling;
    stage = at s.tree s.log cut r cuts found was is d d.stage fine.stage;
  }
