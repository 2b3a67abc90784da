-- Multis of clients, whether a KRaft controller holds the tree or none does.
use Rattle.std.proofs.Common.{◌≡◌, ℤ, ◌≤ℤ◌, Bool, true, false, List, Option, Some, None, is_some, All, refl, sym, ap, subst}
use Rattle.std.specs.Prelude.{Result, Ok, Err}
use Rattle.kz_types.specs.declared.tree.Op.{Op}
use Rattle.kz_types.specs.declared.driver.ClaimSeen.{ClaimSeen}
use Rattle.kz_types.specs.declared.driver.Stage.{Stage}
use Rattle.kz_types.specs.declared.driver.Stage.TheVariants as stage
use Rattle.kz_types.specs.declared.fault.TreeFault.{TreeFault}
use Rattle.kz_types.specs.declared.machine.Event.TheVariants as event
use Rattle.kz_spec_data.specs.Tree.{Tree, multi}
use Rattle.kz_spec_data.specs.Log.{Log, is_migrated_log}
use Rattle.kz_spec_machine.specs.Driver.{Shared, Driver}
use Rattle.kz_spec_machine.specs.Machine.{World, with_tree, is_held_tree, client_refusal, client_world, next}
use Rattle.kz_spec_machine.specs.Sound.{TreeShape, Agreement, IsSharedSound, claim_version, shown_in, Claims, Looks, AtStage, IsSoundDriver, Sound, IsLawfulOp}
use Rattle.kz_laws_machine.proofs.Numbers.{at_most_then}
use Rattle.kz_laws_machine.proofs.Multi.{multi_ran}
use Rattle.kz_laws_machine.proofs.Clients.{client_keeps_shape}
use Rattle.kz_laws_machine.proofs.Standing.{client_unheld}
use Rattle.kz_laws_machine.proofs.Versions.{client_keeps_version}
use Rattle.kz_laws_events.proofs.Tests.{true_or_false}
use Rattle.kz_laws_events.proofs.EventCases.{unless_taken, client_sound}

-- ---- a tree that no KRaft controller holds

-- what a client's multi makes of it
record IsUnheld (t new : Tree) : Type 0 where
  before : is_held_tree t ≡ false
  after : is_held_tree new ≡ false
  shape : TreeShape new
  versions : (v : ℤ) → claim_version t ≡ Some v → (n : ℤ) × (claim_version new ≡ Some n) × (v ≤ℤ n)

none_shown : (m : Option ℤ) → is_some m ≡ false → m ≡ None
none_shown None is = refl
none_shown (Some e) is = absurd (cc)

not_shown : (m : Option ℤ) (e : ℤ) → is_some m ≡ false → m ≡ Some e → ⊥
not_shown m e none is = true_or_false (is_some m) (ap is_some is) none

-- no driver has a claim on it
pub none_claimed : (log_epoch : ℤ) (version shown epoch claim : Option ℤ) → Claims log_epoch version shown epoch claim → is_some shown ≡ false → claim ≡ None
none_claimed log_epoch version shown epoch None claims none = refl
none_claimed log_epoch version shown epoch (Some v) claims none = absurd (claims.held (none_shown shown none))

unmigrated_by : (t : Tree) (l : Log) (b : Bool) → is_migrated_log l ≡ b → (is_migrated_log l ≡ true → Agreement t l) → is_held_tree t ≡ false → b ≡ false
unmigrated_by t l true is agrees none = absurd (true_or_false (is_held_tree t) (agrees is).holds none)
unmigrated_by t l false is agrees none = refl

-- nor is the log migrated
pub unmigrated : (s : Shared) → IsSharedSound s → is_held_tree s.tree ≡ false → is_migrated_log s.log ≡ false
unmigrated s kept none = unmigrated_by s.tree s.log (is_migrated_log s.log) refl kept.agreement none

looks_unheld : (t new : Tree) (epoch : Option ℤ) (seen : ClaimSeen) → IsUnheld t new → Looks t epoch seen → Looks new epoch seen
looks_unheld t new epoch seen u old = record {
  version = old.version;
  low = λ r is.
      let before = old.low r is in
      let now = u.versions before.0 before.1 in
      (now.0, now.1, at_most_then r.version before.0 now.0 before.2 now.2);
  first = λ sees e is. absurd (not_shown (shown_in new) e u.after is);
  bases = old.bases;
}

at_unheld : (t new : Tree) (l : Log) (d : Driver) (x : Stage) → IsUnheld t new → d.claim ≡ None → AtStage t l d x → AtStage new l d x
at_unheld t new l d stage.Uninitialized u none at = tt
at_unheld t new l d stage.Inactive u none at = tt
at_unheld t new l d stage.WaitForControllerQuorum u none at = tt
at_unheld t new l d stage.WaitForBrokers u none at = tt
at_unheld t new l d stage.ListBrokers u none at = tt
at_unheld t new l d stage.ReadControlZnodes u none at = tt
at_unheld t new l d (stage.ClaimLeadership seen) u none at = looks_unheld t new d.epoch seen u at
at_unheld t new l d (stage.ScanForMigration rows) u none at = absurd (at.0.claimed none)
at_unheld t new l d (stage.BeginMigration rows) u none at = absurd (at.0.claimed none)
at_unheld t new l d (stage.AppendRecords records) u none at = absurd (at.0.claimed none)
at_unheld t new l d stage.ReadLogForResync u none at = absurd (at.claimed none)
at_unheld t new l d (stage.ScanForResync target rows) u none at = absurd (at.0.claimed none)
at_unheld t new l d (stage.WriteResync target ops) u none at = absurd (at.0.claimed none)
at_unheld t new l d stage.KraftControllerToBrokerComm u none at = absurd (at.0.claimed none)
at_unheld t new l d stage.DualWrite u none at = absurd (at.0.claimed none)
at_unheld t new l d (stage.WriteDelta target ops) u none at = absurd (at.0.claimed none)

driver_unheld : (s : Shared) (new : Tree) (d : Driver) → IsUnheld s.tree new → IsSharedSound s → IsSoundDriver s d → IsSoundDriver (record s { tree = new }) d
driver_unheld s new d u kept fine =
    let none = none_claimed s.log.epoch (claim_version s.tree) (shown_in s.tree) d.epoch d.claim fine.claims u.before in
    let before = unmigrated s kept u.before in
    record {
      id = fine.id;
      epochs = fine.epochs;
      elected = fine.elected;
      claims = subst (λ (c : Option ℤ). Claims s.log.epoch (claim_version new) (shown_in new) d.epoch c) (sym none) tt;
      views = record {
        view = fine.views.view;
        epoch_range = fine.views.epoch_range;
        migrated = fine.views.migrated;
        unknown = λ migrated known some. absurd (true_or_false (is_migrated_log s.log) migrated before);
      };
      own_record = record {
        low = λ o is. absurd (true_or_false (is_migrated_log s.log) (fine.own_record.low o is).0 before);
        rest = λ o r is found same end. absurd (true_or_false (is_migrated_log s.log) (fine.own_record.low o is).0 before);
      };
      leads = fine.leads;
      stage = at_unheld s.tree new s.log d d.stage u none fine.stage;
    }

world_unheld : (w : World) (new : Tree) → IsUnheld w.shared.tree new → Sound w → Sound (with_tree w new)
world_unheld w new u sound = record {
  kept = record {
    tree = u.shape;
    log = sound.kept.log;
    before = sound.kept.before;
    agreement = λ migrated. absurd (true_or_false (is_migrated_log w.shared.log) migrated (unmigrated w.shared sound.kept u.before));
  };
  each = λ id d found. driver_unheld w.shared new d u sound.kept (sound.each id d found);
  apart = sound.apart;
}

-- ---- a client's multi

unheld_by : (w : World) (ops : List Op) (r : Result Tree TreeFault) → multi w.shared.tree ops ≡ r → All IsLawfulOp ops → is_held_tree w.shared.tree ≡ false → Sound w → client_refusal w.shared.tree ops ≡ None → Sound (client_world w r).0
unheld_by w ops (Ok new) is lawful before sound none =
    world_unheld w new (record {
      before = before;
      after = client_unheld w.shared.tree new ops (multi_ran w.shared.tree new ops is) none sound.kept.tree before;
      shape = client_keeps_shape w.shared.tree new ops is none lawful sound.kept.tree;
      versions = λ v there. client_keeps_version w.shared.tree new ops v is none there;
    }) sound
unheld_by w ops (Err f) is lawful before sound none = sound

unheld_sound : (w : World) (ops : List Op) → All IsLawfulOp ops → is_held_tree w.shared.tree ≡ false → Sound w → Sound (next w (event.Zk ops)).0
unfolding next
unheld_sound w ops lawful before sound =
    unless_taken Sound w (client_refusal w.shared.tree ops) (client_world w (multi w.shared.tree ops)) sound (unheld_by w ops (multi w.shared.tree ops) refl lawful before sound)

either_sound : (w : World) (ops : List Op) (b : Bool) → is_held_tree w.shared.tree ≡ b → All IsLawfulOp ops → Sound w → Sound (next w (event.Zk ops)).0
either_sound w ops true is lawful sound = client_sound w ops lawful is sound
either_sound w ops false is lawful sound = unheld_sound w ops lawful is sound

pub clients_sound : (w : World) (ops : List Op) → All IsLawfulOp ops → Sound w → Sound (next w (event.Zk ops)).0
clients_sound w ops lawful sound = either_sound w ops (is_held_tree w.shared.tree) refl lawful sound
