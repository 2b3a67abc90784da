-- A claim by another controller.
use Rattle.std.proofs.Common.{◌≡◌, ◌≢◌, ◌⊎◌, inl, inr, ℤ, ◌≤ℤ◌, true, Option, Some, None, option_map, refl, sym, ap, ◌∙◌, subst}
use Rattle.std.specs.Prelude.{◌<ℤ◌}
use Rattle.kz_types.specs.declared.tree.Row.{Row}
use Rattle.kz_types.specs.declared.driver.ClaimSeen.{ClaimSeen}
use Rattle.kz_types.specs.declared.driver.Stage.{Stage}
use Rattle.kz_types.specs.declared.driver.Stage.TheVariants as stage
use Rattle.kz_spec_data.specs.Tree.{Tree}
use Rattle.kz_spec_data.specs.Log.{Log, is_migrated_log}
use Rattle.kz_spec_machine.specs.Driver.{Shared, Driver, epoch_or_zero}
use Rattle.kz_spec_machine.specs.Sound.{claim_version, IsCurrent, shown_in, IsBelowShown, IsClaimOf, Claims, OwnRecord, Looks, Migrates, AtStage, IsSoundDriver}
use Rattle.kz_laws_machine.specs.Effects.{KeepsRecord, IsClaimed}
use Rattle.kz_laws_machine.specs.Others.{IsApart}
use Rattle.kz_laws_machine.proofs.Numbers.{less_itself, same_number, at_most_by, weaker, less_then, then_less, less_or_same}
use Rattle.kz_laws_machine.proofs.Known.{views_shown}

-- ---- the shown epoch rises

below_risen : (shown epoch : Option ℤ) (e : ℤ) → ((x : ℤ) → shown ≡ Some x → x ≤ℤ e) → IsBelowShown shown epoch → IsBelowShown (Some e) epoch
below_risen shown epoch e highest below = (e, refl, less_then (epoch_or_zero epoch) below.0 e below.2 (highest below.0 below.1))

-- the epoch of a driver that was shown is below another that isn't below it
was_shown : (epoch : Option ℤ) (x e : ℤ) → Some x ≡ epoch → x ≤ℤ e → epoch ≢ Some e → IsBelowShown (Some e) epoch
was_shown epoch x e is low other = (e, refl, subst (λ (y : ℤ). y <ℤ e) (ap epoch_or_zero is) (strictly (less_or_same x e low)))
  where
    strictly : (x <ℤ e) ⊎ (x ≡ e) → x <ℤ e
    strictly (inl less) = less
    strictly (inr same) = absurd (other (sym is ∙ ap (λ (y : ℤ). Some y) same))

-- ---- claims

fenced_now : (log_epoch e now x v : ℤ) (epoch : Option ℤ) → IsClaimOf log_epoch (Some now) (Some x) epoch v → x ≤ℤ e → epoch ≢ Some e → IsBelowShown (Some e) epoch
fenced_now log_epoch e now x v epoch old low other = by_order (less_or_same v now (old.low now refl))
  where
    highest : (y : ℤ) → Some x ≡ Some y → y ≤ℤ e
    highest y is = subst (λ (z : ℤ). z ≤ℤ e) (same_number x y is) low

    by_order : (v <ℤ now) ⊎ (v ≡ now) → IsBelowShown (Some e) epoch
    by_order (inl less) = below_risen (Some x) epoch e highest (old.fenced now refl less)
    by_order (inr same) = was_shown epoch x e (old.shows (ap (λ (y : ℤ). Some y) (sym same))) low other

claims_claimed : (log_epoch e n : ℤ) (version shown epoch claim : Option ℤ) → ((v : ℤ) → version ≡ Some v → v <ℤ n) → ((x : ℤ) → shown ≡ Some x → x ≤ℤ e) → e ≤ℤ log_epoch → epoch ≢ Some e
    → Claims log_epoch version shown epoch claim → Claims log_epoch (Some n) (Some e) epoch claim
claims_claimed log_epoch e n version shown epoch None rises highest within other old = tt
claims_claimed log_epoch e n None shown epoch (Some v) rises highest within other old = absurd (old.there refl)
claims_claimed log_epoch e n (Some now) None epoch (Some v) rises highest within other old = absurd (old.held refl)
claims_claimed log_epoch e n (Some now) (Some x) epoch (Some v) rises highest within other old =
    let risen : v <ℤ n = then_less v now n (old.low now refl) (rises now refl) in
    record {
      elected = old.elected;
      least = old.least;
      low = λ m is. weaker v m (subst (λ (y : ℤ). v <ℤ y) (same_number n m is) risen);
      there = λ is. cc;
      held = λ is. cc;
      within = λ y is. subst (λ (z : ℤ). z ≤ℤ log_epoch) (same_number e y is) within;
      shows = λ is. absurd (less_itself v n risen (at_most_by n v (same_number n v is)));
      fenced = λ m is less. fenced_now log_epoch e now x v epoch old (highest x refl) other;
    }

-- a claim that isn't above the old version isn't current
past_claim : (log_epoch n : ℤ) (version shown epoch claim : Option ℤ) → ((v : ℤ) → version ≡ Some v → v <ℤ n) → Claims log_epoch version shown epoch claim → claim ≡ Some n → ⊥
past_claim log_epoch n version shown epoch None rises old is = absurd (cc)
past_claim log_epoch n None shown epoch (Some v) rises old is = old.there refl
past_claim log_epoch n (Some now) shown epoch (Some v) rises old is = less_itself v n (then_less v now n (old.low now refl) (rises now refl)) (at_most_by n v (sym (same_number v n is)))

no_longer : (t new : Tree) (l : Log) (n e : ℤ) (d : Driver) → IsClaimed t new l n e → Claims l.epoch (claim_version t) (shown_in t) d.epoch d.claim → IsCurrent new d.claim → ⊥
no_longer t new l n e d made old current = past_claim l.epoch n (claim_version t) (shown_in t) d.epoch d.claim made.rises old (current.0 ∙ made.version_is)

-- ---- what it recorded

pub own_kept : (t new : Tree) (l : Log) (own : Option ℤ) → (is_migrated_log l ≡ true → KeepsRecord t new) → OwnRecord t l own → OwnRecord new l own
own_kept t new l own keeps old = record {
  low = λ o is. let was = old.low o is in (was.0, was.1, (keeps was.0).recorded ∙ was.2, was.3);
  rest = λ o r is found same end. let k = keeps (old.low o is).0 in k.unclosed ∙ old.rest o r is (sym k.recorded ∙ found) same end;
}

-- ---- a look

sees_less : (n : ℤ) (seen : Option Row) → ((r : Row) → seen ≡ Some r → r.version <ℤ n) → option_map (λ (r : Row). r.version) seen ≡ Some n → ⊥
sees_less n None low is = absurd (cc)
sees_less n (Some r) low is = less_itself r.version n (low r refl) (at_most_by n r.version (sym (same_number r.version n is)))

looks_claimed : (t new : Tree) (l : Log) (n e : ℤ) (epoch : Option ℤ) (seen : ClaimSeen) → IsClaimed t new l n e → Looks t epoch seen → Looks new epoch seen
looks_claimed t new l n e epoch seen made old =
    let less : (r : Row) → seen.epoch ≡ Some r → r.version <ℤ n = λ r is. then_less r.version (old.low r is).0 n (old.low r is).2 (made.rises (old.low r is).0 (old.low r is).1) in
    record {
      version = old.version;
      low = λ r is. (n, made.version_is, weaker r.version n (less r is));
      first = λ sees x is. absurd (sees_less n seen.epoch less (sees ∙ made.version_is));
      bases = old.bases;
    }

-- ---- every stage

migrates_past : (t new : Tree) (l : Log) (claim : Option ℤ) → (IsCurrent new claim → ⊥) → Migrates t l claim → Migrates new l claim
migrates_past t new l claim past old = record { claimed = old.claimed; unmigrated = λ c. absurd (past c); recorded = λ c. absurd (past c) }

-- a driver whose claim isn't current in another tree, which keeps its look
pub at_past : (t new : Tree) (l : Log) (d : Driver) (x : Stage) → (IsCurrent new d.claim → ⊥) → ((seen : ClaimSeen) → Looks t d.epoch seen → Looks new d.epoch seen) → AtStage t l d x → AtStage new l d x
at_past t new l d stage.Uninitialized past looks at = tt
at_past t new l d stage.Inactive past looks at = tt
at_past t new l d stage.WaitForControllerQuorum past looks at = tt
at_past t new l d stage.WaitForBrokers past looks at = tt
at_past t new l d stage.ListBrokers past looks at = tt
at_past t new l d stage.ReadControlZnodes past looks at = tt
at_past t new l d (stage.ClaimLeadership seen) past looks at = looks seen at
at_past t new l d (stage.ScanForMigration rows) past looks at = (migrates_past t new l d.claim past at.0, λ c. absurd (past c))
at_past t new l d (stage.BeginMigration rows) past looks at = (migrates_past t new l d.claim past at.0, λ c. absurd (past c))
at_past t new l d (stage.AppendRecords records) past looks at = (migrates_past t new l d.claim past at.0, λ c. absurd (past c))
at_past t new l d stage.ReadLogForResync past looks at = at
at_past t new l d (stage.ScanForResync target rows) past looks at = (at.0, at.1, λ c. absurd (past c))
at_past t new l d (stage.WriteResync target ops) past looks at = (at.0, at.1, λ c. absurd (past c))
at_past t new l d stage.KraftControllerToBrokerComm past looks at = (at.0, λ c. absurd (past c))
at_past t new l d stage.DualWrite past looks at = (at.0, λ c. absurd (past c))
at_past t new l d (stage.WriteDelta target ops) past looks at = (at.0, at.1, λ c. absurd (past c))

pub others_claimed : (s : Shared) (new : Tree) (n e : ℤ) (d : Driver) → IsClaimed s.tree new s.log n e → IsApart d e → IsSoundDriver s d → IsSoundDriver (record s { tree = new }) d
others_claimed s new n e d made apart fine =
    let claims : Claims s.log.epoch (Some n) (Some e) d.epoch d.claim = claims_claimed s.log.epoch e n (claim_version s.tree) (shown_in s.tree) d.epoch d.claim made.rises made.highest made.within apart fine.claims in
    record {
      id = fine.id;
      epochs = fine.epochs;
      elected = fine.elected;
      claims = subst (λ (v : Option ℤ). Claims s.log.epoch v (shown_in new) d.epoch d.claim) (sym made.version_is) (subst (λ (x : Option ℤ). Claims s.log.epoch (Some n) x d.epoch d.claim) (sym made.shown_is) claims);
      views = views_shown s.log (shown_in s.tree) (shown_in new) d.epoch d.stage d.view
          (λ below. subst (λ (x : Option ℤ). IsBelowShown x d.epoch) (sym made.shown_is) (below_risen (shown_in s.tree) d.epoch e made.highest below)) fine.views;
      own_record = own_kept s.tree new s.log d.recorded made.keeps fine.own_record;
      leads = fine.leads;
      stage = at_past s.tree new s.log d d.stage (no_longer s.tree new s.log n e d made fine.claims) (λ seen old. looks_claimed s.tree new s.log n e d.epoch seen made old) fine.stage;
    }
