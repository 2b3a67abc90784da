-- A driver that has a claim and leads the log is current.
use Rattle.std.proofs.Common.{◌≡◌, ◌≢◌, ◌⊎◌, inl, inr, ℤ, pos, ◌≤ℤ◌, Option, Some, None, refl, sym, ap, ◌∙◌, subst}
use Rattle.std.specs.Prelude.{◌<ℤ◌}
use Rattle.kz_spec_machine.specs.Driver.{Shared, Driver, epoch_or_zero}
use Rattle.kz_spec_machine.specs.Sound.{claim_version, IsCurrent, shown_in, IsBelowShown, Claims, Epochs, IsSoundDriver}
use Rattle.kz_laws_machine.proofs.Numbers.{less_itself, less_or_same}
use Rattle.kz_laws_events.specs.Steps.{IsApartFrom}
use Rattle.kz_laws_events.proofs.Tests.{own_epoch}

-- what is true of the leader
pub record IsLeading (s : Shared) (d : Driver) : Type 0 where
  pub leads : d.epoch ≡ Some s.log.epoch
  pub current : IsCurrent s.tree d.claim
  pub shows : shown_in s.tree ≡ Some s.log.epoch
  pub first : pos 1 ≤ℤ epoch_or_zero d.epoch

current_by : (log_epoch : ℤ) (version shown epoch claim : Option ℤ) → Claims log_epoch version shown epoch claim → claim ≢ None → epoch_or_zero epoch ≡ log_epoch → claim ≡ version
current_by log_epoch version shown epoch None claims some leads = absurd (some refl)
current_by log_epoch None shown epoch (Some v) claims some leads = absurd (claims.there refl)
current_by log_epoch (Some now) shown epoch (Some v) claims some leads = by_order (less_or_same v now (claims.low now refl))
  where
    by_order : (v <ℤ now) ⊎ (v ≡ now) → Some v ≡ Some now
    by_order (inl less) =
        let below = claims.fenced now refl less in
        absurd (less_itself (epoch_or_zero epoch) below.0 below.2 (subst (λ (x : ℤ). below.0 ≤ℤ x) (sym leads) (claims.within below.0 below.1)))
    by_order (inr same) = ap (λ (x : ℤ). Some x) same

shows_by : (log_epoch : ℤ) (version shown epoch claim : Option ℤ) → Claims log_epoch version shown epoch claim → claim ≢ None → claim ≡ version → shown ≡ epoch
shows_by log_epoch version shown epoch None claims some is = absurd (some refl)
shows_by log_epoch version shown epoch (Some v) claims some is = claims.shows (sym is)

first_by : (log_epoch : ℤ) (epoch : Option ℤ) → Epochs log_epoch epoch → epoch ≢ None → pos 1 ≤ℤ epoch_or_zero epoch
first_by log_epoch None epochs some = absurd (some refl)
first_by log_epoch (Some e) epochs some = epochs.0.least

pub first_epoch : (s : Shared) (d : Driver) → IsSoundDriver s d → d.epoch ≢ None → pos 1 ≤ℤ epoch_or_zero d.epoch
first_epoch s d fine elected = first_by s.log.epoch d.epoch fine.epochs elected

pub leading : (s : Shared) (d : Driver) → IsSoundDriver s d → d.epoch ≢ None → d.claim ≢ None → epoch_or_zero d.epoch ≡ s.log.epoch → IsLeading s d
leading s d fine elected claimed is =
    let leads : d.epoch ≡ Some s.log.epoch = sym (own_epoch d.epoch elected) ∙ ap (λ (e : ℤ). Some e) is in
    let current = current_by s.log.epoch (claim_version s.tree) (shown_in s.tree) d.epoch d.claim fine.claims claimed is in
    record {
      leads = leads;
      current = (current, claimed);
      shows = shows_by s.log.epoch (claim_version s.tree) (shown_in s.tree) d.epoch d.claim fine.claims claimed current ∙ leads;
      first = first_by s.log.epoch d.epoch fine.epochs elected;
    }

-- another driver doesn't lead
pub not_leading : (s : Shared) (d f : Driver) (epoch : ℤ) → d.epoch ≢ None → epoch ≡ epoch_or_zero d.epoch → IsApartFrom d f → f.epoch ≡ Some epoch → ⊥
not_leading s d f epoch elected is apart leads = apart elected (sym (own_epoch d.epoch elected) ∙ ap (λ (e : ℤ). Some e) (sym is) ∙ sym leads)

-- and is below the shown epoch
below_by : (log_epoch : ℤ) (shown epoch : Option ℤ) → shown ≡ Some log_epoch → Epochs log_epoch epoch → epoch ≢ Some log_epoch → epoch ≢ None → IsBelowShown shown epoch
below_by log_epoch shown None shows epochs other some = absurd (some refl)
below_by log_epoch shown (Some e) shows epochs other some = (log_epoch, shows, by_order (less_or_same e log_epoch epochs.1))
  where
    by_order : (e <ℤ log_epoch) ⊎ (e ≡ log_epoch) → e <ℤ log_epoch
    by_order (inl less) = less
    by_order (inr same) = absurd (other (ap (λ (x : ℤ). Some x) same))

pub below_shown : (s : Shared) (d f : Driver) → IsLeading s d → IsApartFrom d f → d.epoch ≢ None → IsSoundDriver s f → f.epoch ≢ None → IsBelowShown (shown_in s.tree) f.epoch
below_shown s d f k apart elected fine some = below_by s.log.epoch (shown_in s.tree) f.epoch k.shows fine.epochs (λ same. apart elected (k.leads ∙ sym same)) some
