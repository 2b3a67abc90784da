-- A controller that another one has taken over from: no turn of it changes the tree or the log, also one that a failure cut off.
use Rattle.std.proofs.Common.{arith, ◌≡◌, ◌⊎◌, inl, inr, ℕ, zero, suc, ℤ, pos, ◌≤ℤ◌, List, [], ◌∷◌, Option, Some, None, refl, sym, subst, ◌∙◌}
use Rattle.std.proofs.lemmas.Int.{ints}
use Rattle.kz_types.specs.declared.machine.Reply.{Reply}
use Rattle.kz_types.specs.declared.plan.Plan.TheVariants as plan
use Rattle.kz_spec_machine.specs.Driver.{Shared, Driver, epoch_or_zero, step}
use Rattle.kz_spec_machine.specs.Machine.{turn}
use Rattle.kz_spec_machine.specs.Failures.{IsCutOff}
use Rattle.kz_spec_machine.specs.Sound.{IsTime, IsSharedSound, IsSoundDriver, Epochs, IsBelowShown, shown_in}
use Rattle.kz_laws_events.specs.Steps.{StepKeeps}
use Rattle.kz_laws_machine.proofs.FenceDrivers.{fenced_driver}
use Rattle.kz_laws_events.proofs.Turned.{GoesOn, one_step, one_own, turn_leaves}

abbrev IsFenced : Shared → Driver → Type 0
IsFenced s d = IsBelowShown (shown_in s.tree) d.epoch

-- a driver that resigns is below the shown epoch still
least_epoch : (log_epoch : ℤ) (epoch : Option ℤ) → Epochs log_epoch epoch → pos 0 ≤ℤ epoch_or_zero epoch
least_epoch log_epoch None fine = omega (arith, ints)
least_epoch log_epoch (Some e) fine = omega (arith, ints, fine.0.least)

below_none : (log_epoch : ℤ) (shown epoch : Option ℤ) → Epochs log_epoch epoch → IsBelowShown shown epoch → IsBelowShown shown None
below_none log_epoch shown epoch fine (e, is, below) = (e, is, (let least = least_epoch log_epoch epoch fine in omega (arith, ints, least, below)))

below_after : (log_epoch : ℤ) (shown epoch after : Option ℤ) → Epochs log_epoch epoch → (after ≡ epoch) ⊎ (after ≡ None) → IsBelowShown shown epoch → IsBelowShown shown after
below_after log_epoch shown epoch after fine (inl same) below = subst (IsBelowShown shown) (sym same) below
below_after log_epoch shown epoch after fine (inr none) below = subst (IsBelowShown shown) (sym none) (below_none log_epoch shown epoch fine below)

-- what a step, or a turn, of such a driver leaves
abbrev pub Leaves : Shared → Driver → Shared → Driver → Type 0
Leaves s d t e = IsFenced s d → (t ≡ s) × IsFenced t e

one_leaves : (s : Shared) (running : List ℤ) (now : ℤ) (d : Driver) → IsTime now → IsSharedSound s → IsSoundDriver s d → Leaves s d (step s running now d).shared (step s running now d).driver
unfolding step
one_leaves s running now d time kept fine fenced =
    let same = fenced_driver plan.Deliver s running now d fine fenced in (
      same,
      subst (λ (x : Shared). IsBelowShown (shown_in x.tree) (step s running now d).driver.epoch) (sym same)
          (below_after s.log.epoch (shown_in s.tree) d.epoch (step s running now d).driver.epoch fine.epochs (one_own s running now d).1 fenced),
    )

leaves_on : GoesOn Leaves
leaves_on s d t e u f own keeps one two fenced =
    let first = one fenced in
    let second = two first.1 in
    (second.0 ∙ first.0, second.1)

pub fenced_turn : (n : ℕ) (s : Shared) (running : List ℤ) (now : ℤ) (d : Driver) → IsTime now → IsSharedSound s → IsSoundDriver s d → Leaves s d (turn n s running now d).shared (turn n s running now d).driver
fenced_turn n s running now d time kept fine = turn_leaves Leaves (λ t e fenced. (refl, fenced)) leaves_on one_leaves n s running now d time kept fine

-- one that a failure cut off
pub fenced_cut_off : (n : ℕ) (s : Shared) (running : List ℤ) (now : ℤ) (d : Driver) (replies : List Reply) (new : Shared) (after : Driver) → IsTime now → IsSharedSound s → IsSoundDriver s d → IsFenced s d → IsCutOff n s running now d replies new after → new ≡ s
unfolding IsCutOff
fenced_cut_off zero s running now d replies new after time kept fine fenced cut = absurd cut
fenced_cut_off (suc n) s running now d [] new after time kept fine fenced cut = absurd cut
fenced_cut_off (suc n) s running now d (r ∷ []) new after time kept fine fenced cut = cut.1
fenced_cut_off (suc n) s running now d (r ∷ q ∷ rs) new after time kept fine fenced cut =
    let x = step s running now d in
    let k : StepKeeps s d x.shared x.driver = one_step s running now d time kept fine in
    let first = one_leaves s running now d time kept fine fenced in
    fenced_cut_off n x.shared running now x.driver (q ∷ rs) new after time k.shared k.driver first.1 cut.2 ∙ first.0
