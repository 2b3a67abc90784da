-- Choices, refusals, and numbers in range.
use Rattle.std.proofs.Common.{◌≡◌, ◌≢◌, ℤ, pos, ◌+ℤ◌, ◌≤ℤ◌, int_le, Bool, true, false, Option, Some, None, refl, sym, subst, arith}
use Rattle.std.specs.Prelude.{◌<ℤ◌}
use Rattle.std.proofs.lemmas.Int.{ints}
use Rattle.kz_spec_data.specs.Tree.{Refusal}
use Rattle.kz_spec_machine.specs.Driver.{epoch_or_zero}
use Rattle.kz_spec_machine.specs.Sound.{IsEpochOrNone, Epochs}

pub true_or_false : (b : Bool) → b ≡ true → b ≡ false → ⊥
true_or_false b x y = cc

pub not_refused : (m : Option Refusal) (r : Refusal) → m ≡ None → m ≡ Some r → ⊥
not_refused m r none some = cc

pub less_than_next : (v w : ℤ) → v ≡ w → v <ℤ (w +ℤ pos 1)
less_than_next v w is = omega (arith, ints, is)

pub not_below_zero : (n : ℤ) → pos 0 ≤ℤ n → int_le (pos 0) n ≡ true
not_below_zero n low = grind (arith, ints)

pub own_epoch : (epoch : Option ℤ) → epoch ≢ None → Some (epoch_or_zero epoch) ≡ epoch
own_epoch None elected = absurd (elected refl)
own_epoch (Some e) elected = refl

pub epoch_within : (l : ℤ) (epoch : Option ℤ) → Epochs l epoch → epoch ≢ None → epoch_or_zero epoch ≤ℤ l
epoch_within l None epochs elected = absurd (elected refl)
epoch_within l (Some e) epochs elected = epochs.1

pub epoch_or_none : (l : ℤ) (epoch : Option ℤ) → Epochs l epoch → IsEpochOrNone (epoch_or_zero epoch)
epoch_or_none l None epochs = record { least = omega (arith, ints); most = omega (arith, ints) }
epoch_or_none l (Some e) epochs = record { least = let a = epochs.0.least in omega (arith, ints, a); most = epochs.0.most }

pub epoch_of : (l : ℤ) (epoch : Option ℤ) (c : ℤ) → Epochs l epoch → Some c ≡ epoch → IsEpochOrNone c
epoch_of l None c epochs is = absurd (cc)
epoch_of l (Some e) c epochs is =
    let same : c ≡ e = cc in
    subst IsEpochOrNone (sym same) (record { least = let a = epochs.0.least in omega (arith, ints, a); most = epochs.0.most })
