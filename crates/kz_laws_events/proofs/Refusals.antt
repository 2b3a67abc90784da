-- Events that aren't refused.
use Rattle.std.proofs.Common.{◌≡◌, ℕ, ℤ, Bool, true, false, Option, Some, None, option_map, refl, ap, subst}
use Rattle.std.specs.Ordering.{int_eq}
use Rattle.std.proofs.lemmas.Bool.Decides.{Decides-int_eq}
use Rattle.kz_types.specs.declared.machine.Answer.{Answer}
use Rattle.kz_types.specs.declared.machine.Answer.TheVariants as answer
use Rattle.kz_spec_data.specs.Image.{Bad}
use Rattle.kz_spec_data.specs.Rendering.{Excess}
use Rattle.kz_spec_machine.specs.Driver.{Driver}
use Rattle.kz_spec_machine.specs.Machine.{World, driver_of, outcome_unless, first_of, unless, over, over_excess, bad_record, running_refusal, epoch_refusal, driver_refusal, leader_refusal}
use Rattle.kz_spec_machine.specs.Sound.{IsEpoch, Epochs, Sound}

pub first_none : (a b : Option Answer) → first_of a b ≡ None → (a ≡ None) × (b ≡ None)
first_none (Some x) b none = absurd (cc)
first_none None b none = (refl, none)

-- none of six refusals comes
pub record SixNone (a b c d e f : Option Answer) : Type 0 where
  pub one : a ≡ None
  pub two : b ≡ None
  pub three : c ≡ None
  pub four : d ≡ None
  pub five : e ≡ None
  pub six : f ≡ None

pub six_none : (a b c d e f : Option Answer) → first_of a (first_of b (first_of c (first_of d (first_of e f)))) ≡ None → SixNone a b c d e f
six_none a b c d e f none =
    let first = first_none a (first_of b (first_of c (first_of d (first_of e f)))) none in
    let second = first_none b (first_of c (first_of d (first_of e f))) first.1 in
    let third = first_none c (first_of d (first_of e f)) second.1 in
    let fourth = first_none d (first_of e f) third.1 in
    let fifth = first_none e f fourth.1 in
    record { one = first.0; two = second.0; three = third.0; four = fourth.0; five = fifth.0; six = fifth.1 }

pub unless_none : (b : Bool) (a : Answer) → unless b a ≡ None → b ≡ true
unless_none true a none = refl
unless_none false a none = absurd (cc)

pub over_none : (m : Option ℕ) → option_map over m ≡ None → m ≡ None
over_none (Some x) none = absurd (cc)
over_none None none = refl

pub bad_none : (m : Option Bad) → bad_record m ≡ None → m ≡ None
bad_none (Some x) none = absurd (cc)
bad_none None none = refl

pub excess_none : (m : Option Excess) → over_excess m ≡ None → m ≡ None
excess_none (Some x) none = absurd (cc)
excess_none None none = refl

pub begun_none : (m : Option ℤ) → option_map (λ (offset : ℤ). answer.InTransaction offset) m ≡ None → m ≡ None
begun_none (Some x) none = absurd (cc)
begun_none None none = refl

-- what holds of the old world, and of the new one where the event isn't refused, holds of its outcome
pub decided_by : (P : World → Type 0) (w : World) (refusal : Option Answer) (new : World) (reply : Answer) → P w → (refusal ≡ None → P new) → P (outcome_unless w refusal new reply).0
decided_by P w (Some a) new reply old made = old
decided_by P w None new reply old made = made refl

-- ---- the leader

-- a driver that leads the log
pub record IsLed (epoch : ℤ) (m : Option Driver) : Type 0 where
  pub driver : Driver
  pub found : m ≡ Some driver
  pub leads : driver.epoch ≡ Some epoch

epoch_by : (epoch : ℤ) (m : Option ℤ) → epoch_refusal epoch m ≡ None → m ≡ Some epoch
epoch_by epoch None none = absurd (cc)
epoch_by epoch (Some e) none = ap (λ (x : ℤ). Some x) ((Decides-int_eq e epoch).0 (unless_none (int_eq e epoch) (answer.Stale epoch) none))

led_by : (epoch : ℤ) (m : Option Driver) → driver_refusal epoch m ≡ None → IsLed epoch m
led_by epoch None none = absurd (cc)
led_by epoch (Some d) none = record { driver = d; found = refl; leads = epoch_by epoch d.epoch none }

pub led : (w : World) (id : ℤ) → leader_refusal w id ≡ None → IsLed w.shared.log.epoch (driver_of id w.drivers)
led w id none = led_by w.shared.log.epoch (driver_of id w.drivers) (first_none (running_refusal w id) (driver_refusal w.shared.log.epoch (driver_of id w.drivers)) none).1

range_by : (log_epoch : ℤ) (epoch : Option ℤ) → epoch ≡ Some log_epoch → Epochs log_epoch epoch → IsEpoch log_epoch
range_by log_epoch epoch is epochs = (subst (Epochs log_epoch) is epochs).0

-- the log's epoch is one of a leader
pub led_epoch : (w : World) (id : ℤ) → Sound w → IsLed w.shared.log.epoch (driver_of id w.drivers) → IsEpoch w.shared.log.epoch
led_epoch w id sound k = range_by w.shared.log.epoch k.driver.epoch k.leads (sound.each id k.driver k.found).epochs
