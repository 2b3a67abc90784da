-- What is copied after a step or a turn of a driver of the world.
use Rattle.std.proofs.Common.{◌≡◌, ℕ, ℤ, List, Option, Some, None, refl, sym, ◌∙◌}
use Rattle.kz_types.specs.declared.machine.Event.TheVariants as event
use Rattle.kz_types.specs.declared.plan.Plan.{Plan}
use Rattle.kz_types.specs.declared.plan.Plan.TheVariants as plan
use Rattle.kz_spec_machine.specs.Driver.{Shared, Driver, planned_step, step}
use Rattle.kz_spec_machine.specs.Machine.{World, running_ids, driver_of, with_driver, running_refusal, step_result, TurnResult, turn, work, turn_result, next}
use Rattle.kz_spec_machine.specs.Sound.{IsTime, IsSharedSound, IsSoundDriver, Each, Sound}
use Rattle.kz_laws_machine.proofs.Listed.{each_changed}
use Rattle.kz_laws_events.proofs.Named.{step_of_own}
use Rattle.kz_laws_events.proofs.Worlds.{unless_made, found_id}
use Rattle.kz_laws_events.proofs.Turned.{still_apart, turn_own, GoesOn, turn_leaves}
use Rattle.kz_laws_commits.specs.Commits.{Copies, StepCopies}
use Rattle.kz_laws_commits.proofs.Steps.{step_copies}

abbrev pub EachCopies : World → Type 0
EachCopies w = Each (Copies w.shared) w.drivers

-- ---- a turn

-- what a step leaves of a driver that copied before
abbrev StillCopies : Shared → Driver → Shared → Driver → Type 0
StillCopies s d t e = Copies s d → StepCopies s d t e

one_copies : (s : Shared) (running : List ℤ) (now : ℤ) (d : Driver) → IsTime now → IsSharedSound s → IsSoundDriver s d → StillCopies s d (step s running now d).shared (step s running now d).driver
unfolding step
one_copies s running now d time kept fine copies = step_copies plan.Deliver s running now d time kept fine copies

then_copies : GoesOn StillCopies
then_copies s d t e u f own keeps one two copies =
    let first = one copies in
    let second = two first.driver in
    record {
      driver = second.driver;
      others = λ other apart fine old. second.others other (still_apart d e other own.1 apart) (keeps.others other apart fine) (first.others other apart fine old);
    }

turn_copies : (n : ℕ) (s : Shared) (running : List ℤ) (now : ℤ) (d : Driver) → IsTime now → IsSharedSound s → IsSoundDriver s d → StillCopies s d (turn n s running now d).shared (turn n s running now d).driver
turn_copies n s running now d time kept fine =
    turn_leaves StillCopies (λ t e copies. record { driver = copies; others = λ f apart other old. old }) then_copies one_copies n s running now d time kept fine

-- ---- a driver of the world

-- what is true of each driver that isn't the one that steps
abbrev Stood : Shared → Driver → Type 0
Stood s f = IsSoundDriver s f × Copies s f

stepped : (w : World) (id : ℤ) (d : Driver) (t : Shared) (e : Driver) → Sound w → EachCopies w → driver_of id w.drivers ≡ Some d → e.id ≡ d.id → StepCopies w.shared d t e → Each (Copies t) (with_driver e w.drivers)
stepped w id d t e sound copies found own k =
    let named : id ≡ e.id = sym (own ∙ found_id w.drivers id d found) in
    each_changed (Stood w.shared) (Copies t) w.drivers e (λ j f there. (sound.each j f there, copies j f there)) k.driver
    (λ j f there differ both. k.others f (λ some. sound.apart id j d f found there (λ same. differ (sym same ∙ named)) some) both.0 both.1)

step_found : (w : World) (id now : ℤ) (p : Plan) (m : Option Driver) → driver_of id w.drivers ≡ m → IsTime now → Sound w → EachCopies w → EachCopies (step_result w p now m).0
step_found w id now p None found time sound copies = copies
step_found w id now p (Some d) found time sound copies =
    let r = planned_step p w.shared (running_ids w.drivers) now d in
    stepped w id d r.shared r.driver sound copies found (step_of_own p w.shared (running_ids w.drivers) now d).0 (step_copies p w.shared (running_ids w.drivers) now d time sound.kept (sound.each id d found) (copies id d found))

pub stepped_copies : (w : World) (id now : ℤ) (p : Plan) → IsTime now → Sound w → EachCopies w → EachCopies (next w (event.Step id now p)).0
unfolding next
stepped_copies w id now p time sound copies = unless_made EachCopies w (running_refusal w id) (step_result w p now (driver_of id w.drivers)) copies (step_found w id now p (driver_of id w.drivers) refl time sound copies)

turn_found : (w : World) (id now : ℤ) (m : Option Driver) → driver_of id w.drivers ≡ m → IsTime now → Sound w → EachCopies w → EachCopies (turn_result w now m).0
turn_found w id now None found time sound copies = copies
turn_found w id now (Some d) found time sound copies =
    let n = work w.shared d in
    let running = running_ids w.drivers in
    let t : TurnResult = turn n w.shared running now d in
    stepped w id d t.shared t.driver sound copies found (turn_own n w.shared running now d time sound.kept (sound.each id d found)).0 (turn_copies n w.shared running now d time sound.kept (sound.each id d found) (copies id d found))

pub turned_copies : (w : World) (id now : ℤ) → IsTime now → Sound w → EachCopies w → EachCopies (next w (event.Turn id now)).0
unfolding next
turned_copies w id now time sound copies = unless_made EachCopies w (running_refusal w id) (turn_result w now (driver_of id w.drivers)) copies (turn_found w id now (driver_of id w.drivers) refl time sound copies)
