-- Steps and turns of a driver of the world.
use Rattle.std.proofs.Common.{◌≡◌, ℕ, ℤ, List, Option, Some, None, refl, sym, ◌∙◌}
use Rattle.kz_types.specs.declared.machine.Event.TheVariants as event
use Rattle.kz_types.specs.declared.plan.Plan.{Plan}
use Rattle.kz_types.specs.declared.plan.Plan.TheVariants as plan
use Rattle.kz_spec_machine.specs.Driver.{Shared, Driver, planned_step, step}
use Rattle.kz_spec_machine.specs.Machine.{World, running_ids, driver_of, with_driver, running_refusal, step_result, TurnResult, turn, work, turn_result, next}
use Rattle.kz_spec_machine.specs.Sound.{IsTime, IsSharedSound, IsSoundDriver, Sound}
use Rattle.kz_laws_machine.proofs.Listed.{each_changed}
use Rattle.kz_laws_events.proofs.Named.{step_of_own}
use Rattle.kz_laws_events.proofs.Worlds.{unless_made, found_id}
use Rattle.kz_laws_events.proofs.Turned.{still_apart, turn_own, GoesOn, turn_leaves}
use Rattle.kz_laws_exits.specs.Ends.{HasEnded, StepEnds, EndHolds}
use Rattle.kz_laws_exits.proofs.Final.{step_ends}

-- what a step leaves of a driver of which it held before
abbrev StillEnds : Shared → Driver → Shared → Driver → Type 0
StillEnds s d t e = HasEnded s d → StepEnds s d t e

pub one_ends : (s : Shared) (running : List ℤ) (now : ℤ) (d : Driver) → IsTime now → IsSharedSound s → IsSoundDriver s d → HasEnded s d → StepEnds s d (step s running now d).shared (step s running now d).driver
unfolding step
one_ends s running now d time kept fine ended = step_ends plan.Deliver s running now d time kept fine ended

then_ends : GoesOn StillEnds
then_ends s d t e u f own keeps one two ended =
    let first = one ended in
    let second = two first.driver in
    record {
      closed = λ old. second.closed (first.closed old);
      driver = second.driver;
      others = λ other apart fine old. second.others other (still_apart d e other own.1 apart) (keeps.others other apart fine) (first.others other apart fine old);
    }

turn_ends : (n : ℕ) (s : Shared) (running : List ℤ) (now : ℤ) (d : Driver) → IsTime now → IsSharedSound s → IsSoundDriver s d → StillEnds s d (turn n s running now d).shared (turn n s running now d).driver
turn_ends n s running now d time kept fine =
    turn_leaves StillEnds (λ t e ended. record { closed = λ old. old; driver = ended; others = λ f apart other old. old }) then_ends one_ends n s running now d time kept fine

-- ---- a driver of the world

-- what is true of each driver that isn't the one that steps
abbrev Stood : Shared → Driver → Type 0
Stood s f = IsSoundDriver s f × HasEnded s f

stepped : (w : World) (id : ℤ) (d : Driver) (t : Shared) (e : Driver) → Sound w → EndHolds w → driver_of id w.drivers ≡ Some d → e.id ≡ d.id → StepEnds w.shared d t e → EndHolds (record { shared = t; drivers = with_driver e w.drivers })
stepped w id d t e sound old found own k =
    let named : id ≡ e.id = sym (own ∙ found_id w.drivers id d found) in
    record {
      closed = k.closed old.closed;
      each = each_changed (Stood w.shared) (HasEnded t) w.drivers e (λ j f there. (sound.each j f there, old.each j f there)) k.driver
          (λ j f there differ both. k.others f (λ some. sound.apart id j d f found there (λ same. differ (sym same ∙ named)) some) both.0 both.1);
    }

step_found : (w : World) (id now : ℤ) (p : Plan) (m : Option Driver) → driver_of id w.drivers ≡ m → IsTime now → Sound w → EndHolds w → EndHolds (step_result w p now m).0
step_found w id now p None found time sound old = old
step_found w id now p (Some d) found time sound old =
    let r = planned_step p w.shared (running_ids w.drivers) now d in
    stepped w id d r.shared r.driver sound old found (step_of_own p w.shared (running_ids w.drivers) now d).0 (step_ends p w.shared (running_ids w.drivers) now d time sound.kept (sound.each id d found) (old.each id d found))

pub stepped_ends : (w : World) (id now : ℤ) (p : Plan) → IsTime now → Sound w → EndHolds w → EndHolds (next w (event.Step id now p)).0
unfolding next
stepped_ends w id now p time sound old = unless_made EndHolds w (running_refusal w id) (step_result w p now (driver_of id w.drivers)) old (step_found w id now p (driver_of id w.drivers) refl time sound old)

turn_found : (w : World) (id now : ℤ) (m : Option Driver) → driver_of id w.drivers ≡ m → IsTime now → Sound w → EndHolds w → EndHolds (turn_result w now m).0
turn_found w id now None found time sound old = old
turn_found w id now (Some d) found time sound old =
    let n = work w.shared d in
    let running = running_ids w.drivers in
    let t : TurnResult = turn n w.shared running now d in
    stepped w id d t.shared t.driver sound old found (turn_own n w.shared running now d time sound.kept (sound.each id d found)).0 (turn_ends n w.shared running now d time sound.kept (sound.each id d found) (old.each id d found))

pub turned_ends : (w : World) (id now : ℤ) → IsTime now → Sound w → EndHolds w → EndHolds (next w (event.Turn id now)).0
unfolding next
turned_ends w id now time sound old = unless_made EndHolds w (running_refusal w id) (turn_result w now (driver_of id w.drivers)) old (turn_found w id now (driver_of id w.drivers) refl time sound old)
