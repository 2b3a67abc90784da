-- Steps and turns of a driver.
use Rattle.std.proofs.Common.{◌≡◌, ◌⊎◌, inl, inr, ℕ, zero, suc, ℤ, Bool, true, false, if◌then◌else◌, List, [], ◌∷◌, Option, Some, None, refl, sym, ◌∙◌}
use Rattle.kz_types.specs.declared.machine.Event.TheVariants as event
use Rattle.kz_types.specs.declared.machine.Reply.{Reply}
use Rattle.kz_types.specs.declared.plan.Plan.{Plan}
use Rattle.kz_types.specs.declared.plan.Plan.TheVariants as plan
use Rattle.kz_spec_machine.specs.Driver.{Shared, Driver, StepResult, planned_step, step}
use Rattle.kz_spec_machine.specs.Machine.{World, running_ids, driver_of, running_refusal, step_result, ends, TurnResult, with_reply, turn, work, turn_result, next}
use Rattle.kz_spec_machine.specs.Sound.{IsTime, IsSharedSound, IsSoundDriver, Sound}
use Rattle.kz_laws_events.specs.Steps.{IsApartFrom, StepKeeps}
use Rattle.kz_laws_events.proofs.Named.{IsOf, step_of_own}
use Rattle.kz_laws_events.proofs.Worlds.{unless_made, stepped}
use Rattle.kz_laws_events.proofs.StepCases.{all_steps}

-- ---- one step after another

then_epoch : (a b c : Option ℤ) → (b ≡ a) ⊎ (b ≡ None) → (c ≡ b) ⊎ (c ≡ None) → (c ≡ a) ⊎ (c ≡ None)
then_epoch a b c one (inr none) = inr none
then_epoch a b c (inl same) (inl later) = inl (later ∙ same)
then_epoch a b c (inr none) (inl later) = inr (later ∙ none)

then_of : (d e f : Driver) → IsOf d e → IsOf e f → IsOf d f
then_of d e f one two = (two.0 ∙ one.0, then_epoch d.epoch e.epoch f.epoch one.1 two.1)

pub still_apart : (d e other : Driver) → (e.epoch ≡ d.epoch) ⊎ (e.epoch ≡ None) → IsApartFrom d other → IsApartFrom e other
still_apart d e other (inl same) apart some equal = apart (λ none. some (same ∙ none)) (sym same ∙ equal)
still_apart d e other (inr none) apart some equal = some none

then_keeps : (s : Shared) (d : Driver) (t : Shared) (e : Driver) (u : Shared) (f : Driver) → IsOf d e → StepKeeps s d t e → StepKeeps t e u f → StepKeeps s d u f
then_keeps s d t e u f own one two = record {
  shared = two.shared;
  driver = two.driver;
  others = λ other apart old. two.others other (still_apart d e other own.1 apart) (one.others other apart old);
}

-- ---- a turn

-- what a turn keeps, and whose driver its driver is
record Turns (s : Shared) (d : Driver) (t : TurnResult) : Type 0 where
  keeps : StepKeeps s d t.shared t.driver
  own : IsOf d t.driver

replied : (s : Shared) (d : Driver) (r : Reply) (t : TurnResult) → Turns s d t → Turns s d (with_reply r t)
replied s d r t k = record { keeps = k.keeps; own = k.own }

ended_by : (s : Shared) (d : Driver) (b : Bool) (t u : TurnResult) → Turns s d t → Turns s d u → Turns s d (if b then t else u)
ended_by s d true t u one other = one
ended_by s d false t u one other = other

-- one more step
then_turn : (s : Shared) (d : Driver) (r : StepResult) (t : TurnResult) → StepKeeps s d r.shared r.driver → IsOf d r.driver → Turns r.shared r.driver t → Turns s d (if ends r.reply then record { shared = r.shared; driver = r.driver; replies = r.reply ∷ [] } else with_reply r.reply t)
then_turn s d r t keeps own rest =
    ended_by s d (ends r.reply) (record { shared = r.shared; driver = r.driver; replies = r.reply ∷ [] }) (with_reply r.reply t)
    (record { keeps = keeps; own = own })
    (replied s d r.reply t (record { keeps = then_keeps s d r.shared r.driver t.shared t.driver own keeps rest.keeps; own = then_of d r.driver t.driver own rest.own }))

pub one_step : (s : Shared) (running : List ℤ) (now : ℤ) (d : Driver) → IsTime now → IsSharedSound s → IsSoundDriver s d → StepKeeps s d (step s running now d).shared (step s running now d).driver
unfolding step
one_step s running now d time kept fine = all_steps plan.Deliver s running now d time kept fine

pub one_own : (s : Shared) (running : List ℤ) (now : ℤ) (d : Driver) → IsOf d (step s running now d).driver
unfolding step
one_own s running now d = step_of_own plan.Deliver s running now d

turns : (n : ℕ) (s : Shared) (running : List ℤ) (now : ℤ) (d : Driver) → IsTime now → IsSharedSound s → IsSoundDriver s d → Turns s d (turn n s running now d)
unfolding turn
turns zero s running now d time kept fine = record { keeps = record { shared = kept; driver = fine; others = λ f apart old. old }; own = (refl, inl refl) }
turns (suc n) s running now d time kept fine =
    let r = step s running now d in
    let k : StepKeeps s d r.shared r.driver = one_step s running now d time kept fine in
    then_turn s d r (turn n r.shared running now r.driver) k (one_own s running now d) (turns n r.shared running now r.driver time k.shared k.driver)

pub turn_keeps : (n : ℕ) (s : Shared) (running : List ℤ) (now : ℤ) (d : Driver) → IsTime now → IsSharedSound s → IsSoundDriver s d → StepKeeps s d (turn n s running now d).shared (turn n s running now d).driver
turn_keeps n s running now d time kept fine = (turns n s running now d time kept fine).keeps

pub turn_own : (n : ℕ) (s : Shared) (running : List ℤ) (now : ℤ) (d : Driver) → IsTime now → IsSharedSound s → IsSoundDriver s d → IsOf d (turn n s running now d).driver
turn_own n s running now d time kept fine = (turns n s running now d time kept fine).own

-- ---- what steps leave, a turn leaves

-- what is known of two steps one after another, is known of both together
abbrev pub GoesOn : (Shared → Driver → Shared → Driver → Type 0) → Type 0
GoesOn R = (s : Shared) (d : Driver) (t : Shared) (e : Driver) (u : Shared) (f : Driver) → IsOf d e → StepKeeps s d t e → R s d t e → R t e u f → R s d u f

ended_leaves : (R : Shared → Driver → Shared → Driver → Type 0) (s : Shared) (d : Driver) (b : Bool) (t u : TurnResult) → R s d t.shared t.driver → R s d u.shared u.driver → R s d (if b then t else u).shared (if b then t else u).driver
ended_leaves R s d true t u one other = one
ended_leaves R s d false t u one other = other

pub turn_leaves : (R : Shared → Driver → Shared → Driver → Type 0) → ((s : Shared) (d : Driver) → R s d s d) → GoesOn R
    → ((s : Shared) (running : List ℤ) (now : ℤ) (d : Driver) → IsTime now → IsSharedSound s → IsSoundDriver s d → R s d (step s running now d).shared (step s running now d).driver)
    → (n : ℕ) (s : Shared) (running : List ℤ) (now : ℤ) (d : Driver) → IsTime now → IsSharedSound s → IsSoundDriver s d → R s d (turn n s running now d).shared (turn n s running now d).driver
unfolding turn
turn_leaves R none goes_on one zero s running now d time kept fine = none s d
turn_leaves R none goes_on one (suc n) s running now d time kept fine =
    let r = step s running now d in
    let k : StepKeeps s d r.shared r.driver = one_step s running now d time kept fine in
    let first = one s running now d time kept fine in
    let t : TurnResult = turn n r.shared running now r.driver in
    ended_leaves R s d (ends r.reply) (record { shared = r.shared; driver = r.driver; replies = r.reply ∷ [] }) (with_reply r.reply t) first
    (goes_on s d r.shared r.driver t.shared t.driver (one_own s running now d) k first (turn_leaves R none goes_on one n r.shared running now r.driver time k.shared k.driver))

-- ---- worlds

step_found : (w : World) (id now : ℤ) (p : Plan) (m : Option Driver) → driver_of id w.drivers ≡ m → IsTime now → Sound w → Sound (step_result w p now m).0
step_found w id now p None found time sound = sound
step_found w id now p (Some d) found time sound =
    stepped w id d (planned_step p w.shared (running_ids w.drivers) now d) sound found (all_steps p w.shared (running_ids w.drivers) now d time sound.kept (sound.each id d found)) (step_of_own p w.shared (running_ids w.drivers) now d)

pub step_event : (w : World) (id now : ℤ) (p : Plan) → IsTime now → Sound w → Sound (next w (event.Step id now p)).0
unfolding next
step_event w id now p time sound = unless_made Sound w (running_refusal w id) (step_result w p now (driver_of id w.drivers)) sound (step_found w id now p (driver_of id w.drivers) refl time sound)

-- the last driver of a turn as that of a step
abbrev as_step : TurnResult → Reply → StepResult
as_step t r = record { shared = t.shared; driver = t.driver; reply = r }

turn_found : (w : World) (id now : ℤ) (m : Option Driver) → driver_of id w.drivers ≡ m → IsTime now → Sound w → Sound (turn_result w now m).0
turn_found w id now None found time sound = sound
turn_found w id now (Some d) found time sound =
    let k = turns (work w.shared d) w.shared (running_ids w.drivers) now d time sound.kept (sound.each id d found) in
    stepped w id d (as_step (turn (work w.shared d) w.shared (running_ids w.drivers) now d) Rattle.kz_types.specs.declared.machine.Reply.TheVariants.Idle) sound found k.keeps k.own

pub turn_event : (w : World) (id now : ℤ) → IsTime now → Sound w → Sound (next w (event.Turn id now)).0
unfolding next
turn_event w id now time sound = unless_made Sound w (running_refusal w id) (turn_result w now (driver_of id w.drivers)) sound (turn_found w id now (driver_of id w.drivers) refl time sound)
