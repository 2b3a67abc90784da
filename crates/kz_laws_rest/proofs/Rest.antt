-- The tree in step with the log after each turn that comes to rest, and what a check then tells.
use Rattle.std.proofs.Common.{◌≡◌, inl, inr, ℕ, zero, suc, ℤ, Bool, true, false, if◌then◌else◌, List, [], ◌∷◌, ◌++◌, Option, Some, None, option_map, All, refl, sym, ap, ◌∙◌, subst}
use Rattle.kz_types.specs.declared.driver.Stage.{Stage}
use Rattle.kz_types.specs.declared.driver.Stage.TheVariants as stage
use Rattle.kz_types.specs.declared.machine.DriverState.TheVariants as state
use Rattle.kz_types.specs.declared.machine.Event.{Event}
use Rattle.kz_types.specs.declared.machine.Event.TheVariants as event
use Rattle.kz_types.specs.declared.machine.Answer.{Answer}
use Rattle.kz_types.specs.declared.machine.Answer.TheVariants as answer
use Rattle.kz_types.specs.declared.machine.Reply.{Reply}
use Rattle.kz_types.specs.declared.machine.Reply.TheVariants as reply
use Rattle.kz_types.specs.declared.machine.Verdict.{Verdict}
use Rattle.kz_types.specs.declared.machine.Verdict.TheVariants.{Closed}
use Rattle.kz_types.specs.declared.plan.Plan.TheVariants as plan
use Rattle.kz_spec_data.specs.Log.{end_of, is_migrated_log}
use Rattle.kz_spec_machine.specs.Driver.{Shared, Driver, state_of, epoch_or_zero, is_one_of, Request, nothing, read_log, list_brokers, look_up, read_page, write, add, request_at, shared_after, after_answer, hearing, hears_answer, driver_after, planned_step, step}
use Rattle.kz_spec_machine.specs.Machine.{World, running_ids, is_running, driver_of, with_driver, first_of, unless, running_refusal, ends, TurnResult, with_reply, turn, work, turn_result, unless_refused, next, after_events}
use Rattle.kz_spec_machine.specs.Verdicts.{verdict}
use Rattle.kz_spec_machine.specs.Sound.{IsTime, IsSharedSound, AtStage, IsSoundDriver, Sound, IsLawful}
use Rattle.kz_spec_machine.specs.InStep.{InStep, last_reply, StaysInStep, ComesToRest}
use Rattle.kz_laws_machine.proofs.Listed.{IsFoundBy, found_changed}
use Rattle.kz_laws_events.specs.Steps.{IsResynced, StepKeeps}
use Rattle.kz_laws_events.proofs.Resting.{resting_step}
use Rattle.kz_laws_events.proofs.Worlds.{found_id}
use Rattle.kz_laws_events.proofs.Turned.{one_step, turn_keeps, turn_own}
use Rattle.kz_laws_events.proofs.Runs.{lawful_before, lawful_next, run_sound}
use Rattle.kz_laws_rest.proofs.Idle.{idle_at}
use Rattle.kz_laws_rest.proofs.Told.{closed_told}

-- what is true when a turn has come to rest
record Rests (s : Shared) : Type 0 where
  migrated : is_migrated_log s.log ≡ true
  synced : IsResynced s (end_of s.log)

-- ---- a step

heard : (s : Shared) (epoch now : ℤ) (r : Request) → hearing plan.Deliver s epoch now r ≡ hears_answer
heard s epoch now nothing = refl
heard s epoch now read_log = refl
heard s epoch now list_brokers = refl
heard s epoch now look_up = refl
heard s epoch now (read_page after) = refl
heard s epoch now (write ops) = refl
heard s epoch now (add records) = refl

answered : (s : Shared) (epoch now : ℤ) (r : Request) (given : Driver × Reply) (d : Driver) → driver_after (hearing plan.Deliver s epoch now r) given r d ≡ given
answered s epoch now r given d = ap (λ h. driver_after h given r d) (heard s epoch now r)

idle_stage : (s : Shared) (running : List ℤ) (now : ℤ) (d : Driver) → (planned_step plan.Deliver s running now d).reply ≡ reply.Idle → state_of (planned_step plan.Deliver s running now d).driver.stage ≡ state.DualWrite → d.stage ≡ stage.DualWrite
unfolding planned_step
idle_stage s running now d said dual =
    let is = answered s (epoch_or_zero d.epoch) now (request_at s now d d.stage) (after_answer s running now d d.stage) d in
    idle_at s running now d d.stage refl (ap (λ (x : Driver × Reply). x.1) (sym is) ∙ said) (ap (λ (x : Driver × Reply). state_of x.0.stage) (sym is) ∙ dual)

same_log : (s : Shared) (running : List ℤ) (now : ℤ) (d : Driver) → d.stage ≡ stage.DualWrite → (planned_step plan.Deliver s running now d).shared.log ≡ s.log
unfolding planned_step
same_log s running now d at = ap (λ (x : Stage). (shared_after s (epoch_or_zero d.epoch) now (request_at s now d x)).log) at

planned_rests : (s : Shared) (running : List ℤ) (now : ℤ) (d : Driver) → IsSharedSound s → IsSoundDriver s d → (planned_step plan.Deliver s running now d).reply ≡ reply.Idle → state_of (planned_step plan.Deliver s running now d).driver.stage ≡ state.DualWrite
    → Rests (planned_step plan.Deliver s running now d).shared
planned_rests s running now d kept fine said dual =
    let at = idle_stage s running now d said dual in
    let log = same_log s running now d at in
    let held : AtStage s.tree s.log d stage.DualWrite = subst (AtStage s.tree s.log d) at fine.stage in
    record {
      migrated = ap is_migrated_log log ∙ held.0.migrated;
      synced = subst (IsResynced (planned_step plan.Deliver s running now d).shared) (ap end_of (sym log)) (resting_step plan.Deliver s running now d kept fine at said);
    }

step_rests : (s : Shared) (running : List ℤ) (now : ℤ) (d : Driver) → IsSharedSound s → IsSoundDriver s d → (step s running now d).reply ≡ reply.Idle → state_of (step s running now d).driver.stage ≡ state.DualWrite → Rests (step s running now d).shared
unfolding step
step_rests s running now d kept fine said dual = planned_rests s running now d kept fine said dual

-- ---- a turn

abbrev IfRests : TurnResult → Type 0
IfRests t = last_reply t.replies ≡ Some reply.Idle → state_of t.driver.stage ≡ state.DualWrite → Rests t.shared

ended_by : (b : Bool) (t u : TurnResult) → IfRests t → (b ≡ false → IfRests u) → IfRests (if b then t else u)
ended_by true t u one other = one
ended_by false t u one other = other refl

-- a reply that doesn't end a turn isn't idle
last_later : (r : Reply) (rs : List Reply) → ends r ≡ false → last_reply (r ∷ rs) ≡ Some reply.Idle → last_reply rs ≡ Some reply.Idle
last_later r [] on is = absurd (let same : r ≡ reply.Idle = cc in let over = ap ends same in cc)
last_later r (x ∷ rs) on is = is

same_reply : (r : Reply) → Some r ≡ Some reply.Idle → r ≡ reply.Idle
same_reply r is = cc

turn_rests : (n : ℕ) (s : Shared) (running : List ℤ) (now : ℤ) (d : Driver) → IsTime now → IsSharedSound s → IsSoundDriver s d → IfRests (turn n s running now d)
unfolding turn
turn_rests zero s running now d time kept fine = λ idle dual. absurd (cc)
turn_rests (suc n) s running now d time kept fine =
    let r = step s running now d in
    let k : StepKeeps s d r.shared r.driver = one_step s running now d time kept fine in
    let t : TurnResult = turn n r.shared running now r.driver in
    ended_by (ends r.reply) (record { shared = r.shared; driver = r.driver; replies = r.reply ∷ [] }) (with_reply r.reply t)
    (λ idle dual. step_rests s running now d kept fine (same_reply r.reply idle) dual)
    (λ on idle dual. turn_rests n r.shared running now r.driver time k.shared k.driver (last_later r.reply t.replies on idle) dual)

-- ---- a world

no_turn : (a b : Bool) (x : Answer) (replies : List Reply) → first_of (unless a answer.UnknownController) (unless b answer.NotRunning) ≡ Some x → x ≡ answer.Turn replies → ⊥
no_turn true true x replies is turn = absurd (cc)
no_turn true false x replies is turn = absurd (cc)
no_turn false b x replies is turn = absurd (cc)

-- the driver that is in this state after the turn is the one that made it
its_state : (drivers : List Driver) (id : ℤ) (e f : Driver) → id ≡ e.id → IsFoundBy drivers e id f → state_of f.stage ≡ state.DualWrite → state_of e.stage ≡ state.DualWrite
its_state drivers id e f named (inl both) dual = ap (λ (x : Driver). state_of x.stage) (sym both.1) ∙ dual
its_state drivers id e f named (inr both) dual = absurd (both.0 named)

same_state : (f : Driver) → Some (state_of f.stage) ≡ Some state.DualWrite → state_of f.stage ≡ state.DualWrite
same_state f is = cc

in_state : (drivers : List Driver) (id : ℤ) (e : Driver) (m : Option Driver) → driver_of id (with_driver e drivers) ≡ m → id ≡ e.id → option_map (λ (x : Driver). state_of x.stage) m ≡ Some state.DualWrite → state_of e.stage ≡ state.DualWrite
in_state drivers id e None found named dual = absurd (cc)
in_state drivers id e (Some f) found named dual = its_state drivers id e f named (found_changed drivers e id f found) (same_state f dual)

same_replies : (a b : List Reply) → answer.Turn a ≡ answer.Turn b → a ≡ b
same_replies a b is = cc

-- a world that a turn leaves at rest
record RestKept (s : Shared) : Type 0 where
  kept : IsSharedSound s
  rests : Rests s

turn_found : (w new : World) (id now : ℤ) (replies : List Reply) (m : Option Driver) → IsTime now → Sound w → driver_of id w.drivers ≡ m → turn_result w now m ≡ (new, answer.Turn replies) → last_reply replies ≡ Some reply.Idle
    → option_map (λ (x : Driver). state_of x.stage) (driver_of id new.drivers) ≡ Some state.DualWrite → RestKept new.shared
turn_found w new id now replies None time sound found made idle dual = absurd (let other : answer.NotRunning ≡ answer.Turn replies = ap (λ (x : World × Answer). x.1) made in cc)
turn_found w new id now replies (Some d) time sound found made idle dual =
    let running = running_ids w.drivers in
    let t : TurnResult = turn (work w.shared d) w.shared running now d in
    let fine = sound.each id d found in
    let k : StepKeeps w.shared d t.shared t.driver = turn_keeps (work w.shared d) w.shared running now d time sound.kept fine in
    let world : record { shared = t.shared; drivers = with_driver t.driver w.drivers } ≡ new = ap (λ (x : World × Answer). x.0) made in
    let same = same_replies t.replies replies (ap (λ (x : World × Answer). x.1) made) in
    let named : id ≡ t.driver.id = sym ((turn_own (work w.shared d) w.shared running now d time sound.kept fine).0 ∙ found_id w.drivers id d found) in
    let state_is = in_state w.drivers id t.driver (driver_of id (with_driver t.driver w.drivers)) refl named (ap (λ (x : World). option_map (λ (y : Driver). state_of y.stage) (driver_of id x.drivers)) world ∙ dual) in
    subst (λ (x : World). RestKept x.shared) world (record {
      kept = k.shared;
      rests = turn_rests (work w.shared d) w.shared running now d time sound.kept fine (ap last_reply same ∙ idle) state_is;
    })

by_refusal : (w new : World) (id now : ℤ) (replies : List Reply) (m : Option Answer) → IsTime now → Sound w → running_refusal w id ≡ m → unless_refused w m (turn_result w now (driver_of id w.drivers)) ≡ (new, answer.Turn replies) → last_reply replies ≡ Some reply.Idle
    → option_map (λ (x : Driver). state_of x.stage) (driver_of id new.drivers) ≡ Some state.DualWrite → RestKept new.shared
by_refusal w new id now replies (Some a) time sound is made idle dual = absurd (no_turn (is_one_of w.shared.declared id) (is_running id w.drivers) a replies is (ap (λ (x : World × Answer). x.1) made))
by_refusal w new id now replies None time sound is made idle dual = turn_found w new id now replies (driver_of id w.drivers) time sound refl made idle dual

rest_kept : (w new : World) (id now : ℤ) (replies : List Reply) → IsTime now → Sound w → next w (event.Turn id now) ≡ (new, answer.Turn replies) → last_reply replies ≡ Some reply.Idle → option_map (λ (x : Driver). state_of x.stage) (driver_of id new.drivers) ≡ Some state.DualWrite → RestKept new.shared
unfolding next
rest_kept w new id now replies time sound made idle dual = by_refusal w new id now replies (running_refusal w id) time sound refl made idle dual

in_step : (s : Shared) → RestKept s → InStep s
in_step s k = record { closed = k.rests.synced.closed; same = k.rests.synced.same }

pub rests_in_step : (w new : World) (id now : ℤ) (replies : List Reply) → IsTime now → Sound w → ComesToRest w new id now replies → InStep new.shared
rests_in_step w new id now replies time sound rest = in_step new.shared (rest_kept w new id now replies time sound rest.turned rest.idle rest.dual)

-- ---- a run

pub stays_in_step : (w : World) (es : List Event) → Sound w → All IsLawful es → StaysInStep w es
stays_in_step w es sound lawful before after id now new replies is rest =
    let all = subst (All IsLawful) is lawful in
    let own = lawful_next before after (event.Turn id now) all in
    rests_in_step (after_events w before) new id now replies own.1 (run_sound before w (lawful_before before (event.Turn id now ∷ after) all) sound) rest

-- ---- a check then

check_answers : (w : World) (v : Verdict) → verdict w.shared.tree w.shared.log ≡ v → (next w event.Check).1 ≡ answer.Check v
unfolding next
check_answers w v is = ap (λ (x : Verdict). answer.Check x) is

told_by : (s : Shared) → RestKept s → verdict s.tree s.log ≡ Closed (end_of s.log)
told_by s k =
    let r = k.rests.synced.recorded in
    closed_told s r.0 k.kept k.rests.migrated r.1 k.rests.synced.closed ∙ ap (λ (o : ℤ). Closed o) r.2

pub rest_is_told : (w new : World) (id now : ℤ) (replies : List Reply) → IsTime now → Sound w → ComesToRest w new id now replies → (next new event.Check).1 ≡ answer.Check (Closed (end_of new.shared.log))
rest_is_told w new id now replies time sound rest = check_answers new (Closed (end_of new.shared.log)) (told_by new.shared (rest_kept w new id now replies time sound rest.turned rest.idle rest.dual))
