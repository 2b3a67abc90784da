-- What an event answers, leaves and keeps.
use Rattle.std.proofs.Common.{◌≡◌, ◌⊎◌, inl, inr, ℕ, zero, suc, Bool, true, false, if◌then◌else◌, ℤ, pos, List, [], ◌∷◌, Option, Some, None, Result, Ok, Err, IfOk, IfErr, refl, sym, ap, ◌∙◌, subst}
use Rattle.kz_types.specs.declared.fault.TreeFault.{TreeFault}
use Rattle.kz_types.specs.declared.fault.LogFault.{LogFault}
use Rattle.kz_types.specs.declared.fault.LogFault.TheVariants as log_fault
use Rattle.kz_types.specs.declared.move_fault.MoveFault.{MoveFault}
use Rattle.kz_types.specs.declared.machine.Answer.{Answer}
use Rattle.kz_types.specs.declared.machine.Answer.TheVariants as answer
use Rattle.kz_types.specs.declared.machine.Event.{Event}
use Rattle.kz_types.specs.declared.machine.Event.TheVariants as event
use Rattle.kz_types.specs.declared.machine.Reply.{Reply}
use Rattle.kz_types.specs.declared.machine.Reply.TheVariants as reply
use Rattle.kz_types.specs.declared.plan.Plan.{Plan}
use Rattle.kz_spec_data.specs.Tree.{Tree, begin_session, end_session, multi}
use Rattle.kz_spec_data.specs.Log.{Log}
use Rattle.kz_spec_machine.specs.Driver.{Shared, Driver, StepResult, planned_step, step}
use Rattle.kz_spec_machine.specs.Machine.{World, next, running_ids, driver_of, with_driver, running_refusal, outcome_unless, unless_refused, ends, TurnResult, turn, with_reply, work, step_result, turn_result, moved_world, client_refusal, client_world, quorum_refusal, declared_world, start_refusal, started_world, stop_refusal, stopped_world, election_refusal, elected_world, election_answer, change_refusal, changed_world, register_refusal, final_records, finalise_refusal, exit_ops, tree_after_ops, reset_world, given_back, rollback_refusal, is_rollback, registration, snapshot_refusal, cut_world}
use Rattle.kz_spec_machine.specs.Failures.{is_failed_step, is_failure, IsCutOff, CutOffTurn, IsLeftByTurn, IsLeftByStep, IsLeftByTree, IsLeftByLog, IsLeftOutOfMemory, IsLeft}
use Rattle.kz_spec_machine.specs.Sound.{IsTime, IsLawful, Sound}
use Rattle.kz_laws_machine.specs.Fence.{IsOfFence}
use Rattle.kz_laws_machine.proofs.FenceDrivers.{fenced_driver}
use Rattle.kz_laws_machine.proofs.Replies.{fenced_reply, leader_alone}
use Rattle.kz_laws_events.proofs.Worlds.{stepped}
use Rattle.kz_laws_events.proofs.Turned.{turn_keeps, turn_own}
use Rattle.kz_laws_events.proofs.Fenced.{fenced_turn, fenced_cut_off}
use Rattle.kz_laws_events.proofs.Every.{event_sound}
use Rattle.kz_world_parts.specs.Disks.{Disks, Payloads}
use Rattle.kz_world_parts.specs.TurnStops.{AreUp, LeavesOneOf, failure_pairs}
use Rattle.kz_world_parts.specs.declared.faults.EventFault.{EventFault}
use Rattle.kz_world_parts.specs.EventDisks.{ResultDisks, EventDisks}
use Rattle.kz_world_parts.specs.Faults.{answer_of_fault, answer_of_result, result_of_answer}
use Rattle.kz_world_parts.specs.Fences.{IsFencedDriver, IsOfFenced, TellsFence}
use Rattle.kz_world_parts.specs.EventStops.{EventLeaves}
use Rattle.kz_world_parts.specs.Worlds.{IsOutcome}
use Rattle.kz_world_parts.proofs.Outcomes.{true_or_false}
use Rattle.kz_laws_events.proofs.Exits.{reset_world_sound}
use Rattle.kz_world_parts.proofs.Told.{event_told}

-- ---- what it answers

-- an answer that tells of no failure
pub event_done : (w new : World) (e : Event) (payloads : Payloads) (r : Result Answer EventFault) (a : Answer) (old later : Disks) → a ≡ answer_of_result r → IfOk r (IsOutcome w e new) → ResultDisks w e payloads r old later → is_failure a ≡ false → next w e ≡ (new, a)
event_done w new e payloads (Ok b) a old later is outcome disks none = outcome.done (sym (ap is_failure is) ∙ none) ∙ ap (λ x. (new, x)) (sym is)
event_done w new e payloads (Err f) a old later is outcome disks none = true_or_false (is_failure a) (ap is_failure is ∙ (event_told w e payloads f old later disks).failure) none

-- one that tells of a failure
pub event_failed : (w new : World) (e : Event) (r : Result Answer EventFault) (a : Answer) → a ≡ answer_of_result r → IfOk r (IsOutcome w e new) → IfErr r (λ f. IsLeft w e (answer_of_fault f) new) → is_failure a ≡ true → IsLeft w e a new
event_failed w new e (Ok b) a is outcome left fails = subst (λ x. IsLeft w e x new) (sym is) (outcome.failed (sym (ap is_failure is) ∙ fails))
event_failed w new e (Err f) a is outcome left fails = subst (λ x. IsLeft w e x new) (sym is) left

-- what it says of the disks
pub event_disks : (w new : World) (e : Event) (payloads : Payloads) (r : Result Answer EventFault) (a : Answer) (old later : Disks) → a ≡ answer_of_result r → IfOk r (IsOutcome w e new) → ResultDisks w e payloads r old later → EventDisks w e payloads a old later
event_disks w new e payloads (Ok b) a old later is outcome disks = subst (λ x. ResultDisks w e payloads x old later) (sym (ap result_of_answer is ∙ outcome.told)) disks
event_disks w new e payloads (Err f) a old later is outcome disks = subst (λ x. ResultDisks w e payloads x old later) (sym (ap result_of_answer is ∙ (event_told w e payloads f old later disks).answer)) disks

-- what a stop leaves
pub event_stop : (w : World) (e : Event) (r : Result Answer EventFault) (a : Answer) (old : Disks) (tree_left : Option Tree → Type 0) (log_left : Option Log → Type 0) → a ≡ answer_of_result r → EventLeaves w e r old tree_left log_left → AreUp old → is_failure a ≡ true
    → LeavesOneOf (failure_pairs w e a) tree_left log_left
event_stop w e (Ok b) a old tree_left log_left is leaves up fails = subst (λ (x : Answer). LeavesOneOf (failure_pairs w e x) tree_left log_left) (sym is) (leaves up (sym (ap is_failure is) ∙ fails))
event_stop w e (Err f) a old tree_left log_left is leaves up fails = subst (λ (x : Answer). LeavesOneOf (failure_pairs w e x) tree_left log_left) (sym is) (leaves up tt)

-- ---- a world stays sound

not_ended : (b : Bool) (x y : TurnResult) → b ≡ false → (if b then x else y) ≡ y
not_ended true x y h = absurd (cc)
not_ended false x y h = refl

-- the whole steps of a turn
record WholeSteps (s : Shared) (running : List ℤ) (now : ℤ) (d : Driver) (t : Shared) (e : Driver) : Type 0 where
  count : ℕ
  shared : (turn count s running now d).shared ≡ t
  driver : (turn count s running now d).driver ≡ e

-- What a turn that was cut off leaves is what a turn of its whole steps leaves.
whole_steps : (n : ℕ) (s : Shared) (running : List ℤ) (now : ℤ) (d : Driver) (rs : List Reply) (t : Shared) (e : Driver) → IsCutOff n s running now d rs t e → WholeSteps s running now d t e
unfolding turn IsCutOff
whole_steps zero s running now d rs t e h = absurd h
whole_steps (suc n) s running now d [] t e h = absurd h
whole_steps (suc n) s running now d (r ∷ []) t e h = record { count = 0; shared = sym h.1; driver = sym h.2 }
whole_steps (suc n) s running now d (r ∷ q ∷ rs) t e h =
    let one = step s running now d in
    let rest = whole_steps n one.shared running now one.driver (q ∷ rs) t e h.2 in
    let more = turn rest.count one.shared running now one.driver in
    let is = not_ended (ends one.reply) (record { shared = one.shared; driver = one.driver; replies = one.reply ∷ [] }) (with_reply one.reply more) (ap ends (sym h.0) ∙ h.1) in
    record { count = suc rest.count; shared = ap (λ (x : TurnResult). x.shared) is ∙ rest.shared; driver = ap (λ (x : TurnResult). x.driver) is ∙ rest.driver }

-- a turn that was cut off keeps it sound
cut_off_sound : (w : World) (id now : ℤ) (replies : List Reply) (new : World) → IsTime now → CutOffTurn w id now replies new → Sound w → Sound new
cut_off_sound w id now replies new time cut sound =
    let d = cut.before in
    let steps = whole_steps (work w.shared d) w.shared (running_ids w.drivers) now d replies new.shared cut.after cut.cut_off in
    let t = turn steps.count w.shared (running_ids w.drivers) now d in
    let fine = sound.each id d cut.runs.1 in
    let last : StepResult = record { shared = t.shared; driver = t.driver; reply = reply.Idle } in
    let made = stepped w id d last sound cut.runs.1 (turn_keeps steps.count w.shared (running_ids w.drivers) now d time sound.kept fine) (turn_own steps.count w.shared (running_ids w.drivers) now d time sound.kept fine) in
    subst (λ (ds : List Driver). Sound (record { shared = new.shared; drivers = ds })) (sym cut.drivers)
    (subst (λ (s : Shared). Sound (record { shared = s; drivers = with_driver cut.after w.drivers })) steps.shared
    (subst (λ (e : Driver). Sound (record { shared = t.shared; drivers = with_driver e w.drivers })) steps.driver made))

left_by_turn : (w : World) (e : Event) (replies : List Reply) (new : World) → IsLawful e → IsLeftByTurn w e replies new → Sound w → Sound new
left_by_turn w (event.Turn id now) replies new lawful left sound = cut_off_sound w id now replies new lawful.1 left sound
left_by_turn w e replies new lawful left sound = absurd left

-- a step that failed leaves the world
unmade_step : (w : World) (e : Event) (new : World) → IsLeftByStep w e new → new ≡ w
unmade_step w (event.Step id now p) new left = left.2
unmade_step w e new left = absurd left

-- where the log failed, nothing has changed
log_alone : (w : World) (e : Event) (f : LogFault) (new : World) → IsLeftByLog w e f new → new ≡ w
log_alone w event.Rollback log_fault.Down new left = left
log_alone w event.Rollback f new left = left.1
log_alone w e f new left = left

-- a rollback resets the log first
left_by_tree : (w : World) (e : Event) (new : World) → IsLeftByTree w e new → Sound w → Sound new
left_by_tree w event.Rollback new left sound = subst Sound (sym left.1) (reset_world_sound w sound left.0)
left_by_tree w e new left sound = subst Sound (sym left) sound

out_of_memory : (w : World) (e : Event) (new : World) → IsLeftOutOfMemory w e new → Sound w → Sound new
out_of_memory w event.Rollback new (inl same) sound = subst Sound (sym same) sound
out_of_memory w event.Rollback new (inr left) sound = subst Sound (sym left.1) (reset_world_sound w sound left.0)
out_of_memory w e new left sound = subst Sound (sym left) sound

left_sound : (w : World) (e : Event) (a : Answer) (new : World) → IsLawful e → IsLeft w e a new → Sound w → Sound new
left_sound w e (answer.Turn replies) new lawful left sound = left_by_turn w e replies new lawful left sound
left_sound w e (answer.Step r) new lawful left sound = subst Sound (sym (unmade_step w e new left)) sound
left_sound w e (answer.TreeFailed f) new lawful left sound = left_by_tree w e new left sound
left_sound w e (answer.LogFailed f) new lawful left sound = subst Sound (sym (log_alone w e f new left)) sound
left_sound w e answer.NoMemory new lawful left sound = out_of_memory w e new left sound
left_sound w e a new lawful left sound = subst Sound (sym left) sound

sound_by : (b : Bool) (w : World) (e : Event) (a : Answer) (new : World) → is_failure a ≡ b → IsLawful e → (is_failure a ≡ false → next w e ≡ (new, a)) → (is_failure a ≡ true → IsLeft w e a new) → Sound w → Sound new
sound_by true w e a new is lawful done failed sound = left_sound w e a new lawful (failed is) sound
sound_by false w e a new is lawful done failed sound = subst Sound (ap (λ (x : World × Answer). x.0) (done is)) (event_sound w e lawful sound)

-- an event keeps a world sound, whether it failed or not
pub sound_after : (w : World) (e : Event) (a : Answer) (new : World) → IsLawful e → (is_failure a ≡ false → next w e ≡ (new, a)) → (is_failure a ≡ true → IsLeft w e a new) → Sound w → Sound new
sound_after w e a new lawful done failed sound = sound_by (is_failure a) w e a new refl lawful done failed sound

-- ---- a controller that another one has taken over from

tree_alone : (w : World) (e : Event) (new : World) → is_rollback e ≡ false → IsLeftByTree w e new → new ≡ w
tree_alone w event.Rollback new forward left = absurd (cc)
tree_alone w e new forward left = left

memory_alone : (w : World) (e : Event) (new : World) → is_rollback e ≡ false → IsLeftOutOfMemory w e new → new ≡ w
memory_alone w event.Rollback new forward left = absurd (cc)
memory_alone w e new forward left = left

-- an event that is no turn and no rollback, and failed, leaves the world
left_alone : (w : World) (e : Event) (a : Answer) (new : World) → is_rollback e ≡ false → ((replies : List Reply) → IsLeftByTurn w e replies new → ⊥) → IsLeft w e a new → new ≡ w
left_alone w e (answer.Turn replies) new forward alone left = absurd (alone replies left)
left_alone w e (answer.Step r) new forward alone left = unmade_step w e new left
left_alone w e (answer.TreeFailed f) new forward alone left = tree_alone w e new forward left
left_alone w e (answer.LogFailed f) new forward alone left = log_alone w e f new left
left_alone w e answer.NoMemory new forward alone left = memory_alone w e new forward left
left_alone w e a new forward alone left = left

alone_by : (b : Bool) (w : World) (e : Event) (a : Answer) (new : World) → is_failure a ≡ b → (is_failure a ≡ false → next w e ≡ (new, a)) → (is_failure a ≡ true → IsLeft w e a new) → is_rollback e ≡ false → ((replies : List Reply) → IsLeftByTurn w e replies new → ⊥) → (next w e).0.shared ≡ w.shared → new.shared ≡ w.shared
alone_by true w e a new is done failed forward alone leaves = ap (λ (x : World). x.shared) (left_alone w e a new forward alone (failed is))
alone_by false w e a new is done failed forward alone leaves = sym (ap (λ (x : World × Answer). x.0.shared) (done is)) ∙ leaves

step_leaves : (w : World) (now : ℤ) (id : ℤ) (p : Plan) (refusal : Option Answer) (m : Option Driver) → driver_of id w.drivers ≡ m → Sound w → IsFencedDriver w.shared m → (unless_refused w refusal (step_result w p now m)).0.shared ≡ w.shared
step_leaves w now id p (Some a) m found sound fenced = refl
step_leaves w now id p None None found sound fenced = absurd fenced
step_leaves w now id p None (Some d) found sound fenced = fenced_driver p w.shared (running_ids w.drivers) now d (sound.each id d found) fenced

fenced_step : (w : World) (id now : ℤ) (p : Plan) → Sound w → IsFencedDriver w.shared (driver_of id w.drivers) → (next w (event.Step id now p)).0.shared ≡ w.shared
unfolding next
fenced_step w id now p sound fenced = step_leaves w now id p (running_refusal w id) (driver_of id w.drivers) refl sound fenced

turned_leaves : (w : World) (now : ℤ) (id : ℤ) (refusal : Option Answer) (m : Option Driver) → driver_of id w.drivers ≡ m → IsTime now → Sound w → IsFencedDriver w.shared m → (unless_refused w refusal (turn_result w now m)).0.shared ≡ w.shared
turned_leaves w now id (Some a) m found time sound fenced = refl
turned_leaves w now id None None found time sound fenced = absurd fenced
turned_leaves w now id None (Some d) found time sound fenced = (fenced_turn (work w.shared d) w.shared (running_ids w.drivers) now d time sound.kept (sound.each id d found) fenced).0

turn_event : (w : World) (id now : ℤ) → IsTime now → Sound w → IsFencedDriver w.shared (driver_of id w.drivers) → (next w (event.Turn id now)).0.shared ≡ w.shared
unfolding next
turn_event w id now time sound fenced = turned_leaves w now id (running_refusal w id) (driver_of id w.drivers) refl time sound fenced

-- a turn that a failure cut off
cut_off_leaves : (w : World) (id now : ℤ) (replies : List Reply) (new : World) → IsTime now → Sound w → IsFencedDriver w.shared (driver_of id w.drivers) → CutOffTurn w id now replies new → new.shared ≡ w.shared
cut_off_leaves w id now replies new time sound fenced left =
    fenced_cut_off (work w.shared left.before) w.shared (running_ids w.drivers) now left.before replies new.shared left.after time sound.kept
    (sound.each id left.before left.runs.1) (subst (IsFencedDriver w.shared) left.runs.1 fenced) left.cut_off

turn_left : (w : World) (id now : ℤ) (a : Answer) (new : World) → IsTime now → Sound w → IsFencedDriver w.shared (driver_of id w.drivers) → IsLeft w (event.Turn id now) a new → new.shared ≡ w.shared
turn_left w id now (answer.Turn replies) new time sound fenced left = cut_off_leaves w id now replies new time sound fenced left
turn_left w id now (answer.Step r) new time sound fenced left = absurd left
turn_left w id now (answer.TreeFailed f) new time sound fenced left = ap (λ (x : World). x.shared) left
turn_left w id now (answer.LogFailed f) new time sound fenced left = ap (λ (x : World). x.shared) left
turn_left w id now answer.NoMemory new time sound fenced left = ap (λ (x : World). x.shared) left
turn_left w id now a new time sound fenced left = ap (λ (x : World). x.shared) left

turn_by : (b : Bool) (w : World) (id now : ℤ) (a : Answer) (new : World) → is_failure a ≡ b → (is_failure a ≡ false → next w (event.Turn id now) ≡ (new, a)) → (is_failure a ≡ true → IsLeft w (event.Turn id now) a new) → IsTime now → Sound w → IsFencedDriver w.shared (driver_of id w.drivers) → new.shared ≡ w.shared
turn_by true w id now a new is done failed time sound fenced = turn_left w id now a new time sound fenced (failed is)
turn_by false w id now a new is done failed time sound fenced = sym (ap (λ (x : World × Answer). x.0.shared) (done is)) ∙ turn_event w id now time sound fenced

fenced_event : (w : World) (e : Event) (a : Answer) (new : World) → IsLawful e → (is_failure a ≡ false → next w e ≡ (new, a)) → (is_failure a ≡ true → IsLeft w e a new) → Sound w → IsOfFenced w e → new.shared ≡ w.shared
fenced_event w (event.Turn id now) a new lawful done failed sound fenced = turn_by (is_failure a) w id now a new refl done failed lawful.1 sound fenced
fenced_event w (event.Step id now p) a new lawful done failed sound fenced = alone_by (is_failure a) w (event.Step id now p) a new refl done failed refl (λ replies left. left) (fenced_step w id now p sound fenced)
fenced_event w (event.Change id records now) a new lawful done failed sound fenced =
    alone_by (is_failure a) w (event.Change id records now) a new refl done failed refl (λ replies left. left) (ap (λ (x : World). x.shared) (leader_alone w id now records (pos 0) true fenced).0)
fenced_event w (event.Register id broker migrating now) a new lawful done failed sound fenced =
    alone_by (is_failure a) w (event.Register id broker migrating now) a new refl done failed refl (λ replies left. left) (ap (λ (x : World). x.shared) (leader_alone w id now [] broker migrating fenced).1)
fenced_event w (event.Finalise id now) a new lawful done failed sound fenced =
    alone_by (is_failure a) w (event.Finalise id now) a new refl done failed refl (λ replies left. left) (ap (λ (x : World). x.shared) (leader_alone w id now [] (pos 0) true fenced).2)
fenced_event w e a new lawful done failed sound fenced = absurd fenced

-- ---- a step by whose reply its driver learns of it

told_no_failure : (r : Reply) → IsOfFence r → is_failed_step r ≡ false
told_no_failure (reply.FencedEpoch epoch) h = refl
told_no_failure (reply.FencedWrite claim) h = refl
told_no_failure (reply.Stale epoch) h = refl
told_no_failure r h = absurd h

-- an event that never answers so left the world
outcome_leaves : (w : World) (refusal : Option Answer) (made new : World) (said a : Answer) → (said ≡ a → ⊥) → outcome_unless w refusal made said ≡ (new, a) → new ≡ w
outcome_leaves w (Some x) made new said a other h = sym (ap (λ (p : World × Answer). p.0) h)
outcome_leaves w None made new said a other h = absurd (other (ap (λ (p : World × Answer). p.1) h))

moved_leaves : (w : World) (r : Result Tree MoveFault) (new : World) (t : Reply) → moved_world w r ≡ (new, answer.Step t) → new ≡ w
moved_leaves w (Ok m) new t h = absurd (let said = ap (λ (p : World × Answer). p.1) h in cc)
moved_leaves w (Err f) new t h = sym (ap (λ (p : World × Answer). p.0) h)

client_leaves : (w : World) (refusal : Option Answer) (r : Result Tree TreeFault) (new : World) (t : Reply) → unless_refused w refusal (client_world w r) ≡ (new, answer.Step t) → new ≡ w
client_leaves w (Some x) r new t h = sym (ap (λ (p : World × Answer). p.0) h)
client_leaves w None (Ok m) new t h = absurd (let said = ap (λ (p : World × Answer). p.1) h in cc)
client_leaves w None (Err f) new t h = sym (ap (λ (p : World × Answer). p.0) h)

rollback_leaves : (w : World) (refusal : Option Answer) (r : Result Tree TreeFault) (new : World) (t : Reply) → unless_refused w refusal (given_back (reset_world w) r) ≡ (new, answer.Step t) → new ≡ w
rollback_leaves w (Some x) r new t h = sym (ap (λ (p : World × Answer). p.0) h)
rollback_leaves w None (Ok m) new t h = absurd (let said = ap (λ (p : World × Answer). p.1) h in cc)
rollback_leaves w None (Err f) new t h = absurd (let said = ap (λ (p : World × Answer). p.1) h in cc)

turn_leaves : (w : World) (refusal : Option Answer) (now : ℤ) (m : Option Driver) (new : World) (t : Reply) → unless_refused w refusal (turn_result w now m) ≡ (new, answer.Step t) → new ≡ w
turn_leaves w (Some x) now m new t h = sym (ap (λ (p : World × Answer). p.0) h)
turn_leaves w None now None new t h = sym (ap (λ (p : World × Answer). p.0) h)
turn_leaves w None now (Some d) new t h = absurd (let said = ap (λ (p : World × Answer). p.1) h in cc)

abbrev reply_in : Reply → Answer → Reply
reply_in other (answer.Step r) = r
reply_in other a = other

step_tells : (w : World) (refusal : Option Answer) (p : Plan) (now : ℤ) (m : Option Driver) (new : World) (t : Reply) → IsOfFence t → unless_refused w refusal (step_result w p now m) ≡ (new, answer.Step t) → new.shared ≡ w.shared
step_tells w (Some x) p now m new t fence h = sym (ap (λ (q : World × Answer). q.0.shared) h)
step_tells w None p now None new t fence h = sym (ap (λ (q : World × Answer). q.0.shared) h)
step_tells w None p now (Some d) new t fence h =
    let told : (planned_step p w.shared (running_ids w.drivers) now d).reply ≡ t = ap (λ (q : World × Answer). reply_in t q.1) h in
    sym (ap (λ (q : World × Answer). q.0.shared) h) ∙ fenced_reply p w.shared (running_ids w.drivers) now d (subst IsOfFence (sym told) fence)

abbrev shared_in : World → Shared
shared_in w = w.shared

told_fence : (w : World) (e : Event) (new : World) (t : Reply) → IsOfFence t → next w e ≡ (new, answer.Step t) → new.shared ≡ w.shared
unfolding next
told_fence w (event.Quorum ids) new t fence h = ap shared_in (outcome_leaves w (quorum_refusal w ids) (declared_world w ids) new answer.Done (answer.Step t) (λ is. absurd (cc)) h)
told_fence w (event.Start id) new t fence h = ap shared_in (outcome_leaves w (start_refusal w id) (started_world w id) new answer.Done (answer.Step t) (λ is. absurd (cc)) h)
told_fence w (event.Stop controller) new t fence h = ap shared_in (outcome_leaves w (stop_refusal w controller) (stopped_world w controller) new answer.Done (answer.Step t) (λ is. absurd (cc)) h)
told_fence w (event.Elect id now) new t fence h = ap shared_in (outcome_leaves w (election_refusal w id) (elected_world w id now) new (election_answer w now) (answer.Step t) (λ is. absurd (cc)) h)
told_fence w (event.Step id now p) new t fence h = step_tells w (running_refusal w id) p now (driver_of id w.drivers) new t fence h
told_fence w (event.Turn id now) new t fence h = ap shared_in (turn_leaves w (running_refusal w id) now (driver_of id w.drivers) new t h)
told_fence w (event.Change id records now) new t fence h = ap shared_in (outcome_leaves w (change_refusal w id records) (changed_world w records now) new _ (answer.Step t) (λ is. absurd (cc)) h)
told_fence w (event.Register id broker migrating now) new t fence h = ap shared_in (outcome_leaves w (register_refusal w id (registration broker migrating)) (changed_world w (registration broker migrating) now) new _ (answer.Step t) (λ is. absurd (cc)) h)
told_fence w (event.Finalise id now) new t fence h = ap shared_in (outcome_leaves w (finalise_refusal w id) (changed_world w final_records now) new _ (answer.Step t) (λ is. absurd (cc)) h)
told_fence w event.Rollback new t fence h = ap shared_in (rollback_leaves w (rollback_refusal w) (tree_after_ops w.shared.tree (exit_ops w.shared.tree)) new t h)
told_fence w event.Snapshot new t fence h = ap shared_in (outcome_leaves w (snapshot_refusal w) (cut_world w) new answer.Done (answer.Step t) (λ is. absurd (cc)) h)
told_fence w event.Check new t fence h = absurd (let said = ap (λ (p : World × Answer). p.1) h in cc)
told_fence w (event.ZkOpen session) new t fence h = ap shared_in (moved_leaves w (begin_session w.shared.tree session) new t h)
told_fence w (event.ZkExpire session) new t fence h = ap shared_in (moved_leaves w (end_session w.shared.tree session) new t h)
told_fence w (event.Zk ops) new t fence h = ap shared_in (client_leaves w (client_refusal w.shared.tree ops) (multi w.shared.tree ops) new t h)

telling_event : (w : World) (e : Event) (a : Answer) (new : World) → (is_failure a ≡ false → next w e ≡ (new, a)) → TellsFence a → new.shared ≡ w.shared
telling_event w e (answer.Step t) new done fence = told_fence w e new t fence (done (told_no_failure t fence))
telling_event w e a new done fence = absurd fence

-- an event of a controller that another one has taken over from leaves the tree and the log
pub fenced_after : (w : World) (e : Event) (a : Answer) (new : World) → IsLawful e → (is_failure a ≡ false → next w e ≡ (new, a)) → (is_failure a ≡ true → IsLeft w e a new) → Sound w → IsOfFenced w e ⊎ TellsFence a → new.shared ≡ w.shared
fenced_after w e a new lawful done failed sound (inl fenced) = fenced_event w e a new lawful done failed sound fenced
fenced_after w e a new lawful done failed sound (inr fence) = telling_event w e a new done fence
