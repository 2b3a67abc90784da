-- Steps and turns of a driver of a world.
use Rattle.std.proofs.Common.{◌≡◌, ℕ, zero, suc, ◌<◌, inl, inr, true, false, ℤ, List, [], ◌∷◌, length, set, Option, Some, None, Result, Ok, Err, IfOk, refl, sym, ap, ◌∙◌, subst, arith}
use Rattle.std.specs.Prelude.{slice_get, unwrap_or}
use Rattle.std.specs.List.{list_any}
use Rattle.kz_types.specs.declared.machine.Answer.{Answer}
use Rattle.kz_types.specs.declared.machine.Answer.TheVariants as answer
use Rattle.kz_types.specs.declared.machine.Event.TheVariants as event
use Rattle.kz_types.specs.declared.machine.Reply.{Reply}
use Rattle.kz_types.specs.declared.machine.Reply.TheVariants as reply
use Rattle.kz_types.specs.declared.plan.Plan.{Plan}
use Rattle.kz_spec_data.specs.Tree.{Tree}
use Rattle.kz_spec_data.specs.Log.{Log}
use Rattle.kz_spec_machine.specs.Driver.{Shared, Driver, planned_step, step}
use Rattle.kz_spec_machine.specs.Machine.{World, next, running_ids, driver_of, running_refusal, unless_refused, ends, turn, work, stepped_world, step_result, turned_world, turn_result, Pair, pair_of, step_pairs, pairs_unless, event_step_pairs, event_pairs}
use Rattle.kz_spec_machine.specs.Failures.{is_failed_step, is_failure, IsCutOff}
use Rattle.kz_spec_machine.specs.Sound.{IsTime, Sound}
use Rattle.kz_world_parts.specs.Disks.{Disks, Payloads}
use Rattle.kz_world_parts.specs.TurnDisks.{StepRequestDisks}
use Rattle.kz_world_parts.specs.Pairs.{IsSoundPair}
use Rattle.kz_world_parts.specs.Steps.{StepEnds, TurnEnds}
use Rattle.kz_world_parts.specs.TurnStops.{AreUp, LeavesOneOf, turn_failure_pairs}
use Rattle.kz_world_parts.specs.declared.faults.EventFault.{EventFault}
use Rattle.kz_world_parts.specs.EventDisks.{DriverTurnDisks, TurnEventDisks, DriverStepDisks, ResultDisks}
use Rattle.kz_world_parts.specs.Faults.{answer_of_result}
use Rattle.kz_world_parts.specs.EventStops.{TurnLeaves, EventLeaves}
use Rattle.kz_world_parts.specs.Turns.{IsStepped, IsTurned}
use Rattle.kz_world_parts.specs.Worlds.{AreDistinct, IsOutcome}
use Rattle.kz_world_parts.proofs.Listings.{one_place}
use Rattle.kz_world_parts.proofs.Outcomes.{true_or_false, done_is_outcome, unless_none}

-- ---- the driver at a place

none_past : (ds : List Driver) (at : ℕ) → at < length ds → slice_get ds at ≡ None → ⊥
none_past [] at h none = omega (arith, h)
none_past (d ∷ ds) zero h none = absurd (cc)
none_past (d ∷ ds) (suc at) h none = none_past ds at (omega (arith, h)) none

-- what holds of the driver at a place within the list
by_driver : (holds : Option Driver → Type 0) (ds : List Driver) (at : ℕ) (o : Option Driver) → at < length ds → slice_get ds at ≡ o → ((d : Driver) → slice_get ds at ≡ Some d → holds (Some d)) → holds o
by_driver holds ds at None h is each = absurd (none_past ds at h is)
by_driver holds ds at (Some d) h is each = each d is

set_same : (ds : List Driver) (at : ℕ) (d : Driver) → slice_get ds at ≡ Some d → set ds at d ≡ ds
set_same [] at d is = refl
set_same (x ∷ ds) zero d is = ap (λ (o : Option Driver). unwrap_or o d ∷ ds) (sym is)
set_same (x ∷ ds) (suc at) d is = ap (λ xs. x ∷ xs) (set_same ds at d is)

sound_pair : (w : World) (id now : ℤ) (d : Driver) → IsTime now → Sound w → driver_of id w.drivers ≡ Some d → IsSoundPair w.shared now d
sound_pair w id now d time sound found = record { time = time; shared = sound.kept; driver = sound.each id d found }

-- ---- steps

-- a step of the driver at a place
pub step_told : (p : Plan) (w : World) (now : ℤ) (d : Driver) (at : ℕ) (running : List ℤ) (s : Shared) (e : Driver) (told : Reply) → AreDistinct (running_ids w.drivers) → slice_get w.drivers at ≡ Some d → running ≡ running_ids w.drivers → e.id ≡ d.id
    → StepEnds p w.shared running now d told s e → IsStepped p w now d (record { shared = s; drivers = set w.drivers at e }) told
step_told p w now d at running s e told distinct at_is running_is same h = record {
  done = λ none. ap (stepped_world w) (ap (λ is. planned_step p w.shared is now d) (sym running_is) ∙ h.done none)
      ∙ ap (λ ds. (record { shared = s; drivers = ds }, answer.Step told)) (one_place w.drivers at d e distinct at_is same);
  failed = λ fails. let both = h.failed fails in
      ap (λ (x : Shared). record { shared = x; drivers = set w.drivers at e }) both.0 ∙ ap (λ (x : Driver). record { shared = w.shared; drivers = set w.drivers at x }) both.1 ∙ ap (λ ds. record { shared = w.shared; drivers = ds }) (set_same w.drivers at d at_is);
}

step_whole : (w : World) (id now : ℤ) (p : Plan) (d : Driver) (r : World × Answer) → running_refusal w id ≡ None → driver_of id w.drivers ≡ Some d → step_result w p now (Some d) ≡ r → next w (event.Step id now p) ≡ r
unfolding next
step_whole w id now p d r runs found is = ap (λ a. unless_refused w a (step_result w p now (driver_of id w.drivers))) runs ∙ ap (step_result w p now) found ∙ is

step_is_outcome : (w : World) (id now : ℤ) (p : Plan) (d : Driver) (new : World) (told : Reply) → running_refusal w id ≡ None → driver_of id w.drivers ≡ Some d → IsStepped p w now d new told → IsOutcome w (event.Step id now p) new (answer.Step told)
step_is_outcome w id now p d new told runs found h = record {
  done = λ none. step_whole w id now p d (new, answer.Step told) runs found (h.done none);
  failed = λ fails. (runs, (d, found), h.failed fails);
  told = refl;
}

-- the step of a controller whose driver is at this place
pub step_outcome : (w : World) (id now : ℤ) (p : Plan) (at : ℕ) (new : World) (told : Reply) → running_refusal w id ≡ None → at < length w.drivers → driver_of id w.drivers ≡ slice_get w.drivers at → IsTime now
    → ((d : Driver) → slice_get w.drivers at ≡ Some d → IsSoundPair w.shared now d → IsStepped p w now d new told) → Sound w → IsOutcome w (event.Step id now p) new (answer.Step told)
step_outcome w id now p at new told runs h found time each sound =
    by_driver (λ o. driver_of id w.drivers ≡ o → IsOutcome w (event.Step id now p) new (answer.Step told)) w.drivers at (slice_get w.drivers at) h refl
    (λ d is same. step_is_outcome w id now p d new told runs same (each d is (sound_pair w id now d time sound same))) found

-- what it does to the disks
pub step_disks : (w : World) (id now : ℤ) (p : Plan) (told : Reply) (at : ℕ) (payloads : Payloads) (old new : Disks) → running_refusal w id ≡ None → at < length w.drivers → driver_of id w.drivers ≡ slice_get w.drivers at
    → ((d : Driver) → slice_get w.drivers at ≡ Some d → StepRequestDisks p w.shared now d payloads told old new) → ResultDisks w (event.Step id now p) payloads (Ok (answer.Step told)) old new
step_disks w id now p told at payloads old new runs h found each =
    unless_none (running_refusal w id) _ _ runs
    (subst (λ o. DriverStepDisks p w now o payloads (Ok (answer.Step told)) old new) (sym found) (by_driver (λ o. DriverStepDisks p w now o payloads (Ok (answer.Step told)) old new) w.drivers at (slice_get w.drivers at) h refl each))

-- the pairs of a controller's step
step_event_pairs : (w : World) (id now : ℤ) (p : Plan) (d : Driver) → running_refusal w id ≡ None → driver_of id w.drivers ≡ Some d → step_pairs p w.shared (running_ids w.drivers) now d ≡ event_pairs w (event.Step id now p)
unfolding event_pairs
step_event_pairs w id now p d runs found = sym (ap (λ a. pairs_unless a (event_step_pairs w p now (driver_of id w.drivers))) runs ∙ ap (event_step_pairs w p now) found)

-- what a stop leaves
pub step_stop : (w : World) (id now : ℤ) (p : Plan) (told : Reply) (at : ℕ) (old : Disks) (tree_left : Option Tree → Type 0) (log_left : Option Log → Type 0) → running_refusal w id ≡ None → at < length w.drivers → driver_of id w.drivers ≡ slice_get w.drivers at → IsTime now
    → ((d : Driver) → slice_get w.drivers at ≡ Some d → IsSoundPair w.shared now d → AreUp old → is_failed_step told ≡ true → LeavesOneOf (pair_of w.shared ∷ step_pairs p w.shared (running_ids w.drivers) now d) tree_left log_left)
    → Sound w → EventLeaves w (event.Step id now p) (Ok (answer.Step told)) old tree_left log_left
step_stop w id now p told at old tree_left log_left runs h found time each sound up fails =
    by_driver (λ o. driver_of id w.drivers ≡ o → LeavesOneOf (pair_of w.shared ∷ event_pairs w (event.Step id now p)) tree_left log_left) w.drivers at (slice_get w.drivers at) h refl
    (λ d is same. subst (λ (ps : List Pair). LeavesOneOf (pair_of w.shared ∷ ps) tree_left log_left) (step_event_pairs w id now p d runs same) (each d is (sound_pair w id now d time sound same) up fails)) found

-- a step that is refused
pub step_refused : (w : World) (id now : ℤ) (p : Plan) (r : Answer) → running_refusal w id ≡ Some r → is_failure r ≡ false → IsOutcome w (event.Step id now p) w r
unfolding next
step_refused w id now p r refused told =
    done_is_outcome w (event.Step id now p) w r (ap (λ a. unless_refused w a (step_result w p now (driver_of id w.drivers))) refused, told)

-- a controller that runs has a driver
pub step_of_none : (w : World) (id now : ℤ) (p : Plan) → running_refusal w id ≡ None → driver_of id w.drivers ≡ None → IsOutcome w (event.Step id now p) w answer.NotRunning
unfolding next
step_of_none w id now p runs none = done_is_outcome w (event.Step id now p) w answer.NotRunning
    (ap (λ a. unless_refused w a (step_result w p now (driver_of id w.drivers))) runs ∙ ap (step_result w p now) none, refl)

-- ---- turns that a failure cut off

-- a failure ends a turn
goes_on_told : (r : Reply) → ends r ≡ false → is_failed_step r ≡ false
goes_on_told reply.Idle h = refl
goes_on_told (reply.WaitQuorum id) h = refl
goes_on_told (reply.WaitBroker id) h = refl
goes_on_told (reply.Moved s) h = refl
goes_on_told reply.Looked h = refl
goes_on_told (reply.Claimed number) h = refl
goes_on_told (reply.Read rows) h = refl
goes_on_told (reply.Appended offset) h = refl
goes_on_told (reply.Wrote ops) h = refl
goes_on_told (reply.Recorded offset) h = refl
goes_on_told (reply.FencedEpoch epoch) h = refl
goes_on_told (reply.FencedWrite claim) h = refl
goes_on_told (reply.Stale epoch) h = refl
goes_on_told (reply.Untranslatable path why) h = refl
goes_on_told (reply.Limit path) h = refl
goes_on_told reply.Lost h = refl
goes_on_told reply.Expired h = refl
goes_on_told (reply.TreeFailed f) h = absurd (cc)
goes_on_told (reply.LogFailed f) h = absurd (cc)
goes_on_told reply.NoMemory h = absurd (cc)

-- such a turn tells of the failure
cut_off_fails : (n : ℕ) (s : Shared) (running : List ℤ) (now : ℤ) (d : Driver) (rs : List Reply) (t : Shared) (e : Driver) → IsCutOff n s running now d rs t e → list_any is_failed_step rs ≡ true
unfolding IsCutOff
cut_off_fails zero s running now d rs t e h = absurd h
cut_off_fails (suc n) s running now d [] t e h = absurd h
cut_off_fails (suc n) s running now d (r ∷ []) t e h = rw h.0 refl
cut_off_fails (suc n) s running now d (r ∷ q ∷ rs) t e h =
    let on = goes_on_told r h.1 in
    rw on (cut_off_fails n (step s running now d).shared running now (step s running now d).driver (q ∷ rs) t e h.2)

-- ---- turns

-- so many steps of a driver's turn
turned_by : (w : World) (now : ℤ) (d : Driver) (at k : ℕ) (running : List ℤ) (s : Shared) (e : Driver) (rs : List Reply) → AreDistinct (running_ids w.drivers) → slice_get w.drivers at ≡ Some d
    → running ≡ running_ids w.drivers → turn k w.shared running now d ≡ record { shared = s; driver = e; replies = rs } → e.id ≡ d.id
    → turned_world w (turn k w.shared (running_ids w.drivers) now d) ≡ (record { shared = s; drivers = set w.drivers at e }, answer.Turn rs)
turned_by w now d at k running s e rs distinct at_is running_is ok same =
    ap (turned_world w) (ap (λ is. turn k w.shared is now d) (sym running_is) ∙ ok)
    ∙ ap (λ ds. (record { shared = s; drivers = ds }, answer.Turn rs)) (one_place w.drivers at d e distinct at_is same)

-- a turn of the driver at a place
pub turn_told : (w : World) (now : ℤ) (d : Driver) (at most : ℕ) (running : List ℤ) (s : Shared) (e : Driver) (rs : List Reply) → AreDistinct (running_ids w.drivers) → slice_get w.drivers at ≡ Some d
    → most ≡ work w.shared d → running ≡ running_ids w.drivers → e.id ≡ d.id → TurnEnds most w.shared running now d rs s e → IsTurned w now d (record { shared = s; drivers = set w.drivers at e }) (answer.Turn rs)
turn_told w now d at most running s e rs distinct at_is most_is running_is same (inl whole) =
    inl (ap (λ n. turned_world w (turn n w.shared (running_ids w.drivers) now d)) (sym most_is) ∙ turned_by w now d at most running s e rs distinct at_is running_is whole.0 same, whole.1)
turn_told w now d at most running s e rs distinct at_is most_is running_is same (inr cut) =
    inr (record {
      after = e;
      cut_off = subst (λ n. IsCutOff n w.shared (running_ids w.drivers) now d rs s e) most_is (subst (λ is. IsCutOff most w.shared is now d rs s e) running_is cut);
      drivers = sym (one_place w.drivers at d e distinct at_is same);
    })

turn_whole : (w : World) (id now : ℤ) (d : Driver) (r : World × Answer) → running_refusal w id ≡ None → driver_of id w.drivers ≡ Some d → turn_result w now (Some d) ≡ r → next w (event.Turn id now) ≡ r
unfolding next
turn_whole w id now d r runs found is = ap (λ a. unless_refused w a (turn_result w now (driver_of id w.drivers))) runs ∙ ap (turn_result w now) found ∙ is

turn_is_outcome : (w : World) (id now : ℤ) (d : Driver) (new : World) (a : Answer) → running_refusal w id ≡ None → driver_of id w.drivers ≡ Some d → IsTurned w now d new a → IsOutcome w (event.Turn id now) new a
turn_is_outcome w id now d new (answer.Turn rs) runs found (inl whole) = record {
  done = λ none. turn_whole w id now d (new, answer.Turn rs) runs found whole.0;
  failed = λ fails. true_or_false (list_any is_failed_step rs) fails whole.1;
  told = refl;
}
turn_is_outcome w id now d new (answer.Turn rs) runs found (inr cut) = record {
  done = λ none. true_or_false (list_any is_failed_step rs) (cut_off_fails _ _ _ _ _ rs _ _ cut.cut_off) none;
  failed = λ fails. record { before = d; after = cut.after; runs = (runs, found); cut_off = cut.cut_off; drivers = cut.drivers };
  told = refl;
}
turn_is_outcome w id now d new a runs found h = absurd h

turn_outcome_at : {E : Type 0} (r : Result Answer E) (w : World) (id now : ℤ) (d : Driver) (new : World) → running_refusal w id ≡ None → driver_of id w.drivers ≡ Some d → IfOk r (IsTurned w now d new) → IfOk r (IsOutcome w (event.Turn id now) new)
turn_outcome_at (Ok a) w id now d new runs found h = turn_is_outcome w id now d new a runs found h
turn_outcome_at (Err f) w id now d new runs found h = tt

-- the turn of a controller whose driver is at this place
pub turn_outcome : {E : Type 0} (r : Result Answer E) (w : World) (id now : ℤ) (at : ℕ) (new : World) → running_refusal w id ≡ None → at < length w.drivers → driver_of id w.drivers ≡ slice_get w.drivers at → IsTime now
    → ((d : Driver) → slice_get w.drivers at ≡ Some d → IsSoundPair w.shared now d → IfOk r (IsTurned w now d new)) → Sound w → IfOk r (IsOutcome w (event.Turn id now) new)
turn_outcome r w id now at new runs h found time each sound =
    by_driver (λ o. driver_of id w.drivers ≡ o → IfOk r (IsOutcome w (event.Turn id now) new)) w.drivers at (slice_get w.drivers at) h refl
    (λ d is same. turn_outcome_at r w id now d new runs same (each d is (sound_pair w id now d time sound same))) found

-- what it does to the disks
pub turn_disks : (r : Result Answer EventFault) (w : World) (id now : ℤ) (at : ℕ) (payloads : Payloads) (old new : Disks) → running_refusal w id ≡ None → at < length w.drivers → driver_of id w.drivers ≡ slice_get w.drivers at → IsTime now
    → ((d : Driver) → slice_get w.drivers at ≡ Some d → IsSoundPair w.shared now d → DriverTurnDisks w now d payloads r old new) → Sound w → ResultDisks w (event.Turn id now) payloads r old new
turn_disks r w id now at payloads old new runs h found time each sound =
    unless_none (running_refusal w id) _ _ runs
    (by_driver (λ o. driver_of id w.drivers ≡ o → TurnEventDisks w now (driver_of id w.drivers) payloads r old new) w.drivers at (slice_get w.drivers at) h refl
    (λ d is same. subst (λ o. TurnEventDisks w now o payloads r old new) (sym same) (each d is (sound_pair w id now d time sound same))) found)

-- what a stop leaves
pub turn_stop : (r : Result Answer EventFault) (w : World) (id now : ℤ) (at : ℕ) (old : Disks) (tree_left : Option Tree → Type 0) (log_left : Option Log → Type 0) → at < length w.drivers → driver_of id w.drivers ≡ slice_get w.drivers at → IsTime now
    → ((d : Driver) → slice_get w.drivers at ≡ Some d → IsSoundPair w.shared now d → TurnLeaves w now d r old tree_left log_left) → Sound w → EventLeaves w (event.Turn id now) r old tree_left log_left
turn_stop r w id now at old tree_left log_left h found time each sound =
    by_driver (λ o. driver_of id w.drivers ≡ o → EventLeaves w (event.Turn id now) r old tree_left log_left) w.drivers at (slice_get w.drivers at) h refl
    (λ d is same up fails. subst (λ (o : Option Driver). LeavesOneOf (turn_failure_pairs w now (answer_of_result r) o) tree_left log_left) (sym same) (each d is (sound_pair w id now d time sound same) up fails)) found

-- a turn that is refused
pub turn_refused : (w : World) (id now : ℤ) (r : Answer) → running_refusal w id ≡ Some r → is_failure r ≡ false → IsOutcome w (event.Turn id now) w r
unfolding next
turn_refused w id now r refused told =
    done_is_outcome w (event.Turn id now) w r (ap (λ a. unless_refused w a (turn_result w now (driver_of id w.drivers))) refused, told)

-- a controller that runs has a driver
pub turn_of_none : (w : World) (id now : ℤ) → running_refusal w id ≡ None → driver_of id w.drivers ≡ None → IsOutcome w (event.Turn id now) w answer.NotRunning
unfolding next
turn_of_none w id now runs none = done_is_outcome w (event.Turn id now) w answer.NotRunning
    (ap (λ a. unless_refused w a (turn_result w now (driver_of id w.drivers))) runs ∙ ap (turn_result w now) none, refl)
