-- Turns in a world.
use Rattle.std.proofs.Common.{◌≡◌, ℕ, ℤ, ◌≤◌, Bool, true, false, List, Option, Some, None, All, refl, subst}
use Rattle.kz_types.specs.declared.machine.Answer.{Answer}
use Rattle.kz_types.specs.declared.machine.Answer.TheVariants as answer
use Rattle.kz_types.specs.declared.machine.Event.{Event}
use Rattle.kz_types.specs.declared.machine.Event.TheVariants as event
use Rattle.kz_types.specs.declared.machine.Reply.{Reply}
use Rattle.kz_spec_data.specs.Tree.{Tree}
use Rattle.kz_spec_data.specs.Log.{Log}
use Rattle.kz_spec_machine.specs.Driver.{Driver, is_one_of}
use Rattle.kz_spec_machine.specs.Machine.{World, running_ids, is_running, driver_of, first_of, unless, running_refusal, turn, work, turn_result, unless_refused, next, after_events}
use Rattle.kz_spec_machine.specs.Sound.{IsTime, Each, Sound, Based, IsLawful}
use Rattle.kz_spec_machine.specs.Openings.{opened_world}
use Rattle.kz_laws_commits.specs.Commits.{Copies}
use Rattle.kz_laws_events.proofs.Runs.{run_sound}
use Rattle.kz_laws_commits.proofs.Events.{run_copies}
use Rattle.kz_laws_bounds.specs.Bounds.{EndsByItself}
use Rattle.kz_laws_bounds.specs.Events.{AllLeaveBases, TurnEnds}
use Rattle.kz_laws_bounds.proofs.Turns.{turn_same}
use Rattle.kz_laws_bounds.proofs.Steps.{ends_by_itself}
use Rattle.kz_laws_bounds.proofs.Start.{left_at_work}
use Rattle.kz_laws_bounds.proofs.BasedEvents.{opened_based, run_based}

-- a turn of a driver of the world
turn_over : (w : World) (id now : ℤ) (d : Driver) → IsTime now → Sound w → Based w → Copies w.shared d → driver_of id w.drivers ≡ Some d → EndsByItself (turn (work w.shared d) w.shared (running_ids w.drivers) now d).replies
turn_over w id now d time sound based copies found =
    let fine = sound.each id d found in
    ends_by_itself (work w.shared d) w.shared (running_ids w.drivers) now d time sound.kept fine copies (record { claimed = based.claimed id d found; looked = based.looked id d found }) (left_at_work w.shared d sound.kept fine copies)

pub turn_ends : (w : World) (id now : ℤ) (d : Driver) → IsTime now → Sound w → Based w → Copies w.shared d → running_refusal w id ≡ None → driver_of id w.drivers ≡ Some d
    → EndsByItself (turn (work w.shared d) w.shared (running_ids w.drivers) now d).replies
turn_ends w id now d time sound based copies runs found = turn_over w id now d time sound based copies found

pub more_are_none : (w : World) (id now : ℤ) (d : Driver) (n : ℕ) → IsTime now → Sound w → Based w → Copies w.shared d → running_refusal w id ≡ None → driver_of id w.drivers ≡ Some d
    → work w.shared d ≤ n → turn n w.shared (running_ids w.drivers) now d ≡ turn (work w.shared d) w.shared (running_ids w.drivers) now d
more_are_none w id now d n time sound based copies runs found more = turn_same (work w.shared d) n w.shared (running_ids w.drivers) now d more (turn_over w id now d time sound based copies found)

-- ---- runs

none_copies : (t : Tree) (l : Log) → Each (Copies (opened_world t l).shared) (opened_world t l).drivers
none_copies t l id d found = absurd (cc)

pub run_turn_ends : (t : Tree) (l : Log) (es : List Event) (id now : ℤ) (d : Driver) → Sound (opened_world t l) → All IsLawful es → AllLeaveBases (opened_world t l) es → IsTime now → driver_of id (after_events (opened_world t l) es).drivers ≡ Some d → TurnEnds (after_events (opened_world t l) es) now d
run_turn_ends t l es id now d sound lawful leaves time found =
    let w : World = opened_world t l in
    turn_over (after_events w es) id now d time (run_sound es w lawful sound) (run_based es w lawful leaves sound (opened_based t l)) (run_copies es w lawful sound (none_copies t l) id d found) found

-- ---- the answer of a turn

-- a turn that is answered by replies isn't refused
not_refused : (a b : Bool) (w : World) (rest : World × Answer) (replies : List Reply) → (unless_refused w (first_of (unless a answer.UnknownController) (unless b answer.NotRunning)) rest).1 ≡ answer.Turn replies → rest.1 ≡ answer.Turn replies
not_refused true true w rest replies is = is
not_refused true false w rest replies is = absurd (cc)
not_refused false b w rest replies is = absurd (cc)

same_replies : (xs ys : List Reply) → answer.Turn xs ≡ answer.Turn ys → xs ≡ ys
same_replies xs ys is = cc

told_by : (w : World) (id now : ℤ) (m : Option Driver) (replies : List Reply) → driver_of id w.drivers ≡ m → ((d : Driver) → driver_of id w.drivers ≡ Some d → TurnEnds w now d) → (turn_result w now m).1 ≡ answer.Turn replies → EndsByItself replies
told_by w id now None replies found over is = absurd (cc)
told_by w id now (Some d) replies found over is = subst EndsByItself (same_replies (turn (work w.shared d) w.shared (running_ids w.drivers) now d).replies replies is) (over d found)

turn_told : (w : World) (id now : ℤ) (replies : List Reply) → ((d : Driver) → driver_of id w.drivers ≡ Some d → TurnEnds w now d) → (next w (event.Turn id now)).1 ≡ answer.Turn replies → EndsByItself replies
unfolding next
turn_told w id now replies over is =
    told_by w id now (driver_of id w.drivers) replies refl over (not_refused (is_one_of w.shared.declared id) (is_running id w.drivers) w (turn_result w now (driver_of id w.drivers)) replies is)

pub run_turn_told : (t : Tree) (l : Log) (es : List Event) (id now : ℤ) (replies : List Reply) → Sound (opened_world t l) → All IsLawful es → AllLeaveBases (opened_world t l) es → IsTime now → (next (after_events (opened_world t l) es) (event.Turn id now)).1 ≡ answer.Turn replies → EndsByItself replies
run_turn_told t l es id now replies sound lawful leaves time is = turn_told (after_events (opened_world t l) es) id now replies (λ d found. run_turn_ends t l es id now d sound lawful leaves time found) is
