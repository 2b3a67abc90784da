-- After a migration is finalised, every moment of a step, of a turn and of a rollback has the tree and the log that were there.
use Rattle.std.proofs.Common.{◌≡◌, ℕ, zero, suc, ℤ, Bool, true, false, if◌then◌else◌, List, [], ◌∷◌, Option, Some, None, All, refl, ap, ◌∙◌, subst}
use Rattle.std.proofs.lemmas.List.Elements.{All-nil, All-cons, All-append}
use Rattle.kz_types.specs.declared.machine.Answer.{Answer}
use Rattle.kz_types.specs.declared.machine.Event.{Event}
use Rattle.kz_types.specs.declared.machine.Event.TheVariants as event
use Rattle.kz_types.specs.declared.plan.Plan.{Plan}
use Rattle.kz_types.specs.declared.plan.Plan.TheVariants as plan
use Rattle.kz_spec_machine.specs.Driver.{Shared, Driver, Request, nothing, request_at, planned_step, step}
use Rattle.kz_spec_machine.specs.Machine.{World, Pair, pair_of, pairs_after, step_pairs, ends, turn_pairs, work, running_ids, driver_of, running_refusal, event_step_pairs, event_turn_pairs, pairs_unless, rollback_refusal, reset_world, exit_ops, exit_pairs, is_finalised_log, event_pairs}
use Rattle.kz_spec_machine.specs.Sound.{IsTime, IsSharedSound, IsSoundDriver, Sound, IsLawful}
use Rattle.kz_spec_machine.specs.Promises.{IsStepTurnOrRollback, IsMomentOf}
use Rattle.kz_laws_events.specs.Steps.{StepKeeps}
use Rattle.kz_laws_events.proofs.Tests.{true_or_false}
use Rattle.kz_laws_events.proofs.Exits.{may_roll_back}
use Rattle.kz_laws_events.proofs.Turned.{one_step}
use Rattle.kz_laws_exits.specs.Ends.{HasEnded, EndHolds}
use Rattle.kz_laws_exits.proofs.Final.{final_step}
use Rattle.kz_laws_exits.proofs.Stays.{one_rests}

-- ---- a step

by_request : (s new : Shared) (r : Request) → pair_of new ≡ pair_of s → All (IsMomentOf s) (pairs_after r new)
by_request s new nothing same = All-nil (IsMomentOf s)
by_request s new r same = All-cons (IsMomentOf s) (pair_of new) [] same (All-nil (IsMomentOf s))

step_moments : (p : Plan) (s : Shared) (running : List ℤ) (now : ℤ) (d : Driver) → (planned_step p s running now d).shared ≡ s → All (IsMomentOf s) (step_pairs p s running now d)
step_moments p s running now d same = by_request s (planned_step p s running now d).shared (request_at s now d d.stage) (ap (λ (x : Shared). pair_of x) same)

-- ---- a turn

unless_ended : (s : Shared) (b : Bool) (ps : List Pair) → All (IsMomentOf s) ps → All (IsMomentOf s) (if b then [] else ps)
unless_ended s true ps all = All-nil (IsMomentOf s)
unless_ended s false ps all = all

turn_moments : (n : ℕ) (s : Shared) (running : List ℤ) (now : ℤ) (d : Driver) → IsTime now → IsSharedSound s → IsSoundDriver s d → HasEnded s d → is_finalised_log s.log ≡ true → All (IsMomentOf s) (turn_pairs n s running now d)
unfolding turn_pairs
turn_moments zero s running now d time kept fine ended final = All-nil (IsMomentOf s)
turn_moments (suc n) s running now d time kept fine ended final =
    let r = step s running now d in
    let k : StepKeeps s d r.shared r.driver = one_step s running now d time kept fine in
    let left = one_rests s running now d time kept fine final ended in
    let rest = turn_pairs n r.shared running now r.driver in
    All-append (IsMomentOf s) (step_pairs plan.Deliver s running now d) (if ends r.reply then [] else rest)
    (step_moments plan.Deliver s running now d (final_step plan.Deliver s running now d fine ended final))
    (unless_ended s (ends r.reply) rest
    (subst (λ (x : Shared). All (IsMomentOf x) rest) left.0 (turn_moments n r.shared running now r.driver time k.shared k.driver left.1 (ap (λ (x : Shared). is_finalised_log x.log) left.0 ∙ final))))

-- ---- events

unless_refused_moments : (s : Shared) (refusal : Option Answer) (ps : List Pair) → (refusal ≡ None → All (IsMomentOf s) ps) → All (IsMomentOf s) (pairs_unless refusal ps)
unless_refused_moments s (Some a) ps made = All-nil (IsMomentOf s)
unless_refused_moments s None ps made = made refl

stepped : (w : World) (now : ℤ) (p : Plan) (id : ℤ) (m : Option Driver) → driver_of id w.drivers ≡ m → Sound w → EndHolds w → is_finalised_log w.shared.log ≡ true → All (IsMomentOf w.shared) (event_step_pairs w p now m)
stepped w now p id None found sound old final = All-nil (IsMomentOf w.shared)
stepped w now p id (Some d) found sound old final = step_moments p w.shared (running_ids w.drivers) now d (final_step p w.shared (running_ids w.drivers) now d (sound.each id d found) (old.each id d found) final)

turned : (w : World) (now : ℤ) (id : ℤ) (m : Option Driver) → driver_of id w.drivers ≡ m → IsTime now → Sound w → EndHolds w → is_finalised_log w.shared.log ≡ true → All (IsMomentOf w.shared) (event_turn_pairs w now m)
turned w now id None found time sound old final = All-nil (IsMomentOf w.shared)
turned w now id (Some d) found time sound old final = turn_moments (work w.shared d) w.shared (running_ids w.drivers) now d time sound.kept (sound.each id d found) (old.each id d found) final

pub final_moments : (w : World) (e : Event) → IsLawful e → IsStepTurnOrRollback e → Sound w → EndHolds w → is_finalised_log w.shared.log ≡ true → All (IsMomentOf w.shared) (event_pairs w e)
unfolding event_pairs
final_moments w (event.Step id now p) lawful of sound old final = unless_refused_moments w.shared (running_refusal w id) (event_step_pairs w p now (driver_of id w.drivers)) (λ none. stepped w now p id (driver_of id w.drivers) refl sound old final)
final_moments w (event.Turn id now) lawful of sound old final = unless_refused_moments w.shared (running_refusal w id) (event_turn_pairs w now (driver_of id w.drivers)) (λ none. turned w now id (driver_of id w.drivers) refl lawful.1 sound old final)
final_moments w event.Rollback lawful of sound old final =
    unless_refused_moments w.shared (rollback_refusal w) (pair_of (reset_world w).shared ∷ exit_pairs (reset_world w) (exit_ops w.shared.tree)) (λ none. absurd (true_or_false (is_finalised_log w.shared.log) final (may_roll_back w none).unfinished))
final_moments w e lawful of sound old final = absurd of
