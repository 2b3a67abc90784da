-- After a migration is finalised it stays so, no step, turn or rollback changes the tree or the log, and each rollback is refused.
use Rattle.std.proofs.Common.{◌≡◌, true, List, [], ◌∷◌, ◌++◌, All, sym, ap, subst}
use Rattle.kz_types.specs.declared.machine.Event.{Event}
use Rattle.kz_types.specs.declared.machine.Event.TheVariants as event
use Rattle.kz_spec_data.specs.Tree.{Tree}
use Rattle.kz_spec_data.specs.Log.{Log}
use Rattle.kz_spec_machine.specs.Machine.{World, is_finalised_log, next, after_events}
use Rattle.kz_spec_machine.specs.Sound.{Sound, IsLawful}
use Rattle.kz_spec_machine.specs.Openings.{opened_world, IsSoundPair}
use Rattle.kz_spec_machine.specs.Promises.{IsStepTurnOrRollback, IsFinalRefusal, StaysFinalised, FinalisedForGood}
use Rattle.kz_laws_events.proofs.Runs.{lawful_before, lawful_next, run_sound}
use Rattle.kz_laws_exits.specs.Ends.{EndHolds}
use Rattle.kz_laws_exits.proofs.Finalised.{final_rollback_refused}
use Rattle.kz_laws_exits.proofs.Events.{run_ends}
use Rattle.kz_laws_exits.proofs.Stays.{step_event, turn_event, stays_final}
use Rattle.kz_laws_runs.proofs.FinalMoments.{final_moments}

-- ---- events

abbrev Stays : World → World → Type 0
Stays w new = new.shared ≡ w.shared

event_rests : (w : World) (e : Event) → IsLawful e → IsStepTurnOrRollback e → Sound w → EndHolds w → is_finalised_log w.shared.log ≡ true → Stays w (next w e).0
event_rests w (event.Step id now p) lawful of sound ends final = step_event w id now p sound ends final
event_rests w (event.Turn id now) lawful of sound ends final = turn_event w id now lawful.1 sound ends final
event_rests w event.Rollback lawful of sound ends final = ap (λ (x : World). x.shared) (final_rollback_refused w final).0
event_rests w e lawful of sound ends final = absurd of

refused_final : (w : World) (e : Event) → e ≡ event.Rollback → is_finalised_log w.shared.log ≡ true → IsFinalRefusal (next w e).1
refused_final w e is final = subst (λ (x : Event). IsFinalRefusal (next w x).1) (sym is) (final_rollback_refused w final).1

event_final : (w : World) (e : Event) → IsLawful e → Sound w → EndHolds w → is_finalised_log w.shared.log ≡ true → StaysFinalised w e
event_final w e lawful sound ends final = record {
  still = stays_final w e lawful sound ends final;
  unchanged = λ of. event_rests w e lawful of sound ends final;
  moments = λ of. final_moments w e lawful of sound ends final;
  refused = λ is. refused_final w e is final;
}

-- ---- runs

-- what the end of a migration rests on holds where a run begins
pub opened_ends : (t : Tree) (l : Log) → IsSoundPair t l → EndHolds (opened_world t l)
opened_ends t l pair = record { closed = pair.closed; each = λ id d found. absurd (cc) }

pub run_finalised : (t : Tree) (l : Log) (es : List Event) → IsSoundPair t l → All IsLawful es → FinalisedForGood (opened_world t l) es
run_finalised t l es pair lawful before after e is final =
    let all : All IsLawful (before ++ e ∷ after) = subst (All IsLawful) is lawful in
    let front = lawful_before before (e ∷ after) all in
    let w : World = opened_world t l in
    event_final (after_events w before) e (lawful_next before after e all) (run_sound before w front pair.sound) (run_ends before w front pair.sound (opened_ends t l pair)) final
