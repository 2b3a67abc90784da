-- The finalisation of a migration, and rollbacks after it.
use Rattle.std.proofs.Common.{◌≡◌, ◌≢◌, ◌⊎◌, inl, inr, ℤ, Bool, true, false, List, Option, Some, None, refl, sym, ap, ◌∙◌, subst, arith}
use Rattle.std.specs.Prelude.{◌<ℤ◌, ◌≤ℤ◌}
use Rattle.std.specs.Ordering.{int_eq}
use Rattle.std.proofs.lemmas.Int.{ints}
use Rattle.std.proofs.lemmas.Bool.Decides.{Decides-int_eq}
use Rattle.kz_types.specs.declared.driver.Stage.{Stage}
use Rattle.kz_types.specs.declared.driver.Stage.TheVariants as stage
use Rattle.kz_types.specs.declared.machine.Answer.TheVariants as answer
use Rattle.kz_types.specs.declared.machine.Event.TheVariants as event
use Rattle.kz_types.specs.declared.machine.Recorded.{Recorded}
use Rattle.kz_types.specs.declared.tree.Op.{Op}
use Rattle.kz_spec_data.specs.Log.{end_of}
use Rattle.kz_spec_machine.specs.Driver.{Driver, epoch_or_zero, state_of, least}
use Rattle.kz_spec_machine.specs.Machine.{World, running_ids, driver_of, is_finalised_log, is_dual_write, dual_write_refusal, final_records, finalise_refusal, changed_world, next}
use Rattle.kz_spec_machine.specs.Sound.{Epochs, IsBelowShown, shown_in, IsTargetOf, IsAfterMigration, AtStage, IsSharedSound, IsSoundDriver, Sound}
use Rattle.kz_laws_events.proofs.Targets.{view_within}
use Rattle.kz_laws_events.proofs.Tests.{true_or_false}
use Rattle.kz_laws_events.proofs.Leading.{IsLeading, leading}
use Rattle.kz_laws_events.proofs.Refusals.{unless_none, decided_by, IsLed, led}
use Rattle.kz_laws_events.proofs.Exits.{MayFinalise, may_finalise}
use Rattle.kz_laws_exits.specs.Ends.{RestsAtStage, IsAhead, HasEnded, EndHolds}
use Rattle.kz_laws_exits.proofs.GivenBack.{IsRecordedAt, at_rest}
use Rattle.kz_laws_exits.proofs.Ahead.{less_by}
use Rattle.kz_laws_exits.proofs.Final.{fenced_rests}

-- ---- the leader

-- a driver in dual write is at rest there, or writes
dual_stage : (x : Stage) → is_dual_write (state_of x) ≡ true → (x ≡ stage.DualWrite) ⊎ ((target : Recorded) × (ops : List Op) × (x ≡ stage.WriteDelta target ops))
dual_stage stage.DualWrite is = inl refl
dual_stage (stage.WriteDelta target ops) is = inr (target, ops, refl)
dual_stage x is = absurd (cc)

in_dual_write : (m : Option Driver) (d : Driver) → m ≡ Some d → dual_write_refusal m ≡ None → is_dual_write (state_of d.stage) ≡ true
in_dual_write m d found none = unless_none (is_dual_write (state_of d.stage)) (answer.NotDualWrite (state_of d.stage)) (sym (ap dual_write_refusal found) ∙ none)

some_epoch : (epoch : Option ℤ) (e : ℤ) → epoch ≡ Some e → epoch ≢ None
some_epoch epoch e is none = cc

zero_epoch : (epoch : Option ℤ) (e : ℤ) → epoch ≡ Some e → epoch_or_zero epoch ≡ e
zero_epoch epoch e is = ap epoch_or_zero is

-- what is known of the leader
record Leader (w : World) (d : Driver) : Type 0 where
  lead : IsLeading w.shared d
  rests : RestsAtStage w.shared.tree d d.stage

leader_at : (w : World) (id : ℤ) (d : Driver) (x : Stage) → d.stage ≡ x → IsAfterMigration w.shared.log d.claim → d.epoch ≡ Some w.shared.log.epoch → IsSoundDriver w.shared d → IsLeading w.shared d
leader_at w id d x at after leads fine = leading w.shared d fine (some_epoch d.epoch w.shared.log.epoch leads) after.claimed (zero_epoch d.epoch w.shared.log.epoch leads)

passed_end : (a b end : ℤ) → a ≡ end → a <ℤ b → b ≤ℤ end → ⊥
passed_end a b end is more low = omega (arith, ints, is, more, low)

-- a leader that writes has more to write than is recorded, which is all
no_write : (w : World) (d : Driver) (target : Recorded) (ops : List Op) → IsSharedSound w.shared → IsSoundDriver w.shared d → d.stage ≡ stage.WriteDelta target ops → IsTargetOf target d.id d.epoch d.view → IsLeading w.shared d → IsRecordedAt w.shared.tree (end_of w.shared.log) → IsAhead w.shared.tree d.claim (stage.WriteDelta target ops) → ⊥
no_write w d target ops kept fine at aim lead k ahead =
    passed_end k.record_is.offset target.offset (end_of w.shared.log) k.offset (ahead lead.current k.record_is k.found)
    (subst (λ (o : ℤ). o ≤ℤ end_of w.shared.log) (sym aim.offset) (view_within w.shared.log d.view kept.log fine.views.view))

leader_by : (w : World) (id : ℤ) (d : Driver) → Sound w → driver_of id w.drivers ≡ Some d → d.epoch ≡ Some w.shared.log.epoch → HasEnded w.shared d → IsRecordedAt w.shared.tree (end_of w.shared.log) → (d.stage ≡ stage.DualWrite) ⊎ ((target : Recorded) × (ops : List Op) × (d.stage ≡ stage.WriteDelta target ops)) → Leader w d
leader_by w id d sound found leads ended k (inl at) =
    let fine = sound.each id d found in
    let held : AtStage w.shared.tree w.shared.log d stage.DualWrite = subst (AtStage w.shared.tree w.shared.log d) at fine.stage in
    let lead = leader_at w id d stage.DualWrite at held.0 leads fine in
    record { lead = lead; rests = subst (RestsAtStage w.shared.tree d) (sym at) (inl lead.current) }
leader_by w id d sound found leads ended k (inr (target, ops, at)) =
    let fine = sound.each id d found in
    let held : AtStage w.shared.tree w.shared.log d (stage.WriteDelta target ops) = subst (AtStage w.shared.tree w.shared.log d) at fine.stage in
    let lead = leader_at w id d (stage.WriteDelta target ops) at held.0 leads fine in
    absurd (no_write w d target ops sound.kept fine at held.1 lead k (subst (IsAhead w.shared.tree d.claim) at ended.ahead))

-- ---- the others

below_by : (log_epoch : ℤ) (shown epoch : Option ℤ) → Epochs log_epoch epoch → epoch ≢ None → Some log_epoch ≢ epoch → shown ≡ Some log_epoch → IsBelowShown shown epoch
below_by log_epoch shown None epochs some differ is = absurd (some refl)
below_by log_epoch shown (Some e) epochs some differ is = (log_epoch, is, less_by e log_epoch epochs.1 (other_number (int_eq e log_epoch) refl))
  where
    other_number : (b : Bool) → int_eq e log_epoch ≡ b → b ≡ false
    other_number true same = absurd (differ (ap (λ (x : ℤ). Some x) (sym ((Decides-int_eq e log_epoch).0 same))))
    other_number false same = refl

same_found : (m : Option Driver) (d f : Driver) → m ≡ Some d → m ≡ Some f → d ≡ f
same_found m d f one other = cc

-- each driver rests once the migration is finalised
rests_by : (w : World) (id : ℤ) (d : Driver) (j : ℤ) (f : Driver) (b : Bool) → int_eq id j ≡ b → Sound w → driver_of id w.drivers ≡ Some d → d.epoch ≡ Some w.shared.log.epoch → Leader w d → driver_of j w.drivers ≡ Some f → f.epoch ≢ None → RestsAtStage w.shared.tree f f.stage
rests_by w id d j f true same sound found leads l there some =
    let one : d ≡ f = same_found (driver_of id w.drivers) d f found (ap (λ (i : ℤ). driver_of i w.drivers) ((Decides-int_eq id j).0 same) ∙ there) in
    subst (λ (x : Driver). RestsAtStage w.shared.tree x x.stage) one l.rests
rests_by w id d j f false differ sound found leads l there some =
    fenced_rests w.shared.tree f f.stage (below_by w.shared.log.epoch (shown_in w.shared.tree) f.epoch (sound.each j f there).epochs some
    (λ equal. sound.apart id j d f found there (λ same. true_or_false (int_eq id j) ((Decides-int_eq id j).1 same) differ) (some_epoch d.epoch w.shared.log.epoch leads) (leads ∙ equal)) l.lead.shows)

made : (w : World) (id now : ℤ) → Sound w → EndHolds w → MayFinalise w id → EndHolds (changed_world w final_records now)
made w id now sound old m =
    let k : IsRecordedAt w.shared.tree (end_of w.shared.log) = at_rest w.shared.tree w.shared.log (sound.kept.agreement m.migrated) m.rest in
    let l : IsLed w.shared.log.epoch (driver_of id w.drivers) = led w id m.leader in
    let leader : Leader w l.driver = leader_by w id l.driver sound l.found l.leads (old.each id l.driver l.found) k (dual_stage l.driver.stage (in_dual_write (driver_of id w.drivers) l.driver l.found m.state)) in
    record {
      closed = λ final. k.closed;
      each = λ j f found. record {
        rests = λ final some. rests_by w id l.driver j f (int_eq id j) refl sound l.found l.leads leader found some;
        ahead = (old.each j f found).ahead;
      };
    }

pub finalise_ends : (w : World) (id now : ℤ) → Sound w → EndHolds w → EndHolds (next w (event.Finalise id now)).0
unfolding next
finalise_ends w id now sound old = decided_by EndHolds w (finalise_refusal w id) (changed_world w final_records now) _ old (λ none. made w id now sound old (may_finalise w id none))

-- ---- a rollback after it

abbrev IsRefusedAtEnd : World → Type 0
IsRefusedAtEnd w = ((next w event.Rollback).0 ≡ w) × (((next w event.Rollback).1 ≡ answer.Finalised) ⊎ ((id : ℤ) × ((next w event.Rollback).1 ≡ answer.Running id)))

refused_by : (w : World) (m : Option ℤ) → least (running_ids w.drivers) ≡ m → is_finalised_log w.shared.log ≡ true → IsRefusedAtEnd w
unfolding next
refused_by w (Some id) is final = rw is (refl, inr (id, refl))
refused_by w None is final = rw (is, final) (refl, inl refl)

pub final_rollback_refused : (w : World) → is_finalised_log w.shared.log ≡ true → IsRefusedAtEnd w
final_rollback_refused w final = refused_by w (least (running_ids w.drivers)) refl final
