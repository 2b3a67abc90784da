-- What a step or a turn of a driver leaves of what a based world says of each other one.
use Rattle.std.proofs.Common.{◌≡◌, ℕ, zero, suc, ℤ, ◌≤ℤ◌, Bool, true, false, if◌then◌else◌, List, [], ◌∷◌, Option, Some, None, option_map, refl, sym, ◌∙◌, subst, arith}
use Rattle.std.specs.Prelude.{Result, Ok, Err, ◌<ℤ◌}
use Rattle.std.proofs.lemmas.Int.{ints}
use Rattle.kz_types.specs.declared.tree.Row.{Row}
use Rattle.kz_types.specs.declared.driver.ClaimSeen.{ClaimSeen}
use Rattle.kz_types.specs.declared.driver.Stage.{Stage}
use Rattle.kz_types.specs.declared.driver.Stage.TheVariants as stage
use Rattle.kz_types.specs.declared.fault.TreeFault.{TreeFault}
use Rattle.kz_types.specs.declared.machine.Event.TheVariants as event
use Rattle.kz_types.specs.declared.machine.Recorded.{Recorded}
use Rattle.kz_types.specs.declared.plan.Plan.{Plan}
use Rattle.kz_types.specs.declared.plan.Plan.TheVariants as plan
use Rattle.kz_spec_data.specs.Tree.{Tree, multi}
use Rattle.kz_spec_data.specs.Log.{append, image_at}
use Rattle.kz_spec_data.specs.Translation.{translate}
use Rattle.kz_spec_machine.specs.Driver.{Shared, Driver, epoch_or_zero, claimed_version, claim_ops, remaining_at, write_ops, next_records, write_request, request_at, with_tree, shared_after, reaches_store, planned_step, step}
use Rattle.kz_spec_machine.specs.Machine.{World, running_ids, driver_of, with_driver, running_refusal, step_result, ends, TurnResult, with_reply, turn, work, turn_result, next}
use Rattle.kz_spec_machine.specs.Sound.{IsTime, IsSharedSound, claim_version, SeesPresent, Looks, AtStage, IsSoundDriver, Each, Sound}
use Rattle.kz_laws_machine.specs.Effects.{IsClaimed}
use Rattle.kz_laws_machine.proofs.Listed.{each_changed}
use Rattle.kz_laws_machine.proofs.Multi.{write_keeps_version}
use Rattle.kz_laws_events.specs.Steps.{IsApartFrom, StepKeeps}
use Rattle.kz_laws_events.proofs.Named.{IsOf, step_of_own}
use Rattle.kz_laws_events.proofs.Worlds.{unless_made, found_id}
use Rattle.kz_laws_events.proofs.Claiming.{claim_leads}
use Rattle.kz_laws_events.proofs.Turned.{still_apart, one_step, one_own, turn_own}
use Rattle.kz_laws_bounds.specs.Bounds.{IsBasedDriver}
use Rattle.kz_laws_bounds.proofs.Bases.{write_keeps_there, claim_keeps_there}
use Rattle.kz_laws_bounds.proofs.Based.{OnTree, on_tree, based_on, on_log, begin_tree, Stays, stays_based, own_planned}

-- ---- a claim

pub version_of_seen : (seen : Option Row) (v : ℤ) → option_map (λ (r : Row). r.version) seen ≡ Some v → (r : Row) × (seen ≡ Some r) × (r.version ≡ v)
version_of_seen None v is = absurd (cc)
version_of_seen (Some r) v is = (r, refl, cc)

not_less : (r now v : ℤ) → r ≡ v → r ≤ℤ now → now <ℤ v → ⊥
not_less r now v is low less = absurd (omega (arith, ints, is, low, less))

-- who looked before a claim of another doesn't see what is there
claim_unseen : (t new : Tree) (f : Driver) (seen : ClaimSeen) (version : ℤ) → Looks t f.epoch seen → claim_version new ≡ Some version → ((v : ℤ) → claim_version t ≡ Some v → v <ℤ version) → SeesPresent new seen → ⊥
claim_unseen t new f seen version looks is rises present =
    let own = version_of_seen seen.epoch version (present ∙ is) in
    let low = looks.low own.0 own.1 in
    not_less own.0.version low.0 version own.2 low.2 (rises low.0 low.1)

looks_of : (s : Shared) (f : Driver) (seen : ClaimSeen) → IsSoundDriver s f → f.stage ≡ stage.ClaimLeadership seen → Looks s.tree f.epoch seen
looks_of s f seen fine is = subst (AtStage s.tree s.log f) is fine.stage

claim_stays : (s : Shared) (running : List ℤ) (now : ℤ) (d : Driver) (seen : ClaimSeen) (new : Tree) (f : Driver) → multi s.tree (claim_ops seen d now) ≡ Ok new → IsTime now → IsSharedSound s → IsSoundDriver s d → d.stage ≡ stage.ClaimLeadership seen → IsSoundDriver s f → Stays s.tree new f
claim_stays s running now d seen new f is time kept fine at other =
    let effect : IsClaimed s.tree new s.log (claimed_version seen.epoch) (epoch_or_zero d.epoch) = (claim_leads s running now d seen new time kept fine at is).effect in
    record {
      there = claim_keeps_there s.tree new seen d now is;
      sees = λ own stands present. absurd (claim_unseen s.tree new f own (claimed_version seen.epoch) (looks_of s f own other stands) effect.version_is effect.rises present);
    }

claim_other : (s : Shared) (running : List ℤ) (now : ℤ) (d : Driver) (seen : ClaimSeen) (f : Driver) (r : Result Tree TreeFault) → multi s.tree (claim_ops seen d now) ≡ r → IsTime now → IsSharedSound s → IsSoundDriver s d → d.stage ≡ stage.ClaimLeadership seen → IsSoundDriver s f → OnTree s.tree f
    → OnTree (with_tree s r).tree f
claim_other s running now d seen f (Ok new) is time kept fine at other own = stays_based s.tree new f (claim_stays s running now d seen new f is time kept fine at other) own
claim_other s running now d seen f (Err e) is time kept fine at other own = own

-- ---- a write

write_other : (s : Shared) (d : Driver) (claim : ℤ) (target : Recorded) (f : Driver) (r : Result Tree TreeFault) → multi s.tree (write_ops claim (remaining_at s.tree s.log target.offset) target) ≡ r → OnTree s.tree f → OnTree (with_tree s r).tree f
write_other s d claim target f (Ok new) is own =
    stays_based s.tree new f (record {
      there = write_keeps_there s.tree new (image_at s.log target.offset) claim target is;
      sees = λ seen stands present. present ∙ write_keeps_version s.tree new (image_at s.log target.offset) claim target is;
    }) own
write_other s d claim target f (Err e) is own = own

writes_other : (s : Shared) (epoch now : ℤ) (d : Driver) (m : Option ℤ) (target : Recorded) (f : Driver) → OnTree s.tree f → OnTree (shared_after s epoch now (write_request m (remaining_at s.tree s.log target.offset) target)).tree f
writes_other s epoch now d None target f own = own
writes_other s epoch now d (Some claim) target f own = write_other s d claim target f (multi s.tree (write_ops claim (remaining_at s.tree s.log target.offset) target)) refl own

-- ---- any request

others_on : (s : Shared) (running : List ℤ) (now : ℤ) (d : Driver) (x : Stage) (f : Driver) → d.stage ≡ x → IsTime now → IsSharedSound s → IsSoundDriver s d → IsSoundDriver s f → OnTree s.tree f → OnTree (shared_after s (epoch_or_zero d.epoch) now (request_at s now d x)).tree f
others_on s running now d stage.Uninitialized f is time kept fine other own = own
others_on s running now d stage.Inactive f is time kept fine other own = own
others_on s running now d stage.WaitForControllerQuorum f is time kept fine other own = own
others_on s running now d stage.WaitForBrokers f is time kept fine other own = own
others_on s running now d stage.ListBrokers f is time kept fine other own = own
others_on s running now d stage.ReadControlZnodes f is time kept fine other own = own
others_on s running now d (stage.ClaimLeadership seen) f is time kept fine other own = claim_other s running now d seen f (multi s.tree (claim_ops seen d now)) refl time kept fine is other own
others_on s running now d (stage.ScanForMigration rows) f is time kept fine other own = own
others_on s running now d (stage.BeginMigration rows) f is time kept fine other own = begin_tree s (epoch_or_zero d.epoch) now (translate rows) f own
others_on s running now d (stage.AppendRecords records) f is time kept fine other own = on_log s (append s.log (epoch_or_zero d.epoch) now (next_records records)) f own
others_on s running now d stage.ReadLogForResync f is time kept fine other own = own
others_on s running now d (stage.ScanForResync target rows) f is time kept fine other own = own
others_on s running now d (stage.WriteResync target ops) f is time kept fine other own = writes_other s (epoch_or_zero d.epoch) now d d.claim target f own
others_on s running now d stage.KraftControllerToBrokerComm f is time kept fine other own = own
others_on s running now d stage.DualWrite f is time kept fine other own = own
others_on s running now d (stage.WriteDelta target ops) f is time kept fine other own = writes_other s (epoch_or_zero d.epoch) now d d.claim target f own

either_on : (b : Bool) (x s : Shared) (f : Driver) → OnTree x.tree f → OnTree s.tree f → OnTree (if b then x else s).tree f
either_on true x s f one other = one
either_on false x s f one other = other

other_planned : (p : Plan) (s : Shared) (running : List ℤ) (now : ℤ) (d f : Driver) → IsTime now → IsSharedSound s → IsSoundDriver s d → IsSoundDriver s f → IsBasedDriver s f → IsBasedDriver (planned_step p s running now d).shared f
unfolding planned_step
other_planned p s running now d f time kept fine other based =
    let r = request_at s now d d.stage in
    based_on (if reaches_store p r then shared_after s (epoch_or_zero d.epoch) now r else s) f
    (either_on (reaches_store p r) (shared_after s (epoch_or_zero d.epoch) now r) s f (others_on s running now d d.stage f refl time kept fine other (on_tree s f based)) (on_tree s f based))

-- ---- steps and turns

-- what a step leaves of this: its own driver's, and that of each other one
pub record StepBased (s : Shared) (d : Driver) (new : Shared) (after : Driver) : Type 0 where
  pub driver : IsBasedDriver new after
  pub others : (other : Driver) → IsApartFrom d other → IsSoundDriver s other → IsBasedDriver s other → IsBasedDriver new other

step_based : (p : Plan) (s : Shared) (running : List ℤ) (now : ℤ) (d : Driver) → IsTime now → IsSharedSound s → IsSoundDriver s d → IsBasedDriver s d → StepBased s d (planned_step p s running now d).shared (planned_step p s running now d).driver
step_based p s running now d time kept fine based = record {
  driver = own_planned p s running now d fine based;
  others = λ f apart other old. other_planned p s running now d f time kept fine other old;
}

one_based : (s : Shared) (running : List ℤ) (now : ℤ) (d : Driver) → IsTime now → IsSharedSound s → IsSoundDriver s d → IsBasedDriver s d → StepBased s d (step s running now d).shared (step s running now d).driver
unfolding step
one_based s running now d time kept fine based = step_based plan.Deliver s running now d time kept fine based

then_based : (s : Shared) (d : Driver) (t : Shared) (e : Driver) (u : Shared) (f : Driver) → IsOf d e → StepKeeps s d t e → StepBased s d t e → StepBased t e u f → StepBased s d u f
then_based s d t e u f own keeps one two = record {
  driver = two.driver;
  others = λ other apart fine old. two.others other (still_apart d e other own.1 apart) (keeps.others other apart fine) (one.others other apart fine old);
}

ended_by : (s : Shared) (d : Driver) (b : Bool) (t u : TurnResult) → StepBased s d t.shared t.driver → StepBased s d u.shared u.driver → StepBased s d (if b then t else u).shared (if b then t else u).driver
ended_by s d true t u one other = one
ended_by s d false t u one other = other

turn_based : (n : ℕ) (s : Shared) (running : List ℤ) (now : ℤ) (d : Driver) → IsTime now → IsSharedSound s → IsSoundDriver s d → IsBasedDriver s d → StepBased s d (turn n s running now d).shared (turn n s running now d).driver
unfolding turn
turn_based zero s running now d time kept fine based = record { driver = based; others = λ f apart other old. old }
turn_based (suc n) s running now d time kept fine based =
    let r = step s running now d in
    let k : StepKeeps s d r.shared r.driver = one_step s running now d time kept fine in
    let c : StepBased s d r.shared r.driver = one_based s running now d time kept fine based in
    let t : TurnResult = turn n r.shared running now r.driver in
    ended_by s d (ends r.reply) (record { shared = r.shared; driver = r.driver; replies = r.reply ∷ [] }) (with_reply r.reply t)
    c (then_based s d r.shared r.driver t.shared t.driver (one_own s running now d) k c (turn_based n r.shared running now r.driver time k.shared k.driver c.driver))

-- ---- a driver of the world

abbrev pub EachBased : World → Type 0
EachBased w = Each (IsBasedDriver w.shared) w.drivers

-- what is true of each driver that isn't the one that steps
abbrev Stood : Shared → Driver → Type 0
Stood s f = IsSoundDriver s f × IsBasedDriver s f

stepped : (w : World) (id : ℤ) (d : Driver) (t : Shared) (e : Driver) → Sound w → EachBased w → driver_of id w.drivers ≡ Some d → e.id ≡ d.id → StepBased w.shared d t e → Each (IsBasedDriver t) (with_driver e w.drivers)
stepped w id d t e sound based found own k =
    let named : id ≡ e.id = sym (own ∙ found_id w.drivers id d found) in
    each_changed (Stood w.shared) (IsBasedDriver t) w.drivers e (λ j f there. (sound.each j f there, based j f there)) k.driver
    (λ j f there differ both. k.others f (λ some. sound.apart id j d f found there (λ same. differ (sym same ∙ named)) some) both.0 both.1)

step_found : (w : World) (id now : ℤ) (p : Plan) (m : Option Driver) → driver_of id w.drivers ≡ m → IsTime now → Sound w → EachBased w → EachBased (step_result w p now m).0
step_found w id now p None found time sound based = based
step_found w id now p (Some d) found time sound based =
    let r = planned_step p w.shared (running_ids w.drivers) now d in
    stepped w id d r.shared r.driver sound based found (step_of_own p w.shared (running_ids w.drivers) now d).0 (step_based p w.shared (running_ids w.drivers) now d time sound.kept (sound.each id d found) (based id d found))

pub stepped_based : (w : World) (id now : ℤ) (p : Plan) → IsTime now → Sound w → EachBased w → EachBased (next w (event.Step id now p)).0
unfolding next
stepped_based w id now p time sound based = unless_made EachBased w (running_refusal w id) (step_result w p now (driver_of id w.drivers)) based (step_found w id now p (driver_of id w.drivers) refl time sound based)

turn_found : (w : World) (id now : ℤ) (m : Option Driver) → driver_of id w.drivers ≡ m → IsTime now → Sound w → EachBased w → EachBased (turn_result w now m).0
turn_found w id now None found time sound based = based
turn_found w id now (Some d) found time sound based =
    let n = work w.shared d in
    let running = running_ids w.drivers in
    let t : TurnResult = turn n w.shared running now d in
    stepped w id d t.shared t.driver sound based found (turn_own n w.shared running now d time sound.kept (sound.each id d found)).0 (turn_based n w.shared running now d time sound.kept (sound.each id d found) (based id d found))

pub turned_based : (w : World) (id now : ℤ) → IsTime now → Sound w → EachBased w → EachBased (next w (event.Turn id now)).0
unfolding next
turned_based w id now time sound based = unless_made EachBased w (running_refusal w id) (turn_result w now (driver_of id w.drivers)) based (turn_found w id now (driver_of id w.drivers) refl time sound based)
