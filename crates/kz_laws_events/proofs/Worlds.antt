-- Worlds after events.
use Rattle.std.proofs.Common.{◌≡◌, ◌≢◌, ◌⊎◌, inl, inr, ℤ, Bool, true, false, not, cond, List, [], ◌∷◌, filter, Option, Some, None, refl, sym, ap, ◌∙◌, subst}
use Rattle.std.specs.Ordering.{int_eq}
use Rattle.std.proofs.lemmas.Bool.Decides.{Decides-int_eq}
use Rattle.kz_types.specs.declared.machine.Event.TheVariants as event
use Rattle.kz_types.specs.declared.machine.Answer.{Answer}
use Rattle.kz_types.specs.declared.machine.Answer.TheVariants as answer
use Rattle.kz_types.specs.declared.plan.Plan.{Plan}
use Rattle.kz_spec_machine.specs.Driver.{Shared, Driver, StepResult, planned_step}
use Rattle.kz_spec_machine.specs.Machine.{World, running_ids, driver_of, with_driver, outcome_unless, unless_refused, running_refusal, quorum_refusal, declared_world, stop_refusal, stopped_world, step_result, next}
use Rattle.kz_spec_machine.specs.Sound.{IsTime, IsSharedSound, IsSoundDriver, Apart, Sound}
use Rattle.kz_laws_machine.proofs.Listed.{each_changed, apart_kept, apart_without}
use Rattle.kz_laws_events.specs.Steps.{AppendsNothing, StepKeeps}
use Rattle.kz_laws_events.proofs.Named.{IsOf, step_of_own}
use Rattle.kz_laws_events.proofs.Stepped.{step_keeps}

pub unless_made : (P : World → Type 0) (w : World) (refusal : Option Answer) (rest : World × Answer) → P w → P rest.0 → P (unless_refused w refusal rest).0
unless_made P w (Some a) rest old made = old
unless_made P w None rest old made = made

pub decided : (P : World → Type 0) (w : World) (refusal : Option Answer) (new : World) (reply : Answer) → P w → P new → P (outcome_unless w refusal new reply).0
decided P w (Some a) new reply old made = old
decided P w None new reply old made = made

-- ---- a driver that is found

found_by : (b : Bool) (id : ℤ) (e d : Driver) (m : Option Driver) → int_eq e.id id ≡ b → (m ≡ Some d → d.id ≡ id) → cond b (Some e) m ≡ Some d → d.id ≡ id
found_by true id e d m test later is = let same : e ≡ d = cc in ap (λ (x : Driver). x.id) (sym same) ∙ (Decides-int_eq e.id id).0 test
found_by false id e d m test later is = later is

pub found_id : (drivers : List Driver) (id : ℤ) (d : Driver) → driver_of id drivers ≡ Some d → d.id ≡ id
found_id [] id d is = absurd (cc)
found_id (e ∷ drivers) id d is = found_by (int_eq e.id id) id e d (driver_of id drivers) refl (found_id drivers id d) is

-- ---- a step

apart_by : (drivers : List Driver) (id : ℤ) (d e : Driver) → driver_of id drivers ≡ Some d → id ≡ e.id → (e.epoch ≡ d.epoch) ⊎ (e.epoch ≡ None) → Apart drivers → Apart (with_driver e drivers)
apart_by drivers id d e found named (inl same) apart = apart_kept drivers id d e found named same apart
apart_by drivers id d e found named (inr none) apart = apart_without drivers e none apart

pub stepped : (w : World) (id : ℤ) (d : Driver) (t : StepResult) → Sound w → driver_of id w.drivers ≡ Some d → StepKeeps w.shared d t.shared t.driver → IsOf d t.driver → Sound (record { shared = t.shared; drivers = with_driver t.driver w.drivers })
stepped w id d t sound found k own =
    let named : id ≡ t.driver.id = sym (own.0 ∙ found_id w.drivers id d found) in
    record {
      kept = k.shared;
      each = each_changed (IsSoundDriver w.shared) (IsSoundDriver t.shared) w.drivers t.driver sound.each k.driver
          (λ j f there differ fine. k.others f (λ some. sound.apart id j d f found there (λ same. differ (sym same ∙ named)) some) fine);
      apart = apart_by w.drivers id d t.driver found named own.1 sound.apart;
    }

pub step_sound : (w : World) (id now : ℤ) (p : Plan) (d : Driver) → IsTime now → Sound w → driver_of id w.drivers ≡ Some d → AppendsNothing d.stage → Sound (next w (event.Step id now p)).0
unfolding next
step_sound w id now p d time sound found quiet =
    let t = planned_step p w.shared (running_ids w.drivers) now d in
    unless_made Sound w (running_refusal w id) (step_result w p now (driver_of id w.drivers)) sound
    (subst (λ (m : Option Driver). Sound (step_result w p now m).0) (sym found)
    (stepped w id d t sound found (step_keeps p w.shared (running_ids w.drivers) now d time quiet sound.kept (sound.each id d found)) (step_of_own p w.shared (running_ids w.drivers) now d)))

-- ---- declared controllers

shared_declared : (s : Shared) (ids : List ℤ) → IsSharedSound s → IsSharedSound (record s { declared = ids })
shared_declared s ids kept = record { tree = kept.tree; log = kept.log; before = kept.before; agreement = kept.agreement }

driver_declared : (s : Shared) (ids : List ℤ) (d : Driver) → IsSoundDriver s d → IsSoundDriver (record s { declared = ids }) d
driver_declared s ids d fine = record { id = fine.id; epochs = fine.epochs; elected = fine.elected; claims = fine.claims; views = fine.views; own_record = fine.own_record; leads = fine.leads; stage = fine.stage }

pub quorum_sound : (w : World) (ids : List ℤ) → Sound w → Sound (next w (event.Quorum ids)).0
unfolding next
quorum_sound w ids sound = decided Sound w (quorum_refusal w ids) (declared_world w ids) answer.Done sound (record {
  kept = shared_declared w.shared ids sound.kept;
  each = λ id d found. driver_declared w.shared ids d (sound.each id d found);
  apart = sound.apart;
})

-- ---- controllers that stop

-- the drivers but this one
abbrev pub without_driver : ℤ → List Driver → List Driver
without_driver gone drivers = filter (λ (d : Driver). not (int_eq d.id gone)) drivers

gone_or_not : (drivers : List Driver) (gone id : ℤ) (e d : Driver) (test named : Bool) → int_eq e.id gone ≡ test → int_eq e.id id ≡ named → (driver_of id (without_driver gone drivers) ≡ Some d → (id ≢ gone) × (driver_of id drivers ≡ Some d))
    → driver_of id (cond (not test) (e ∷ without_driver gone drivers) (without_driver gone drivers)) ≡ Some d → (id ≢ gone) × (cond named (Some e) (driver_of id drivers) ≡ Some d)
gone_or_not drivers gone id e d true true is named later found =
    let rest = later found in
    absurd (rest.0 (sym ((Decides-int_eq e.id id).0 named) ∙ (Decides-int_eq e.id gone).0 is))
gone_or_not drivers gone id e d true false is named later found = later found
gone_or_not drivers gone id e d false true is named later found = (
  λ same. let yes : int_eq e.id gone ≡ true = (Decides-int_eq e.id gone).1 ((Decides-int_eq e.id id).0 named ∙ same) in absurd (cc),
  sym (ap (λ (b : Bool). cond b (Some e) (driver_of id (without_driver gone drivers))) named) ∙ found,
)
gone_or_not drivers gone id e d false false is named later found =
    later (sym (ap (λ (b : Bool). cond b (Some e) (driver_of id (without_driver gone drivers))) named) ∙ found)

-- a driver that is left was there, and isn't the one that stopped
pub left_was_there : (drivers : List Driver) (gone id : ℤ) (d : Driver) → driver_of id (without_driver gone drivers) ≡ Some d → (id ≢ gone) × (driver_of id drivers ≡ Some d)
left_was_there [] gone id d is = absurd (cc)
left_was_there (e ∷ drivers) gone id d is = gone_or_not drivers gone id e d (int_eq e.id gone) (int_eq e.id id) refl refl (left_was_there drivers gone id d) is

stopped : (w : World) (controller : Option ℤ) → Sound w → Sound (stopped_world w controller)
stopped w None sound = record { kept = sound.kept; each = λ id d found. absurd (cc); apart = λ i j d e found-d found-e differ some. absurd (cc) }
stopped w (Some gone) sound = record {
  kept = sound.kept;
  each = λ id d found. sound.each id d (left_was_there w.drivers gone id d found).1;
  apart = λ i j d e found-d found-e differ some. sound.apart i j d e (left_was_there w.drivers gone i d found-d).1 (left_was_there w.drivers gone j e found-e).1 differ some;
}

pub stop_sound : (w : World) (controller : Option ℤ) → Sound w → Sound (next w (event.Stop controller)).0
unfolding next
stop_sound w controller sound = decided Sound w (stop_refusal w controller) (stopped_world w controller) answer.Done sound (stopped w controller sound)
