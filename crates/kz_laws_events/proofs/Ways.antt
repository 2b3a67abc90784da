-- Ways for a driver to go on.
use Rattle.std.proofs.Common.{◌≡◌, ◌≢◌, inr, Bool, true, false, if◌then◌else◌, None, refl, sym, subst}
use Rattle.std.specs.Ordering.{int_eq}
use Rattle.kz_types.specs.declared.codes.TheConstants.{POST_MIGRATION}
use Rattle.kz_types.specs.declared.driver.Stage.{Stage}
use Rattle.kz_types.specs.declared.machine.DriverState.TheVariants as state
use Rattle.kz_types.specs.declared.machine.Reply.{Reply}
use Rattle.kz_types.specs.declared.machine.Reply.TheVariants as reply
use Rattle.kz_spec_data.specs.Log.{IsViewOf, is_migrated_log}
use Rattle.kz_spec_data.specs.Image.{is_migrated_state}
use Rattle.kz_spec_machine.specs.Driver.{Shared, Driver, at_stage, resigned_driver, begins_again, unless_finalised, driver_at_log_end}
use Rattle.kz_spec_machine.specs.Sound.{IsId, IsEpochOrNone, LogShape, shown_in, IsBelowShown, WasElected, MayNotKnow, OwnRecord, is_filling, AtStage, IsSoundDriver}
use Rattle.kz_laws_machine.proofs.Growth.{read_view_at_end, read_epoch_range}
use Rattle.kz_laws_events.proofs.Tests.{true_or_false}

-- ---- what stays true of a driver that gives up its epoch or its claim

pub record Lasts (s : Shared) (d : Driver) : Type 0 where
  pub id : IsId d.id
  pub view : IsViewOf s.log d.view
  pub range : IsEpochOrNone d.view.epoch
  pub migrated : is_migrated_state d.view.image.state ≡ true → is_migrated_log s.log ≡ true
  pub own : OwnRecord s.tree s.log d.recorded

pub lasts_of : (s : Shared) (d : Driver) → IsSoundDriver s d → Lasts s d
lasts_of s d fine = record { id = fine.id; view = fine.views.view; range = fine.views.epoch_range; migrated = fine.views.migrated; own = fine.own_record }

-- of one that has read the log to its end
pub lasts_read : (s : Shared) (d : Driver) → LogShape s.log → IsSoundDriver s d → Lasts s (driver_at_log_end s.log d)
lasts_read s d shape fine = record {
  id = fine.id;
  view = inr (read_view_at_end s.log d.view shape);
  range = read_epoch_range s.log d.view shape fine.views.epoch_range;
  migrated = λ is. is;
  own = fine.own_record;
}

pub resigned : (s : Shared) (d : Driver) → Lasts s d → IsSoundDriver s (resigned_driver d)
resigned s d lasts = record {
  id = lasts.id;
  epochs = tt;
  elected = tt;
  claims = tt;
  views = record { view = lasts.view; epoch_range = lasts.range; migrated = lasts.migrated; unknown = λ migrated none some. absurd (some refl) };
  own_record = lasts.own;
  leads = λ leads filling. absurd (cc);
  stage = tt;
}

pub either : (P : Driver → Type 0) (b : Bool) (x y : Driver × Reply) → (b ≡ true → P x.0) → (b ≡ false → P y.0) → P (if b then x else y).0
either P true x y first second = first refl
either P false x y first second = second refl

-- a driver that sees that the migration is over resigns
pub unless_over : (s : Shared) (d : Driver) (rest : Driver × Reply) → Lasts s d → IsSoundDriver s rest.0 → IsSoundDriver s (unless_finalised d rest).0
unless_over s d rest lasts fine = either (IsSoundDriver s) (int_eq d.view.image.state POST_MIGRATION) (resigned_driver d, reply.Moved state.Inactive) rest (λ over. resigned s d lasts) (λ on. fine)

-- ---- another stage

-- a stage of a driver that is elected and fills no transaction
pub moved : (s : Shared) (d : Driver) (x : Stage) → IsSoundDriver s d → WasElected d.epoch x → is_filling d.stage ≡ false
    → (is_migrated_log s.log ≡ true → is_migrated_state d.view.image.state ≡ false → d.epoch ≢ None → MayNotKnow (shown_in s.tree) d.epoch x) → AtStage s.tree s.log (at_stage x d) x → IsSoundDriver s (at_stage x d)
moved s d x fine elected settled unknown at = record {
  id = fine.id;
  epochs = fine.epochs;
  elected = elected;
  claims = fine.claims;
  views = record { view = fine.views.view; epoch_range = fine.views.epoch_range; migrated = fine.views.migrated; unknown = unknown };
  own_record = fine.own_record;
  leads = λ leads filling. fine.leads leads settled;
  stage = at;
}

-- the driver begins again, without its claim
pub again : (s : Shared) (d : Driver) → IsSoundDriver s d → d.epoch ≢ None → is_filling d.stage ≡ false
    → (is_migrated_log s.log ≡ true → is_migrated_state d.view.image.state ≡ false → d.epoch ≢ None → IsBelowShown (shown_in s.tree) d.epoch) → IsSoundDriver s (begins_again d)
again s d fine elected settled unknown = record {
  id = fine.id;
  epochs = fine.epochs;
  elected = elected;
  claims = tt;
  views = record { view = fine.views.view; epoch_range = fine.views.epoch_range; migrated = fine.views.migrated; unknown = unknown };
  own_record = fine.own_record;
  leads = λ leads filling. fine.leads leads settled;
  stage = tt;
}

-- ---- after a read of the log

pub read_on : (s : Shared) (d : Driver) (x : Stage) → LogShape s.log → IsSoundDriver s d → WasElected d.epoch x → is_filling d.stage ≡ false → AtStage s.tree s.log (at_stage x (driver_at_log_end s.log d)) x
    → IsSoundDriver s (at_stage x (driver_at_log_end s.log d))
read_on s d x shape fine elected settled at =
    let lasts = lasts_read s d shape fine in
    record {
      id = fine.id;
      epochs = fine.epochs;
      elected = elected;
      claims = fine.claims;
      views = record { view = lasts.view; epoch_range = lasts.range; migrated = lasts.migrated; unknown = λ migrated none some. absurd (true_or_false (is_migrated_log s.log) migrated none) };
      own_record = fine.own_record;
      leads = λ leads filling. fine.leads leads settled;
      stage = at;
    }

-- and stays at its stage
pub read_stays : (s : Shared) (d : Driver) (x : Stage) → LogShape s.log → IsSoundDriver s d → d.stage ≡ x → AtStage s.tree s.log (driver_at_log_end s.log d) x → IsSoundDriver s (driver_at_log_end s.log d)
read_stays s d x shape fine is at =
    let lasts = lasts_read s d shape fine in
    record {
      id = fine.id;
      epochs = fine.epochs;
      elected = fine.elected;
      claims = fine.claims;
      views = record { view = lasts.view; epoch_range = lasts.range; migrated = lasts.migrated; unknown = λ migrated none some. absurd (true_or_false (is_migrated_log s.log) migrated none) };
      own_record = fine.own_record;
      leads = fine.leads;
      stage = subst (AtStage s.tree s.log (driver_at_log_end s.log d)) (sym is) at;
    }
