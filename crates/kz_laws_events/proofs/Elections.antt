-- Elections.
use Rattle.std.proofs.Common.{◌≡◌, ◌≢◌, ℤ, pos, ◌+ℤ◌, ◌≤ℤ◌, Bool, true, false, if◌then◌else◌, cond, List, [], ◌∷◌, map, Option, Some, None, refl, sym, ap, ◌∙◌, subst, arith}
use Rattle.std.specs.Ordering.{int_eq}
use Rattle.std.proofs.lemmas.Bool.Decides.{Decides-int_eq}
use Rattle.std.proofs.lemmas.Int.{ints}
use Rattle.kz_types.specs.declared.machine.Event.TheVariants as event
use Rattle.kz_spec_machine.specs.Driver.{Shared, Driver, elected_driver}
use Rattle.kz_spec_machine.specs.Machine.{World, driver_of, next_epoch, election_refusal, elected_world, election_answer, next}
use Rattle.kz_spec_machine.specs.Sound.{Epochs, IsSoundDriver, Sound}
use Rattle.kz_laws_machine.proofs.Numbers.{at_most_by, same_number}
use Rattle.kz_laws_machine.proofs.Longer.{others_longer}
use Rattle.kz_laws_events.proofs.Resync.{recorded_within}
use Rattle.kz_laws_events.proofs.Worlds.{found_id}
use Rattle.kz_laws_events.proofs.Refusals.{decided_by}
use Rattle.kz_laws_events.proofs.Elected.{MayElect, may_elect, elected_of, range_of, shared_elected, elected_closed, longer, was}

-- ---- the drivers

above_all : (log_epoch : ℤ) (epoch : Option ℤ) → Epochs log_epoch epoch → epoch ≡ Some (log_epoch +ℤ pos 1) → ⊥
above_all log_epoch None epochs is = absurd (cc)
above_all log_epoch (Some e) epochs is = above log_epoch e epochs.1 (same_number e (log_epoch +ℤ pos 1) is)
  where
    above : (l e : ℤ) → e ≤ℤ l → e ≡ l +ℤ pos 1 → ⊥
    above l e low same = absurd (omega (arith, ints, low, same))

other_elected : (s : Shared) (now : ℤ) (f : Driver) → MayElect s → IsSoundDriver s f → IsSoundDriver (record s { log = elected_of s.log now }) f
other_elected s now f m fine =
    others_longer s (elected_of s.log now) f (longer s now m) (was s now m) (λ leads. absurd (above_all s.log.epoch f.epoch fine.epochs leads)) (λ r migrated found. recorded_within s r m.kept migrated found) fine

own_elected : (s : Shared) (now : ℤ) (d : Driver) → MayElect s → IsSoundDriver s d → IsSoundDriver (record s { log = elected_of s.log now }) (elected_driver (next_epoch s.log) d)
own_elected s now d m fine =
    let old : IsSoundDriver (record s { log = elected_of s.log now }) d = other_elected s now d m fine in
    record {
      id = fine.id;
      epochs = (range_of s m, at_most_by (next_epoch s.log) (next_epoch s.log) refl);
      elected = λ none. cc;
      claims = tt;
      views = record { view = old.views.view; epoch_range = old.views.epoch_range; migrated = old.views.migrated; unknown = λ migrated none some. tt };
      own_record = old.own_record;
      leads = λ leads filling. elected_closed s now m;
      stage = tt;
    }

-- ---- the world

-- a driver of the new world
abbrev elected_if : ℤ → ℤ → Driver → Driver
elected_if id epoch d = if int_eq d.id id then elected_driver epoch d else d

same_id : (id epoch : ℤ) (b : Bool) (d : Driver) → (if b then elected_driver epoch d else d).id ≡ d.id
same_id id epoch true d = refl
same_id id epoch false d = refl

-- a driver that is found was found before
pub record WasFound (drivers : List Driver) (id epoch j : ℤ) (f : Driver) : Type 0 where
  pub old : Driver
  pub found : driver_of j drivers ≡ Some old
  pub is : f ≡ elected_if id epoch old

some_driver : (x y : Driver) → Some x ≡ Some y → y ≡ x
some_driver x y is = cc

found_by : (drivers : List Driver) (id epoch j : ℤ) (f e : Driver) (b : Bool) → int_eq e.id j ≡ b → (driver_of j (map (elected_if id epoch) drivers) ≡ Some f → WasFound drivers id epoch j f) → cond b (Some (elected_if id epoch e)) (driver_of j (map (elected_if id epoch) drivers)) ≡ Some f
    → WasFound (e ∷ drivers) id epoch j f
found_by drivers id epoch j f e true test rest found = record { old = e; found = ap (λ (b : Bool). cond b (Some e) (driver_of j drivers)) test; is = some_driver (elected_if id epoch e) f found }
found_by drivers id epoch j f e false test rest found =
    let later = rest found in
    record { old = later.old; found = ap (λ (b : Bool). cond b (Some e) (driver_of j drivers)) test ∙ later.found; is = later.is }

pub was_found : (drivers : List Driver) (id epoch j : ℤ) (f : Driver) → driver_of j (map (elected_if id epoch) drivers) ≡ Some f → WasFound drivers id epoch j f
was_found [] id epoch j f is = absurd (cc)
was_found (e ∷ drivers) id epoch j f is =
    found_by drivers id epoch j f e (int_eq e.id j) refl (was_found drivers id epoch j f)
    (ap (λ (i : ℤ). cond (int_eq i j) (Some (elected_if id epoch e)) (driver_of j (map (elected_if id epoch) drivers))) (sym (same_id id epoch (int_eq e.id id) e)) ∙ is)

each_by : (s : Shared) (id now : ℤ) (d : Driver) (b : Bool) → MayElect s → IsSoundDriver s d → IsSoundDriver (record s { log = elected_of s.log now }) (if b then elected_driver (next_epoch s.log) d else d)
each_by s id now d true m fine = own_elected s now d m fine
each_by s id now d false m fine = other_elected s now d m fine

-- epochs stay apart
apart_by : (log_epoch : ℤ) (d e : Driver) (a b : Bool) → ((a ≡ true) × (b ≡ true) → ⊥) → Epochs log_epoch d.epoch → Epochs log_epoch e.epoch → (d.epoch ≢ None → d.epoch ≢ e.epoch)
    → (if a then elected_driver (log_epoch +ℤ pos 1) d else d).epoch ≢ None → (if a then elected_driver (log_epoch +ℤ pos 1) d else d).epoch ≢ (if b then elected_driver (log_epoch +ℤ pos 1) e else e).epoch
apart_by log_epoch d e true true one first second apart some same = one (refl, refl)
apart_by log_epoch d e true false one first second apart some same = above_all log_epoch e.epoch second (sym same)
apart_by log_epoch d e false true one first second apart some same = above_all log_epoch d.epoch first same
apart_by log_epoch d e false false one first second apart some same = apart some same

not_both : (id i j : ℤ) (d e : Driver) → d.id ≡ i → e.id ≡ j → i ≢ j → (int_eq d.id id ≡ true) × (int_eq e.id id ≡ true) → ⊥
not_both id i j d e one other differ both = differ (sym one ∙ (Decides-int_eq d.id id).0 both.0 ∙ sym ((Decides-int_eq e.id id).0 both.1) ∙ other)

elected : (w : World) (id now : ℤ) → MayElect w.shared → Sound w → Sound (elected_world w id now)
elected w id now m sound =
    let s = w.shared in
    let epoch = next_epoch s.log in
    record {
      kept = shared_elected s now m;
      each = λ j f found.
          let k = was_found w.drivers id epoch j f found in
          subst (IsSoundDriver (record s { log = elected_of s.log now })) (sym k.is) (each_by s id now k.old (int_eq k.old.id id) m (sound.each j k.old k.found));
      apart = λ i j f g found-f found-g differ some same.
          let k = was_found w.drivers id epoch i f found-f in
          let h = was_found w.drivers id epoch j g found-g in
          apart_by s.log.epoch k.old h.old (int_eq k.old.id id) (int_eq h.old.id id)
          (not_both id i j k.old h.old (found_id w.drivers i k.old k.found) (found_id w.drivers j h.old h.found) differ)
          (sound.each i k.old k.found).epochs (sound.each j h.old h.found).epochs (sound.apart i j k.old h.old k.found h.found differ)
          (λ none. some (ap (λ (x : Driver). x.epoch) k.is ∙ none))
          (sym (ap (λ (x : Driver). x.epoch) k.is) ∙ same ∙ ap (λ (x : Driver). x.epoch) h.is);
    }

pub election_sound : (w : World) (id now : ℤ) → Sound w → Sound (next w (event.Elect id now)).0
unfolding next
election_sound w id now sound = decided_by Sound w (election_refusal w id) (elected_world w id now) (election_answer w now) sound (λ none. elected w id now (may_elect w id sound none) sound)
