-- One driver changes in the list, and each other keeps what is true of it.
use Rattle.std.proofs.Common.{◌≡◌, ◌≢◌, ◌⊎◌, inl, inr, ℤ, Bool, true, false, if◌then◌else◌, cond, List, [], ◌∷◌, Option, Some, None, refl, sym, ap, ◌∙◌, subst}
use Rattle.std.specs.Ordering.{int_eq}
use Rattle.std.proofs.lemmas.Bool.Decides.{Decides-int_eq}
use Rattle.kz_spec_machine.specs.Driver.{Driver}
use Rattle.kz_spec_machine.specs.Machine.{driver_of, with_driver}
use Rattle.kz_spec_machine.specs.Sound.{Each, Apart}

-- a driver that is found is the changed one, or was found before
abbrev pub IsFoundBy : List Driver → Driver → ℤ → Driver → Type 0
IsFoundBy drivers d id f = ((id ≡ d.id) × (f ≡ d)) ⊎ ((id ≢ d.id) × (driver_of id drivers ≡ Some f))

other_id : (a b : ℤ) (t : Bool) → int_eq a b ≡ t → t ≡ false → a ≢ b
other_id a b t is not_so same = let yes = (Decides-int_eq a b).1 same in absurd (cc)

some_driver : (x y : Driver) → Some x ≡ Some y → y ≡ x
some_driver x y is = cc

-- one more driver stands before those among which it was found
behind : (drivers : List Driver) (e d : Driver) (id : ℤ) (f : Driver) → int_eq e.id id ≡ false → IsFoundBy drivers d id f → IsFoundBy (e ∷ drivers) d id f
behind drivers e d id f other (inl both) = inl both
behind drivers e d id f other (inr both) = inr (both.0, ap (λ (b : Bool). cond b (Some e) (driver_of id drivers)) other ∙ both.1)

not_same : (a b : ℤ) → a ≢ b → (t : Bool) → int_eq a b ≡ t → t ≡ false
not_same a b other true is = absurd (other ((Decides-int_eq a b).0 is))
not_same a b other false is = refl

-- what is found behind a driver
abbrev Rest : List Driver → Driver → ℤ → Driver → Type 0
Rest drivers d id f = driver_of id (with_driver d drivers) ≡ Some f → IsFoundBy drivers d id f

here : (e d : Driver) (drivers : List Driver) (id : ℤ) (f : Driver) (t : Bool) → Rest drivers d id f → int_eq d.id id ≡ t → int_eq e.id d.id ≡ true → cond t (Some d) (driver_of id (with_driver d drivers)) ≡ Some f → IsFoundBy (e ∷ drivers) d id f
here e d drivers id f true rest named same found = inl (sym ((Decides-int_eq d.id id).0 named), some_driver d f found)
here e d drivers id f false rest named same found =
    let one : e.id ≡ d.id = (Decides-int_eq e.id d.id).0 same in
    behind drivers e d id f (subst (λ (x : ℤ). int_eq x id ≡ false) (sym one) named) (rest found)

there : (e d : Driver) (drivers : List Driver) (id : ℤ) (f : Driver) (t : Bool) → Rest drivers d id f → int_eq e.id id ≡ t → int_eq e.id d.id ≡ false → cond t (Some e) (driver_of id (with_driver d drivers)) ≡ Some f → IsFoundBy (e ∷ drivers) d id f
there e d drivers id f true rest named other found =
    let one : e.id ≡ id = (Decides-int_eq e.id id).0 named in
    inr (λ same. other_id e.id d.id (int_eq e.id d.id) refl other (one ∙ same), ap (λ (b : Bool). cond b (Some e) (driver_of id drivers)) named ∙ found)
there e d drivers id f false rest named other found = behind drivers e d id f named (rest found)

replaced : (e d : Driver) (drivers : List Driver) (id : ℤ) (f : Driver) (t : Bool) → Rest drivers d id f → int_eq e.id d.id ≡ t → cond (int_eq (if t then d else e).id id) (Some (if t then d else e)) (driver_of id (with_driver d drivers)) ≡ Some f → IsFoundBy (e ∷ drivers) d id f
replaced e d drivers id f true rest same found = here e d drivers id f (int_eq d.id id) rest refl same found
replaced e d drivers id f false rest other found = there e d drivers id f (int_eq e.id id) rest refl other found

pub found_changed : (drivers : List Driver) (d : Driver) (id : ℤ) (f : Driver) → driver_of id (with_driver d drivers) ≡ Some f → IsFoundBy drivers d id f
found_changed [] d id f is = absurd (cc)
found_changed (e ∷ drivers) d id f is = replaced e d drivers id f (int_eq e.id d.id) (found_changed drivers d id f) refl is

pub each_changed : (P Q : Driver → Type 0) (drivers : List Driver) (d : Driver) → Each P drivers → Q d → ((id : ℤ) (f : Driver) → driver_of id drivers ≡ Some f → id ≢ d.id → P f → Q f) → Each Q (with_driver d drivers)
each_changed P Q drivers d each own others id f found = by_place (found_changed drivers d id f found)
  where
    by_place : IsFoundBy drivers d id f → Q f
    by_place (inl both) = subst Q (sym both.1) own
    by_place (inr both) = others id f both.1 both.0 (each id f both.1)

-- the changed driver's epoch is no other's
pub apart_changed : (drivers : List Driver) (d : Driver) → Apart drivers
    → ((id : ℤ) (f : Driver) → driver_of id drivers ≡ Some f → id ≢ d.id → (d.epoch ≢ None → d.epoch ≢ f.epoch) × (f.epoch ≢ None → f.epoch ≢ d.epoch)) → Apart (with_driver d drivers)
apart_changed drivers d apart own i j f g found-f found-g differ some = by_places (found_changed drivers d i f found-f) (found_changed drivers d j g found-g)
  where
    by_places : IsFoundBy drivers d i f → IsFoundBy drivers d j g → f.epoch ≢ g.epoch
    by_places (inl one) (inl two) = absurd (differ (one.0 ∙ sym two.0))
    by_places (inl one) (inr two) = subst (λ (x : Driver). x.epoch ≢ g.epoch) (sym one.1) ((own j g two.1 two.0).0 (subst (λ (x : Driver). x.epoch ≢ None) one.1 some))
    by_places (inr one) (inl two) = subst (λ (x : Driver). f.epoch ≢ x.epoch) (sym two.1) ((own i f one.1 one.0).1 some)
    by_places (inr one) (inr two) = apart i j f g one.1 two.1 differ some

-- a driver that keeps its epoch
pub apart_kept : (drivers : List Driver) (id : ℤ) (old d : Driver) → driver_of id drivers ≡ Some old → id ≡ d.id → d.epoch ≡ old.epoch → Apart drivers → Apart (with_driver d drivers)
apart_kept drivers id old d is named same apart = apart_changed drivers d apart (λ j f found differ. (
  λ some equal. apart id j old f is found (λ x. differ (sym x ∙ named)) (subst (λ (e : Option ℤ). e ≢ None) same some) (sym same ∙ equal),
  λ some equal. apart j id f old found is (λ x. differ (x ∙ named)) some (equal ∙ same),
))

-- a driver that has none
pub apart_without : (drivers : List Driver) (d : Driver) → d.epoch ≡ None → Apart drivers → Apart (with_driver d drivers)
apart_without drivers d none apart = apart_changed drivers d apart (λ j f found differ. (
  λ some. absurd (some none),
  λ some equal. some (equal ∙ none),
))
