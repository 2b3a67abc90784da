-- Lists of drivers: who runs, and changes of one of them.
use Rattle.std.proofs.Common.{filter, ◌≡◌, ℕ, zero, suc, ◌+◌, ◌-◌, ◌<◌, Bool, true, false, cond, ◌||◌, ℤ, List, [], ◌∷◌, ◌++◌, length, drop, take, set, get_or, add-one, drop-cons, Option, Some, refl, sym, ap, ◌∙◌, subst, arith}
use Rattle.std.specs.Prelude.{slice_get, option_map, unwrap_or}
use Rattle.std.specs.Ordering.{int_eq}
use Rattle.std.specs.List.{list_any}
use Rattle.std.proofs.lemmas.Int.{ints}
use Rattle.std.proofs.lemmas.Bool.{false≢true}
use Rattle.std.proofs.lemmas.Grind.{common_steps}
use Rattle.std.proofs.lemmas.List.Edits.{map_over_more}
use Rattle.kz_spec_machine.specs.Driver.{Driver, elected_driver, is_one_of, less_of, least}
use Rattle.kz_spec_machine.specs.Machine.{running_ids, is_running, driver_of, with_driver}
use Rattle.kz_world_parts.specs.Worlds.{elected_drivers, AreDistinct}

-- ---- look-ups

pub cut_at : {A : Type 0} (xs : List A) (i : ℕ) (x : A) → i < length xs → x ≡ get_or xs i x → drop i xs ≡ x ∷ drop (i + 1) xs
cut_at xs i x h is = rw (add-one, drop-cons xs i x h) (ap (λ y. y ∷ drop (suc i) xs) (sym is))

pub get_here : (ds : List Driver) (at : ℕ) (d : Driver) → at < length ds → d ≡ get_or ds at d → slice_get ds at ≡ Some d
get_here [] at d h is = absurd (omega arith)
get_here (x ∷ ds) zero d h is = ap Some (sym is)
get_here (x ∷ ds) (suc at) d h is = get_here ds at d (omega (arith, h)) is

pub found_here : (id : ℤ) (ds : List Driver) (at : ℕ) (d : Driver) → at < length ds → d ≡ get_or ds at d → driver_of id (drop at ds) ≡ driver_of id ds → int_eq d.id id ≡ true → driver_of id ds ≡ slice_get ds at
found_here id ds at d h is before same =
    sym before ∙ ap (driver_of id) (cut_at ds at d h is) ∙ ap (λ b. cond b (Some d) (driver_of id (drop (at + 1) ds))) same ∙ sym (get_here ds at d h is)

-- the least id, from the end on
pub least_more : (ds : List Driver) (done : ℕ) (d : Driver) (before : Option ℤ) → done < length ds → d ≡ get_or ds (length ds - 1 - done) d → before ≡ least (running_ids (drop (length ds - done) ds))
    → less_of d.id before ≡ least (running_ids (drop (length ds - (done + 1)) ds))
least_more ds done d before h is old =
    let i = length ds - 1 - done in
    let place : length ds - (done + 1) ≡ i = omega arith in
    let next : length ds - done ≡ i + 1 = omega arith in
    let here : i < length ds = omega arith in
    ap (less_of d.id) (old ∙ ap (λ n. least (running_ids (drop n ds))) next)
    ∙ sym (ap (λ n. least (running_ids (drop n ds))) place ∙ ap (λ (xs : List Driver). least (running_ids xs)) (cut_at ds i d here is))

-- ---- distinct ids

or_cases : (a b : Bool) → (a || b) ≡ false → (a ≡ false) × (b ≡ false)
or_cases true b h = absurd (false≢true (sym h))
or_cases false b h = (refl, h)

length-set : (ds : List Driver) (i : ℕ) (d : Driver) → length (set ds i d) ≡ length ds
length-set ds i d = grind (arith, common_steps)

-- a driver more may be elected
pub elected_more : (id epoch : ℤ) (xs ys : List Driver) (i : ℕ) (d y : Driver) → i < length xs → (ys ≡ elected_drivers id epoch (take i xs) ++ drop i xs) × (length ys ≡ length xs) → d ≡ get_or ys i d
    → y ≡ cond (int_eq d.id id) (elected_driver epoch d) d
    → (set ys i y ≡ elected_drivers id epoch (take (i + 1) xs) ++ drop (i + 1) xs) × (length (set ys i y) ≡ length xs)
elected_more id epoch xs ys i d y h before is e =
    let f : Driver → Driver = λ x. cond (int_eq x.id id) (elected_driver epoch x) x in
    (ap (set ys i) e ∙ map_over_more f xs ys i d h before.0 is, length-set ys i y ∙ before.1)

-- an election keeps the ids
same_id_by : (b : Bool) (epoch : ℤ) (d : Driver) → (cond b (elected_driver epoch d) d).id ≡ d.id
same_id_by true epoch d = refl
same_id_by false epoch d = refl

pub elected_ids : (id epoch : ℤ) (ds : List Driver) → running_ids (elected_drivers id epoch ds) ≡ running_ids ds
elected_ids id epoch [] = refl
elected_ids id epoch (d ∷ ds) = ap (λ i. i ∷ running_ids (elected_drivers id epoch ds)) (same_id_by (int_eq d.id id) epoch d) ∙ ap (λ is. d.id ∷ is) (elected_ids id epoch ds)

any-append : (p : ℤ → Bool) (xs ys : List ℤ) → list_any p xs ≡ false → list_any p ys ≡ false → list_any p (xs ++ ys) ≡ false
any-append p [] ys h k = k
any-append p (x ∷ xs) ys h k = let both = or_cases (p x) (list_any p xs) h in rw (both.0, any-append p xs ys both.1 k) refl

int_eq-turned : (x y : ℤ) → int_eq x y ≡ false → int_eq y x ≡ false
int_eq-turned x y h = grind (arith, ints)

-- one that isn't there is added
distinct_more : (ids : List ℤ) (id : ℤ) → AreDistinct ids → is_one_of ids id ≡ false → AreDistinct (ids ++ id ∷ [])
distinct_more [] id h none = (refl, tt)
distinct_more (i ∷ is) id h none =
    let both = or_cases (int_eq i id) (is_one_of is id) none in
    (any-append (λ j. int_eq j i) is (id ∷ []) h.0 (rw (int_eq-turned i id both.0) refl), distinct_more is id h.1 both.1)

ids-append : (ds : List Driver) (d : Driver) → running_ids (ds ++ d ∷ []) ≡ running_ids ds ++ d.id ∷ []
ids-append [] d = refl
ids-append (x ∷ ds) d = ap (λ is. x.id ∷ is) (ids-append ds d)

pub started_distinct : (ds : List Driver) (d : Driver) → AreDistinct (running_ids ds) → is_running d.id ds ≡ false → AreDistinct (running_ids (ds ++ d ∷ []))
started_distinct ds d h none = subst AreDistinct (sym (ids-append ds d)) (distinct_more (running_ids ds) d.id h none)

-- some of them are still distinct
none_if : (b : Bool) (x id : ℤ) (is : List ℤ) → int_eq x id ≡ false → is_one_of is id ≡ false → is_one_of (cond b (x ∷ is) is) id ≡ false
none_if true x id is first none = rw first none
none_if false x id is first none = none

ids_if : (b : Bool) (d : Driver) (ds : List Driver) → running_ids (cond b (d ∷ ds) ds) ≡ cond b (d.id ∷ running_ids ds) (running_ids ds)
ids_if true d ds = refl
ids_if false d ds = refl

none_of_some : (p : Driver → Bool) (ds : List Driver) (id : ℤ) → is_running id ds ≡ false → is_running id (filter p ds) ≡ false
none_of_some p [] id none = refl
none_of_some p (d ∷ ds) id none =
    let both = or_cases (int_eq d.id id) (is_running id ds) none in
    ap (λ is. is_one_of is id) (ids_if (p d) d (filter p ds)) ∙ none_if (p d) d.id id (running_ids (filter p ds)) both.0 (none_of_some p ds id both.1)

distinct_if : (b : Bool) (id : ℤ) (is : List ℤ) → is_one_of is id ≡ false → AreDistinct is → AreDistinct (cond b (id ∷ is) is)
distinct_if true id is none h = (none, h)
distinct_if false id is none h = h

pub filter_distinct : (p : Driver → Bool) (ds : List Driver) → AreDistinct (running_ids ds) → AreDistinct (running_ids (filter p ds))
filter_distinct p [] h = tt
filter_distinct p (d ∷ ds) h = subst AreDistinct (sym (ids_if (p d) d (filter p ds))) (distinct_if (p d) d.id (running_ids (filter p ds)) (none_of_some p ds d.id h.0) (filter_distinct p ds h.1))

-- ---- one driver changes

-- at another id all stay
other_stays : (ds : List Driver) (e : Driver) → is_running e.id ds ≡ false → with_driver e ds ≡ ds
other_stays [] e h = refl
other_stays (d ∷ ds) e h =
    let both = or_cases (int_eq d.id e.id) (is_running e.id ds) h in
    ap (λ b. cond b e d ∷ with_driver e ds) both.0 ∙ ap (λ xs. d ∷ xs) (other_stays ds e both.1)

pub itself : (x : ℤ) → int_eq x x ≡ true
itself x = grind (arith, ints)

apart : (x y : ℤ) (is : List ℤ) (i : ℕ) → is_one_of is x ≡ false → slice_get is i ≡ Some y → int_eq x y ≡ false
apart x y [] i none h = absurd (cc)
apart x y (j ∷ is) zero none h =
    let both = or_cases (int_eq j x) (is_one_of is x) none in
    let same : j ≡ y = ap (λ (o : Option ℤ). unwrap_or o y) h in
    int_eq-turned y x (ap (λ k. int_eq k x) (sym same) ∙ both.0)
apart x y (j ∷ is) (suc i) none h = apart x y is i (or_cases (int_eq j x) (is_one_of is x) none).1 h

id_at : (ds : List Driver) (i : ℕ) (d : Driver) → slice_get ds i ≡ Some d → slice_get (running_ids ds) i ≡ Some d.id
id_at [] i d h = absurd (cc)
id_at (x ∷ ds) zero d h = ap (option_map (λ (e : Driver). e.id)) h
id_at (x ∷ ds) (suc i) d h = id_at ds i d h

-- where no two have one id, the driver of an id is one place
pub one_place : (ds : List Driver) (i : ℕ) (d e : Driver) → AreDistinct (running_ids ds) → slice_get ds i ≡ Some d → e.id ≡ d.id → with_driver e ds ≡ set ds i e
one_place [] i d e h at same = absurd (cc)
one_place (x ∷ ds) zero d e h at same =
    let is : x ≡ d = ap (λ (o : Option Driver). unwrap_or o d) at in
    let id : e.id ≡ x.id = same ∙ ap (λ (y : Driver). y.id) (sym is) in
    ap (λ b. cond b e x ∷ with_driver e ds) (ap (λ k. int_eq x.id k) id ∙ itself x.id) ∙ ap (λ xs. e ∷ xs) (other_stays ds e (ap (λ k. is_one_of (running_ids ds) k) id ∙ h.0))
one_place (x ∷ ds) (suc i) d e h at same =
    let other : int_eq x.id e.id ≡ false = ap (int_eq x.id) same ∙ apart x.id d.id (running_ids ds) i h.0 (id_at ds i d at) in
    ap (λ b. cond b e x ∷ with_driver e ds) other ∙ ap (λ xs. x ∷ xs) (one_place ds i d e h.1 at same)

pub same_ids : (ds : List Driver) (i : ℕ) (d e : Driver) → slice_get ds i ≡ Some d → e.id ≡ d.id → running_ids (set ds i e) ≡ running_ids ds
same_ids [] i d e at same = absurd (cc)
same_ids (x ∷ ds) zero d e at same =
    let is : x ≡ d = ap (λ (o : Option Driver). unwrap_or o d) at in
    ap (λ i. i ∷ running_ids ds) (same ∙ ap (λ (y : Driver). y.id) (sym is))
same_ids (x ∷ ds) (suc i) d e at same = ap (λ is. x.id ∷ is) (same_ids ds i d e at same)
