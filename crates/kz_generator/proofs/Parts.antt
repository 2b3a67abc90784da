-- The parts of a script.
use Rattle.std.proofs.Common.{◌≡◌, ◌<◌, ℕ, zero, suc, ◌+◌, ◌-◌, ◌*◌, ◌%◌, List, [], ◌++◌, Result, Ok, Err, OnOk, OnErr, refl, sym, ap, ◌∙◌, subst, arith, append_assoc, append-nil}
use Rattle.std.proofs.lemmas.Grind.{flat_map-append}
use Rattle.kz_types.specs.declared.machine.Event.{Event}
use Rattle.kz_spec_machine.specs.Generator.{value_at, event_line, events_at, events_after, opening_events, closing_events, generated}
use Rattle.kz_generator.specs.Texts.{lines_of}

-- what holds at `Ok`, and what holds at `Err`
pub on_ok : {T E P Q : Type 0} (r : Result T E) → OnOk r P → (P → Q) → OnOk r Q
on_ok (Ok value) h f = f h
on_ok (Err e) h f = tt

pub on_err : {T E P Q : Type 0} (r : Result T E) → OnErr r P → (P → Q) → OnErr r Q
on_err (Ok value) h f = tt
on_err (Err e) h f = f h

pub lines_append : (a b : List Event) → lines_of (a ++ b) ≡ lines_of a ++ lines_of b
unfolding lines_of
lines_append a b = flat_map-append event_line a b

pub lines_none : lines_of [] ≡ []
unfolding lines_of
lines_none = refl

-- the value after this one
pub next_at : (n i v w : ℕ) → w ≡ (1103515245 * v + 12345) % 2147483648 → v ≡ value_at n i → value_at n (i + 1) ≡ w
next_at n i v w is at =
    let further : i + 1 ≡ suc i = omega arith in
    ap (λ k. value_at n k) further ∙ sym (is ∙ ap (λ x. (1103515245 * x + 12345) % 2147483648) at)

pub script_is : (n : ℕ) → generated n ≡ lines_of (opening_events ++ (events_after n 0 n ++ closing_events n))
unfolding lines_of
script_is n = refl

-- the script is the lines of its three parts
pub in_parts : (n : ℕ) → generated n ≡ lines_of opening_events ++ (lines_of (events_after n 0 n) ++ lines_of (closing_events n))
in_parts n = script_is n ∙ lines_append opening_events (events_after n 0 n ++ closing_events n)
    ∙ ap (λ y. lines_of opening_events ++ y) (lines_append (events_after n 0 n) (closing_events n))

-- the changes after the first `i`, in two parts
parts : (n i a b m j : ℕ) → m ≡ a + b → j ≡ i + a → events_after n i m ≡ events_after n i a ++ events_after n j b
parts n i zero b m j all at =
    let same : b ≡ m = omega arith in
    let here : j ≡ i = omega arith in
    subst (λ x. events_after n i x ≡ events_after n j b) same (subst (λ x. events_after n x b ≡ events_after n j b) here refl)
parts n i (suc a) b m j all at =
    let more : m ≡ suc (a + b) = omega arith in
    let further : j ≡ (i + 1) + a = omega arith in
    ap (λ x. events_after n i x) more ∙ ap (λ ys. events_at n (i + 1) ++ ys) (parts n (i + 1) a b (a + b) j refl further)
    ∙ sym (append_assoc (events_at n (i + 1)) (events_after n (i + 1) a) (events_after n j b))

one : (n i : ℕ) → events_after n i 1 ≡ events_at n (i + 1)
one n i = append-nil (events_at n (i + 1))

-- one more change
pub next_change : (n i : ℕ) → lines_of (events_after n 0 (i + 1)) ≡ lines_of (events_after n 0 i) ++ lines_of (events_at n (i + 1))
next_change n i =
    let here : i ≡ 0 + i = omega arith in
    ap lines_of (parts n 0 i 1 (i + 1) i refl here ∙ ap (λ ys. events_after n 0 i ++ ys) (one n i)) ∙ lines_append (events_after n 0 i) (events_at n (i + 1))

-- the changes up to one, that one, and the others
pub around_change : (n i : ℕ) → i < n → lines_of (events_after n 0 n) ≡ (lines_of (events_after n 0 i) ++ lines_of (events_at n (i + 1))) ++ lines_of (events_after n (i + 1) (n - (i + 1)))
around_change n i below =
    let all : n ≡ (i + 1) + (n - (i + 1)) = omega arith in
    let here : i + 1 ≡ 0 + (i + 1) = omega arith in
    ap lines_of (parts n 0 (i + 1) (n - (i + 1)) n (i + 1) all here)
    ∙ lines_append (events_after n 0 (i + 1)) (events_after n (i + 1) (n - (i + 1)))
    ∙ ap (λ y. y ++ lines_of (events_after n (i + 1) (n - (i + 1)))) (next_change n i)
