-- The least of the numbers that pass a test, from the end of a list on.
use Rattle.std.proofs.Common.{◌≡◌, ℕ, ◌+◌, ◌-◌, ◌<◌, ℤ, pos, Bool, true, false, cond, not, List, ◌∷◌, Option, length, drop, get_or, refl, sym, ap, ◌∙◌, arith, add-one, drop-cons}
use Rattle.std.specs.List.{filter}
use Rattle.kz_spec_machine.specs.Driver.{least, less_of}

tested : (skip : Bool) (x : ℤ) (rest : List ℤ) (before : Option ℤ) → before ≡ least rest → cond skip before (less_of x before) ≡ least (cond (not skip) (x ∷ rest) rest)
tested true x rest before h = h
tested false x rest before h = ap (less_of x) h

-- one number more
pub least_more : (skip : ℤ → Bool) (xs : List ℤ) (done : ℕ) (before : Option ℤ) → done < length xs
    → before ≡ least (filter (λ i. not (skip i)) (drop (length xs - done) xs))
    → cond (skip (get_or xs (length xs - 1 - done) (pos 0))) before (less_of (get_or xs (length xs - 1 - done) (pos 0)) before) ≡ least (filter (λ i. not (skip i)) (drop (length xs - (done + 1)) xs))
least_more skip xs done before within old =
    let i = length xs - 1 - done in
    let x = get_or xs i (pos 0) in
    let place : length xs - (done + 1) ≡ i = omega arith in
    let next : i + 1 ≡ length xs - done = omega arith in
    let here : i < length xs = omega arith in
    let cut : drop i xs ≡ x ∷ drop (i + 1) xs = rw (add-one, drop-cons xs i (pos 0) here) refl in
    let kept = λ (n : ℕ). filter (λ j. not (skip j)) (drop n xs) in
    tested (skip x) x (kept (i + 1)) before (old ∙ ap (λ n. least (kept n)) (sym next))
    ∙ sym (ap (λ n. least (kept n)) place ∙ ap (λ ys. least (filter (λ j. not (skip j)) ys)) cut)
