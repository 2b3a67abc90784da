-- Sets of ids.
use Rattle.std.proofs.Common.{◌≡◌, Bool, true, false, cond, ◌||◌, List, ℕ, refl, sym, ap, ◌∙◌}
use Rattle.std.specs.Ordering.{is_eq}
use Rattle.std.specs.Str.{bytes_eq}
use Rattle.std.proofs.lemmas.Map.Text.{is_eq-slice_cmp}
use Rattle.kz_types.proofs.NumberLemmas.{bytes_eq-same, bytes_eq-true}
use Rattle.kz_types.specs.Order.{bytes_cmp}

both_or_none : (a b : Bool) → (a ≡ true → b ≡ true) → (b ≡ true → a ≡ true) → a ≡ b
both_or_none true b f g = sym (f refl)
both_or_none false true f g = g refl
both_or_none false false f g = refl

bytes_eq-turned : (a b : List ℕ) → bytes_eq a b ≡ bytes_eq b a
bytes_eq-turned a b = both_or_none (bytes_eq a b) (bytes_eq b a) (λ e. bytes_eq-same b a (sym (bytes_eq-true a b e))) (λ e. bytes_eq-same a b (sym (bytes_eq-true b a e)))

first_or : (a b : Bool) → cond a true b ≡ (b || a)
first_or true true = refl
first_or true false = refl
first_or false true = refl
first_or false false = refl

-- an id is in a set with one id more where it was in it or is the new one
pub one_more : (new other : List ℕ) (was : Bool) → cond (is_eq (bytes_cmp new other)) true was ≡ (was || bytes_eq other new)
one_more new other was = first_or (is_eq (bytes_cmp new other)) was ∙ ap (λ b. was || b) (is_eq-slice_cmp new other ∙ bytes_eq-turned new other)
