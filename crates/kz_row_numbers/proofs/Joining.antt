-- The numbers of parts together, in whatever groups they are taken.
use Rattle.std.proofs.Common.{◌≡◌, ℕ, ◌^◌, ◌<◌, ℤ, int_lt, Bool, true, false, ◌||◌, List, [], ◌∷◌, ◌++◌, Option, Some, None, refl, sym, ap, ◌∙◌, arith}
use Rattle.std.specs.Int.{int_max}
use Rattle.std.specs.List.{list_any}
use Rattle.std.proofs.lemmas.Int.{ints, clamps}
use Rattle.kz_row_numbers.specs.declared.joined_numbers.Numbers.{Numbers}
use Rattle.kz_row_numbers.specs.Joins.{greater, no_numbers, joined, all_joined, is_above, is_later}

int_max-assoc : (x y z : ℤ) → int_max (int_max x y) z ≡ int_max x (int_max y z)
int_max-assoc x y z = omega (arith, ints, clamps)

pub greater-assoc : (a b c : Option ℤ) → greater (greater a b) c ≡ greater a (greater b c)
greater-assoc None b c = refl
greater-assoc (Some x) None c = refl
greater-assoc (Some x) (Some y) None = refl
greater-assoc (Some x) (Some y) (Some z) = ap Some (int_max-assoc x y z)

pub greater-none : (a : Option ℤ) → greater a None ≡ a
greater-none None = refl
greater-none (Some x) = refl

abbrev numbers : ℕ → Option ℤ → Numbers
numbers r l = record { rows = r; latest = l }

pub same_numbers : (r s : ℕ) (l m : Option ℤ) → r ≡ s → l ≡ m → numbers r l ≡ numbers s m
same_numbers r s l m e f = cc

pub joined-assoc : (a b c : Numbers) → joined (joined a b) c ≡ joined a (joined b c)
joined-assoc a b c = same_numbers _ _ _ _ (omega arith) (greater-assoc a.latest b.latest c.latest)

-- no znode and these together
pub none_joined : (ns : List Numbers) → joined no_numbers (all_joined ns) ≡ all_joined ns
none_joined [] = same_numbers _ _ _ _ (omega arith) refl
none_joined (n ∷ ns) = same_numbers _ _ _ _ (omega arith) refl

pub all_joined-append : (ms ns : List Numbers) → all_joined (ms ++ ns) ≡ joined (all_joined ms) (all_joined ns)
all_joined-append [] ns = sym (none_joined ns)
all_joined-append (m ∷ ms) ns = ap (joined m) (all_joined-append ms ns) ∙ sym (joined-assoc m (all_joined ms) (all_joined ns))

pub alone : (n : Numbers) → n.rows < 2 ^ 64 → n ≡ joined n no_numbers
alone n fits = same_numbers n.rows _ n.latest _ (omega (arith, fits)) (sym (greater-none n.latest))

pub above_greater : (z : ℤ) (a b : Option ℤ) → is_above z (greater a b) ≡ (is_above z a || is_above z b)
above_greater z None b = refl
above_greater z (Some x) None = sym (or_false (int_lt z x))
  where
    or_false : (b : Bool) → (b || false) ≡ b
    or_false true = refl
    or_false false = refl
above_greater z (Some x) (Some y) = grind (arith, ints)

pub later_joined : (z : ℤ) (a b : Numbers) → is_later z (joined a b) ≡ (is_later z a || is_later z b)
later_joined z a b = above_greater z a.latest b.latest

-- one of the parts is later
pub later_all : (z : ℤ) (ns : List Numbers) → is_later z (all_joined ns) ≡ list_any (is_later z) ns
later_all z [] = refl
later_all z (n ∷ ns) = later_joined z n (all_joined ns) ∙ ap (λ b. is_later z n || b) (later_all z ns)

-- one more at the end
pub all_joined_push : (ns : List Numbers) (n : Numbers) → all_joined (ns ++ n ∷ []) ≡ joined (all_joined ns) n
all_joined_push ns n = all_joined-append ns (n ∷ []) ∙ same_numbers _ _ _ _ (omega arith) (ap (greater (all_joined ns).latest) (greater-none n.latest))

-- in the other order
pub greater-turned : (a b : Option ℤ) → greater a b ≡ greater b a
greater-turned None b = sym (greater-none b)
greater-turned (Some x) None = refl
greater-turned (Some x) (Some y) = let turned : int_max x y ≡ int_max y x = omega (arith, ints, clamps) in ap Some turned

pub joined-turned : (a b : Numbers) → joined a b ≡ joined b a
joined-turned a b = same_numbers _ _ _ _ (omega arith) (greater-turned a.latest b.latest)
