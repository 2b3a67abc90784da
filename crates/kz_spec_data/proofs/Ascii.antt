-- A text of bytes below 128 is UTF-8, for examples.
use Rattle.std.proofs.Common.{◌≡◌, ℕ, zero, suc, Bool, true, false, ◌&&◌, ltb, List, [], ◌∷◌, refl, arith}
use Rattle.std.specs.Str.{is_utf8, IsAscii}
use Rattle.std.proofs.lemmas.Bool.{ltb-true}
use Rattle.std.proofs.lemmas.Str.{is_utf8-from_IsUtf8, IsUtf8-from_ascii}

abbrev pub all_below : List ℕ → Bool
all_below [] = true
all_below (b ∷ bs) = ltb b 128 && all_below bs

first_true : (a b : Bool) → (a && b) ≡ true → (a ≡ true) × (b ≡ true)
first_true true b e = (refl, e)
first_true false b e = absurd cc

below_each : (bs : List ℕ) → all_below bs ≡ true → IsAscii bs
below_each [] e i = omega arith
below_each (b ∷ bs) e zero = ltb-true b 128 (first_true (ltb b 128) (all_below bs) e).0
below_each (b ∷ bs) e (suc i) = below_each bs (first_true (ltb b 128) (all_below bs) e).1 i

pub ascii_text : (bs : List ℕ) → all_below bs ≡ true → is_utf8 bs ≡ true
ascii_text bs e = is_utf8-from_IsUtf8 bs (IsUtf8-from_ascii bs (below_each bs e))
