-- Small facts on limits, texts and what is written.
use Rattle.std.proofs.Common.{◌≡◌, ℕ, zero, suc, ◌+◌, ◌-◌, ◌*◌, ◌/◌, ◌%◌, ◌<◌, ◌≤◌, ◌≢◌, ℤ, Bool, true, false, ltb, List, [], ◌∷◌, ◌++◌, length, refl, sym, ap, ◌∙◌, append_assoc, arith}
use Rattle.std.proofs.lemmas.Bool.{le-ltb}
use Rattle.std.specs.Int.{w32, to_be_bytes, cast_unsigned}
use Rattle.std.specs.Prelude.{Some}
use Rattle.kz_spec_data.specs.Fields.{groups_of, int_bytes, items_with_count}
use Rattle.std.specs.Str.{is_utf8, IsUtf8}
use Rattle.std.proofs.lemmas.Str.{IsUtf8-from_is_utf8}
use Rattle.kz_bytes.specs.Groups.{limit}

limit_some : (more last : ℕ) → 0 < last → 0 < limit more last
unfolding limit
limit_some zero last lt = lt
limit_some (suc more) last lt = let h = limit_some more last lt in omega arith

pub limit_least : (more last : ℕ) → more ≢ 0 → 0 < last → 128 ≤ limit more last
unfolding limit
limit_least zero last ne lt = absurd (ne refl)
limit_least (suc more) last ne lt = let h = limit_some more last lt in omega arith

decided : (bs : List ℕ) (b : Bool) → ¬ (IsUtf8 bs) → is_utf8 bs ≡ b → is_utf8 bs ≡ false
decided bs true refuted e = absurd (refuted (IsUtf8-from_is_utf8 bs e))
decided bs false refuted e = e

pub not_utf8 : (bs : List ℕ) → ¬ (IsUtf8 bs) → is_utf8 bs ≡ false
not_utf8 bs refuted = decided bs (is_utf8 bs) refuted refl

pub groups_step : (more n : ℕ) → more ≢ 0 → 128 ≤ n → groups_of more n ≡ (128 + n % 128) ∷ groups_of (more - 1) (n / 128)
unfolding groups_of
groups_step zero n ne le = absurd (ne refl)
groups_step (suc more) n ne le =
    let test : ltb n 128 ≡ false = le-ltb n 128 le in
    let less : more ≡ suc more - 1 = omega arith in
    rw test (ap (λ (k : ℕ). (128 + n % 128) ∷ groups_of k (n / 128)) less)

int_bytes_append : (xs ys : List ℤ) → int_bytes (xs ++ ys) ≡ int_bytes xs ++ int_bytes ys
int_bytes_append [] ys = refl
int_bytes_append (x ∷ xs) ys = ap (λ (l : List ℕ). to_be_bytes w32 (cast_unsigned w32 x) ++ l) (int_bytes_append xs ys) ∙ sym (append_assoc (to_be_bytes w32 (cast_unsigned w32 x)) (int_bytes xs) (int_bytes ys))

pub int_bytes_push : (xs : List ℤ) (x : ℤ) → int_bytes (xs ++ x ∷ []) ≡ int_bytes xs ++ to_be_bytes w32 (cast_unsigned w32 x)
int_bytes_push xs x = int_bytes_append xs (x ∷ [])

pub int_bytes_length : (xs : List ℤ) → length (int_bytes xs) ≡ 4 * length xs
int_bytes_length [] = refl
int_bytes_length (x ∷ xs) = let h = int_bytes_length xs in omega arith

pub ints_written : (xs : List ℤ) → (items_with_count 4).written (Some (int_bytes xs)) ≡ groups_of 9 (length xs + 1) ++ int_bytes xs
ints_written xs = let n : length (int_bytes xs) / 4 + 1 ≡ length xs + 1 = omega (arith, int_bytes_length xs) in ap (λ (k : ℕ). groups_of 9 k ++ int_bytes xs) n
