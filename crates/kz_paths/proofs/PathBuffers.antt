-- Lemmas on paths that are gathered part by part.
use Rattle.std.proofs.Common.{◌≡◌, nat_le, ℕ, ◌+◌, ◌/◌, ◌%◌, ◌^◌, ◌<◌, ◌≤◌, false, List, [], ◌∷◌, ◌++◌, length, drop, get_or, ◌∙◌, sym, ap, arith, length-append, decimal}
use Rattle.std.proofs.lemmas.Bool.{lt-leb, and_right}
use Rattle.std.proofs.lemmas.Fmt.{decimal_digit, decimal_step}
use Rattle.std.proofs.lemmas.List.{append_assoc, append-nil}
use Rattle.kz_types.specs.PathRule.{is_path, has_path_form}
use Rattle.kz_types.specs.Paths.{part_for_name, sanitised_byte}
use Rattle.kz_types.proofs.NameLemmas.{sanitised_more, sanitised_end}

-- one part after another
pub joined : (old front back mid new : List ℕ) → mid ≡ old ++ front → new ≡ mid ++ back → new ≡ old ++ (front ++ back)
joined old front back mid new m n = n ∙ ap (λ l. l ++ back) m ∙ append_assoc old front back

-- bytes longer than a path are none
pub no_long_path : (bs : List ℕ) → 1024 < length bs → is_path bs ≡ false
unfolding is_path
no_long_path bs lt = and_right (has_path_form bs) (nat_le (length bs) 1024) (lt-leb (length bs) 1024 lt)

-- ---- decimals

pub decimal_one : (number : ℕ) (old new : List ℕ) → number < 10 → new ≡ old ++ (48 + number % 10) ∷ [] → new ≡ old ++ decimal number
decimal_one number old new lt n =
    let digit : number % 10 ≡ number = omega arith in
    n ∙ ap (λ d. old ++ (48 + d) ∷ []) digit ∙ ap (λ l. old ++ l) (sym (decimal_digit number lt))

pub decimal_more : (number : ℕ) (old mid new : List ℕ) → 10 ≤ number → number < 2 ^ 64 → mid ≡ old ++ decimal (number / 10) → new ≡ mid ++ (48 + number % 10) ∷ [] → new ≡ old ++ decimal number
decimal_more number old mid new le small m n =
    joined old (decimal (number / 10)) ((48 + number % 10) ∷ []) mid new m n ∙ ap (λ l. old ++ l) (sym (decimal_step number le small))

pub length-decimal_more : (number : ℕ) → 10 ≤ number → number < 2 ^ 64 → length (decimal number) ≡ length (decimal (number / 10)) + 1
length-decimal_more number le small = ap length (decimal_step number le small) ∙ length-append (decimal (number / 10)) ((48 + number % 10) ∷ [])

-- ---- sanitised names

-- one byte more
pub sanitised_next : (old name part more : List ℕ) (at : ℕ) → at < length name → part ++ part_for_name (drop at name) ≡ old ++ part_for_name name
    → more ≡ part ++ sanitised_byte (get_or name at 0) → more ++ part_for_name (drop (at + 1) name) ≡ old ++ part_for_name name
sanitised_next old name part more at lt so_far is =
    ap (λ m. m ++ part_for_name (drop (at + 1) name)) is ∙ append_assoc part (sanitised_byte (get_or name at 0)) (part_for_name (drop (at + 1) name))
    ∙ ap (λ r. part ++ r) (sym (sanitised_more name at lt)) ∙ so_far

-- no byte more
pub sanitised_last : (old name part : List ℕ) (at : ℕ) → length name ≤ at → part ++ part_for_name (drop at name) ≡ old ++ part_for_name name → part ≡ old ++ part_for_name name
sanitised_last old name part at end so_far = sym (append-nil part) ∙ ap (λ r. part ++ r) (sym (sanitised_end name at end)) ∙ so_far

-- a byte too many
pub sanitised_long : (old name part : List ℕ) (at : ℕ) → at < length name → part ++ part_for_name (drop at name) ≡ old ++ part_for_name name
    → 1024 < length part + length (sanitised_byte (get_or name at 0)) → 1024 < length old + length (part_for_name name)
sanitised_long old name part at lt so_far long =
    omega (
      arith,
      long,
      ap length so_far,
      length-append part (part_for_name (drop at name)),
      length-append old (part_for_name name),
      ap length (sanitised_more name at lt),
      length-append (sanitised_byte (get_or name at 0)) (part_for_name (drop (at + 1) name)),
    )
