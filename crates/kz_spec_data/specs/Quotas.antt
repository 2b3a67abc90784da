-- Which texts are quotas, which value they have, and the text that a value is written as.
use Rattle.std.specs.Prelude.{ℕ, zero, suc, ◌+◌, ◌*◌, ◌/◌, ◌%◌, ◌^◌, ◌&&◌, ◌||◌, ◌==◌, nat_lt, ℤ, pos, negsuc, ◌+ℤ◌, ◌-ℤ◌, neg_ℤ, nat_abs, int_le, List, [], ◌∷◌, ◌++◌, length, drop, take_while, Option, Some, None, Result, Ok, Err, if◌then◌else◌, decimal}
use Rattle.kz_types.specs.Numbers.{is_digit, number_of}
use Rattle.kz_types.specs.declared.limits.TheConstants.{MAX_LONG}
use Rattle.kz_types.specs.declared.row.QuotaValue.{QuotaValue}
use Rattle.kz_types.specs.declared.value_fault.QuotaFault.{QuotaFault}
use Rattle.kz_types.specs.declared.value_fault.QuotaFault.TheVariants.{NotNumber, TooFine, TooLarge}

-- What a quota's text says: digits, decimals after a point, and an exponent of ten.
pub record Numeral : Type 0 where
  pub whole : List ℕ
  pub decimals : List ℕ
  pub exponent : ℤ

-- the digits that a text begins with
abbrev pub digits_at : List ℕ → List ℕ
digits_at text = take_while is_digit text

-- what follows them
abbrev pub after_digits : List ℕ → List ℕ
after_digits text = drop (length (digits_at text)) text

-- an exponent's digits end the text, and there is at least one. At fault: the place of the first byte that isn't one
abbrev pub exponent_of : (whole decimals : List ℕ) → (ℤ → ℤ) → ℕ → List ℕ → Result Numeral ℕ
exponent_of whole decimals sign at text =
    if nat_lt 0 (length (digits_at text)) && (length (digits_at text) == length text)
    then Ok (record { whole = whole; decimals = decimals; exponent = sign (pos (number_of text)) })
    else Err (at + length (digits_at text))

-- after the `E` a sign may stand
abbrev pub after_letter : (whole decimals : List ℕ) → ℕ → List ℕ → Result Numeral ℕ
after_letter whole decimals at [] = Err at
after_letter whole decimals at (b ∷ rest) =
    if b == 43 then exponent_of whole decimals (λ z. z) (at + 1) rest
    else if b == 45 then exponent_of whole decimals neg_ℤ (at + 1) rest
    else exponent_of whole decimals (λ z. z) at (b ∷ rest)

-- after the digits and decimals the text ends, or an `E` or `e` follows
abbrev pub after_decimals : (whole decimals : List ℕ) → ℕ → List ℕ → Result Numeral ℕ
after_decimals whole decimals at [] = Ok (record { whole = whole; decimals = decimals; exponent = pos 0 })
after_decimals whole decimals at (b ∷ rest) = if b == 69 || (b == 101) then after_letter whole decimals (at + 1) rest else Err at

-- after the point there is at least one digit
abbrev pub after_point : List ℕ → ℕ → List ℕ → Result Numeral ℕ
after_point whole at text =
    if length (digits_at text) == 0 then Err at
    else after_decimals whole (digits_at text) (at + length (digits_at text)) (after_digits text)

-- after the digits a point may stand
abbrev pub after_whole : List ℕ → ℕ → List ℕ → Result Numeral ℕ
after_whole whole at [] = after_decimals whole [] at []
after_whole whole at (b ∷ rest) = if b == 46 then after_point whole (at + 1) rest else after_decimals whole [] at (b ∷ rest)

-- what a text says, or the first byte at which no quota's text goes on: its length where it ends too early
unfoldable pub numeral_of : List ℕ → Result Numeral ℕ
numeral_of text =
    if length (digits_at text) == 0 then Err 0
    else after_whole (digits_at text) (length (digits_at text)) (after_digits text)

-- the digits and decimals as one number
abbrev pub digits_of : Numeral → ℕ
digits_of n = number_of (n.whole ++ n.decimals)

-- the power of ten by which that number counts millionths
abbrev pub scale_of : Numeral → ℤ
scale_of n = (n.exponent +ℤ pos 6) -ℤ pos (length n.decimals)

-- a number of that scale in millionths, where it is a whole number of them
abbrev pub in_millionths : ℕ → ℤ → Option ℕ
in_millionths digits (pos n) = Some (digits * 10 ^ n)
in_millionths digits (negsuc n) = if digits % 10 ^ suc n == 0 then Some (digits / 10 ^ suc n) else None

-- the quota of so many millionths
abbrev pub quota_of_millionths : Option ℕ → Result QuotaValue QuotaFault
quota_of_millionths None = Err TooFine
quota_of_millionths (Some n) =
    if int_le (pos (n / 1000000)) MAX_LONG
    then Ok (record { whole = pos (n / 1000000); micros = pos (n % 1000000) })
    else Err TooLarge

abbrev pub quota_of_numeral : Result Numeral ℕ → Result QuotaValue QuotaFault
quota_of_numeral (Err at) = Err (NotNumber at)
quota_of_numeral (Ok n) = quota_of_millionths (in_millionths (digits_of n) (scale_of n))

-- the quota that a text is, or why it is none
unfoldable pub quota_of : List ℕ → Result QuotaValue QuotaFault
quota_of text = quota_of_numeral (numeral_of text)

-- ---- writing

-- the last digits of a number, so many
abbrev pub last_digits : ℕ → ℕ → List ℕ
last_digits zero n = []
last_digits (suc count) n = last_digits count (n / 10) ++ ((48 + n % 10) ∷ [])

-- without the zeros at the end
abbrev pub onto_digits : ℕ → List ℕ → List ℕ
onto_digits d [] = if d == 48 then [] else d ∷ []
onto_digits d (e ∷ ds) = d ∷ e ∷ ds

abbrev pub without_end_zeros : List ℕ → List ℕ
without_end_zeros [] = []
without_end_zeros (d ∷ ds) = onto_digits d (without_end_zeros ds)

-- the point and the decimals of so many millionths, where there are any
abbrev pub decimals_text : ℕ → List ℕ
decimals_text micros = if micros == 0 then [] else 46 ∷ without_end_zeros (last_digits 6 micros)

-- the text of a quota
unfoldable pub quota_text : QuotaValue → List ℕ
quota_text q = decimal (nat_abs q.whole) ++ decimals_text (nat_abs q.micros)
