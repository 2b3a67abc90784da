-- The grammar of the texts of quotas: digits, perhaps a point and digits, and perhaps an exponent.
use Rattle.std.specs.Prelude.{◌≡◌, ℕ, ◌<◌, true, ◌⊎◌, List, [], ◌∷◌, ◌++◌, length}
use Rattle.std.specs.List.{list_all}
use Rattle.kz_types.specs.Numbers.{is_digit}

-- at least one digit
abbrev pub AreDigits : List ℕ → Type 0
AreDigits digits = (list_all is_digit digits ≡ true) × (0 < length digits)

-- nothing, or a point and digits
abbrev pub IsPoint : List ℕ → Type 0
IsPoint text = (text ≡ []) ⊎ ((digits : List ℕ) × AreDigits digits × (text ≡ 46 ∷ digits))

-- nothing, `+` or `-`
abbrev pub IsSign : List ℕ → Type 0
IsSign text = (text ≡ []) ⊎ ((text ≡ 43 ∷ []) ⊎ (text ≡ 45 ∷ []))

-- nothing, or `E` or `e`, perhaps a sign, and digits
abbrev pub IsExponent : List ℕ → Type 0
IsExponent text = (text ≡ [])
    ⊎ ((letter : ℕ) × (sign : List ℕ) × (digits : List ℕ) × ((letter ≡ 69) ⊎ (letter ≡ 101)) × IsSign sign × AreDigits digits × (text ≡ letter ∷ (sign ++ digits)))

-- a decimal
abbrev pub IsDecimal : List ℕ → Type 0
IsDecimal text = (whole : List ℕ) × (point : List ℕ) × (exponent : List ℕ) × AreDigits whole × IsPoint point × IsExponent exponent × (text ≡ whole ++ (point ++ exponent))

-- some decimal begins with these bytes
abbrev pub BeginsDecimal : List ℕ → Type 0
BeginsDecimal front = (more : List ℕ) × IsDecimal (front ++ more)
