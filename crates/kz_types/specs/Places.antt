-- Where bytes stop being the beginning of a text, and where they stop having the form of a path: the two parts of the search for a
-- path's fault. No public contract cites them.
use Rattle.std.specs.Prelude.{◌≡◌, ℕ, ◌+◌, ◌<◌, ◌≤◌, Bool, true, ◌&&◌, ◌==◌, List, [], ◌∷◌, ◌++◌, length, take, slice_index}
use Rattle.std.specs.List.{list_all}
use Rattle.std.specs.Str.{IsUtf8}
use Rattle.kz_types.specs.PathRule.{parts, is_shown, is_part}

-- The first byte with which no text goes on, or the length. Shown bytes complete what stands before it.
pub record IsTextPlace (bytes : List ℕ) (at : ℕ) : Type 0 where
  pub within : at ≤ length bytes
  pub more : List ℕ
  pub text : IsUtf8 (take at bytes ++ more)
  pub shown : list_all is_shown more ≡ true
  pub none : at < length bytes → (rest : List ℕ) → IsUtf8 (take (at + 1) bytes ++ rest) → ⊥

-- a slash before each part, and each part one of the rule
abbrev pub has_form : List ℕ → Bool
has_form bytes = (slice_index bytes 0 == 47) && list_all is_part (parts bytes)

-- The first byte with which this form doesn't go on, or the length. Any shown bytes and an `a` complete what stands before it, and
-- the byte itself is ASCII or the first.
pub record IsFormPlace (bytes : List ℕ) (at : ℕ) : Type 0 where
  pub within : at ≤ length bytes
  pub some : 0 < at → (more : List ℕ) → list_all is_shown more ≡ true → has_form (take at bytes ++ (more ++ 97 ∷ [])) ≡ true
  pub none : at < length bytes → (rest : List ℕ) → has_form (take (at + 1) bytes ++ rest) ≡ true → ⊥
  pub ascii : 0 < at → at < length bytes → slice_index bytes at < 128
