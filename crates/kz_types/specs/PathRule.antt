-- Which bytes are the path of a znode, and where others stop being the beginning of one.
use Rattle.std.specs.Prelude.{◌≡◌, ⊤, ℕ, Bool, true, false, not, ◌&&◌, ◌==◌, nat_lt, nat_le, List, ◌++◌, length, drop, slice_index, codes, bytes_eq}
use Rattle.std.specs.Str.{is_utf8}
use Rattle.std.specs.List.{slice_split, list_all}
use Rattle.kz_types.specs.Faults.{IsFaultPlace}
use Rattle.kz_types.specs.declared.limits.TheConstants.{MAX_PATH_BYTES}
use Rattle.kz_types.specs.declared.value_fault.PathFault.{PathFault}
use Rattle.kz_types.specs.declared.value_fault.PathFault.TheVariants.{BadName, NoMemory}

-- the parts of a path: what stands between its slashes, without the nothing before the first
abbrev pub parts : List ℕ → List (List ℕ)
parts path = drop 1 (slice_split (λ b. b == 47) path)

-- no control character and no slash
abbrev pub is_shown : ℕ → Bool
is_shown b = nat_le 32 b && not (b == 127) && not (b == 47)

-- a part: what may stand between two slashes
abbrev pub is_part : List ℕ → Bool
is_part part = nat_lt 0 (length part) && not (bytes_eq part (codes ".")) && not (bytes_eq part (codes "..")) && list_all is_shown part

-- a path of any length: UTF-8, a slash before each part, and each part one of the rule
unfoldable pub has_path_form : List ℕ → Bool
has_path_form bytes = is_utf8 bytes && (slice_index bytes 0 == 47) && list_all is_part (parts bytes)

-- a path: no longer than the limit
unfoldable pub is_path : List ℕ → Bool
is_path bytes = has_path_form bytes && nat_le (length bytes) MAX_PATH_BYTES

-- some path, whatever its length, begins with these bytes
abbrev pub BeginsPath : List ℕ → Type 0
BeginsPath front = (more : List ℕ) × (has_path_form (front ++ more) ≡ true)

-- why bytes are no path: the rule, at the first byte with which no path goes on, or out of memory. Bytes that are too many for a path
-- are at fault at their length.
abbrev pub IsPathFault : List ℕ → PathFault → Type 0
IsPathFault bytes (BadName at) = (is_path bytes ≡ false) × IsFaultPlace BeginsPath bytes at
IsPathFault bytes NoMemory = ⊤
