-- How the bytes of a script are cut into lines.
use Rattle.std.specs.Prelude.{ℕ, ◌-◌, Bool, true, not, ◌&&◌, ◌==◌, List, [], ◌∷◌, if◌then◌else◌}
use Rattle.kz_types.specs.declared.limits.TheConstants.{MAX_INPUT_BYTES, MAX_LINE_BYTES}

-- A line without its end, or the first byte at which a limit would be passed.
pub data Item : Type 0 where
  line : List ℕ → Item
  -- a line would have more bytes than are allowed
  long : Item
  -- the input would have more bytes than are allowed
  much : Item

-- The first line begins with this byte. What stands in place of a line stays.
abbrev pub with_byte : ℕ → List Item → List Item
with_byte b [] = line (b ∷ []) ∷ []
with_byte b (line l ∷ is) = line (b ∷ l) ∷ is
with_byte b (long ∷ is) = long ∷ is
with_byte b (much ∷ is) = much ∷ is

-- The lines of these bytes, where the first line may still have `here` bytes and the input `all`. A line feed, 10,
-- isn't counted in its line, and is counted in the input. Where one byte would pass both limits, the line's counts.
abbrev pub items_from : ℕ → ℕ → List ℕ → List Item
items_from here all [] = []
items_from here all (b ∷ bs) =
    if not (b == 10) && (here == 0) then long ∷ []
    else (if all == 0 then much ∷ []
    else (if b == 10 then line [] ∷ items_from MAX_LINE_BYTES (all - 1) bs
    else with_byte b (items_from (here - 1) (all - 1) bs)))

-- The lines of an input. A line ends at a line feed; the last may lack it.
abbrev pub items : List ℕ → List Item
items bytes = items_from MAX_LINE_BYTES MAX_INPUT_BYTES bytes

-- this part of a line stands before them
abbrev pub with_front : List ℕ → List Item → List Item
with_front [] is = is
with_front (b ∷ bs) is = with_byte b (with_front bs is)

-- an empty line, or a comment: a line that begins with `#`, 35
abbrev pub is_passed_over : List ℕ → Bool
is_passed_over [] = true
is_passed_over (b ∷ bs) = b == 35
