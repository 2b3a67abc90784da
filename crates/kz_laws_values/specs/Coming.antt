-- The lines that come in the middle of an input.
use Rattle.std.specs.Prelude.{ℕ, ◌-◌, List, length}
use Rattle.kz_types.specs.declared.limits.TheConstants.{MAX_INPUT_BYTES, MAX_LINE_BYTES}
use Rattle.kz_spec_data.specs.Lines.{Item, with_front, items_from}

-- The lines of these further bytes, where the line so far has the bytes `l`, and `t` bytes were taken of the input.
abbrev pub lines_after : List ℕ → ℕ → List ℕ → List Item
lines_after l t rest = with_front l (items_from (MAX_LINE_BYTES - length l) (MAX_INPUT_BYTES - t) rest)
