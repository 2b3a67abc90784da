-- What places and streams keep.
use Rattle.std.specs.Prelude.{ℕ, ◌≤◌, ◌*◌, ◌^◌}
use Rattle.kz_types.specs.declared.limits.TheConstants.{MAX_INPUT_BYTES, MAX_LINE_BYTES}

-- Each event of a run is a line, and takes fewer steps than a list can have items.
pub record IsPlace (lines events steps : ℕ) : Type 0 where
  pub each_event : events ≤ lines
  pub each_step : steps ≤ lines * 2 ^ 64

-- a stream is within its limits, and each line ended at a byte
pub record IsKept (line taken lines : ℕ) : Type 0 where
  pub short : line ≤ MAX_LINE_BYTES
  pub few : taken ≤ MAX_INPUT_BYTES
  pub each_line : lines ≤ taken
