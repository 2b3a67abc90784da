-- Why a load stops.
use Rattle.std.specs.Prelude.{◌≡◌, ⊤, ℕ, Result, Err}
use Rattle.kz_types.specs.declared.limits.Limit.TheVariants as limits
use Rattle.kz_types.specs.Limits.{number_of_limit}
use Rattle.kz_types.specs.declared.limits.TheConstants.{MAX_INPUT_BYTES, MAX_LINE_BYTES}
use Rattle.kz_types.specs.declared.outside.Status.{Status}
use Rattle.kz_types.specs.declared.outside.Status.TheVariants as status
use Rattle.kz_spec_data.specs.Tree.{Tree}
use Rattle.kz_spec_machine.specs.Loading.{greatest_of}
use Rattle.kz_tree.specs.declared.load.LoadFault.{LoadFault}
use Rattle.kz_tree.specs.declared.load.LoadFault.TheVariants as fault
use Rattle.kz_load.specs.declared.stop.LoadStop.{LoadStop}
use Rattle.kz_load.specs.declared.stop.LoadStop.TheVariants as stop

-- why a load stops at a line, where the check of its tree gives this fault
abbrev pub stop_of : ℕ → LoadFault → LoadStop
stop_of line fault.Broken = stop.BadLine line
stop_of line (fault.Limit number) = stop.Limit number
stop_of line fault.NoMemory = stop.NoMemory

-- the status of a load that stops
abbrev pub stop_status : LoadStop → Status
stop_status (stop.BadLine line) = status.Script line
stop_status (stop.Limit number) = status.Limit number (greatest_of number)
stop_status stop.LongLine = status.Limit (number_of_limit limits.LineBytes) MAX_LINE_BYTES
stop_status stop.LongInput = status.Limit (number_of_limit limits.InputBytes) MAX_INPUT_BYTES
stop_status stop.ReadFault = status.ReadFault
stop_status stop.NoMemory = status.NoMemory

-- A load that should give this stops by its lines. Unless memory ran out, it should be refused, with the status of the stop.
abbrev pub IsLineStop : Result Tree Status → LoadStop → Type 0
IsLineStop load (stop.BadLine line) = load ≡ Err (stop_status (stop.BadLine line))
IsLineStop load (stop.Limit number) = load ≡ Err (stop_status (stop.Limit number))
IsLineStop load stop.LongLine = load ≡ Err (stop_status stop.LongLine)
IsLineStop load stop.LongInput = load ≡ Err (stop_status stop.LongInput)
IsLineStop load stop.ReadFault = ⊥
IsLineStop load stop.NoMemory = ⊤

-- A load that should give this stops, by its lines or since a read failed.
abbrev pub IsStopOf : Result Tree Status → LoadStop → Type 0
IsStopOf load stop.ReadFault = ⊤
IsStopOf load why = IsLineStop load why
