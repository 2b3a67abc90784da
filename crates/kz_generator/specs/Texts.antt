-- The text of a list of events.
use Rattle.std.specs.Prelude.{ℕ, List}
use Rattle.std.specs.List.{flat_map}
use Rattle.kz_types.specs.declared.machine.Event.{Event}
use Rattle.kz_spec_machine.specs.Generator.{event_line}

-- the lines of events, one after another
unfoldable pub lines_of : List Event → List ℕ
lines_of events = flat_map event_line events
