-- The tree in step with the log, after each turn that comes to rest.
use Rattle.std.specs.Prelude.{◌≡◌, ℕ, ℤ, List, [], ◌∷◌, ◌++◌, Option, Some, None, option_map, if◌then◌else◌}
use Rattle.kz_types.specs.declared.machine.Event.{Event}
use Rattle.kz_types.specs.declared.machine.Event.TheVariants as event
use Rattle.kz_types.specs.declared.machine.Answer.TheVariants as answer
use Rattle.kz_types.specs.declared.machine.DriverState.TheVariants as state
use Rattle.kz_types.specs.declared.machine.Reply.{Reply}
use Rattle.kz_types.specs.declared.machine.Reply.TheVariants as reply
use Rattle.kz_spec_data.specs.Lines.{Item, line, long, much, items, is_passed_over}
use Rattle.kz_spec_data.specs.Events.{line_event}
use Rattle.kz_spec_data.specs.Tree.{area, unclosed_path}
use Rattle.kz_spec_data.specs.Log.{image_of}
use Rattle.kz_spec_data.specs.Rendering.{render}
use Rattle.kz_spec_machine.specs.Driver.{Shared, Driver, state_of}
use Rattle.kz_spec_machine.specs.Machine.{World, driver_of, next, after_events}

-- No znode of the migrated area was written after the offset was recorded, and the area is the rendering of the metadata
-- at the log's end.
pub record InStep (s : Shared) : Type 0 where
  pub closed : unclosed_path s.tree ≡ None
  pub same : area s.tree ≡ render (image_of s.log)

abbrev pub last_reply : List Reply → Option Reply
last_reply [] = None
last_reply (r ∷ []) = Some r
last_reply (r ∷ s ∷ rs) = last_reply (s ∷ rs)

-- a turn of a controller leads to this world and answers these replies, the last of them idle, in dual write
pub record ComesToRest (old new : World) (id now : ℤ) (replies : List Reply) : Type 0 where
  pub turned : next old (event.Turn id now) ≡ (new, answer.Turn replies)
  pub idle : last_reply replies ≡ Some reply.Idle
  pub dual : option_map (λ (d : Driver). state_of d.stage) (driver_of id new.drivers) ≡ Some state.DualWrite

-- After each turn among these events, from this world on, that comes to rest, the tree is in step with the log.
abbrev pub StaysInStep : World → List Event → Type 0
StaysInStep w es = (before after : List Event) (id now : ℤ) (new : World) (replies : List Reply)
    → es ≡ before ++ event.Turn id now ∷ after
    → ComesToRest (after_events w before) new id now replies
    → InStep new.shared

abbrev pub events_on : Option Event → List Event → List Event
events_on None rest = []
events_on (Some e) rest = e ∷ rest

-- the events of these lines, up to the first line that is none or passes a limit
abbrev pub events_of : List Item → List Event
events_of [] = []
events_of (long ∷ is) = []
events_of (much ∷ is) = []
events_of (line l ∷ is) = if is_passed_over l then events_of is else events_on (line_event l) (events_of is)

-- the events of a script
abbrev pub script_events : List ℕ → List Event
script_events bytes = events_of (items bytes)
