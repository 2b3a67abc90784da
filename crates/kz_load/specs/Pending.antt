-- What becomes of a load that stands in the middle of its input.
use Rattle.std.specs.Prelude.{◌≡◌, ℕ, List, ◌++◌, Result}
use Rattle.kz_types.specs.declared.outside.Status.{Status}
use Rattle.kz_spec_data.specs.Lines.{Item}
use Rattle.kz_spec_data.specs.Tree.{Tree}
use Rattle.kz_spec_machine.specs.Loading.{tree_of_items, tree_after}
use Rattle.kz_laws_values.specs.Coming.{lines_after}
use Rattle.kz_load.specs.declared.part.Part.{Part}
use Rattle.kz_load.specs.declared.place.Place.{Place}
use Rattle.kz_load.specs.declared.place.Place.TheVariants as place
use Rattle.kz_load.specs.declared.reader.Reader.{Reader}
use Rattle.kz_load.specs.declared.stop.LoadStop.{LoadStop}
use Rattle.kz_load.specs.Stops.{IsLineStop}

-- the load where these lines come after a first one
abbrev pub load_after : Part → List Item → Result Tree Status
load_after part is = tree_after part.number part.check.zxid part.check.sessions part.check.rows is

-- the load where these lines come
abbrev pub load_of_lines : Place → List Item → Result Tree Status
load_of_lines place.Start is = tree_of_items is
load_of_lines (place.After part) is = load_after part is

-- the load where these bytes come, and then the end of the input
abbrev pub load_to_come : Reader → List ℕ → Result Tree Status
load_to_come r rest = load_of_lines r.place (lines_after r.line.items r.taken rest)

-- From one state to another a load took these bytes.
abbrev pub GoesOn : Reader → Reader → List ℕ → Type 0
GoesOn old new bytes = (rest : List ℕ) → load_to_come old (bytes ++ rest) ≡ load_to_come new rest

-- It stops if these bytes come, whatever comes after them.
abbrev pub Stops : Reader → List ℕ → LoadStop → Type 0
Stops r bytes why = (rest : List ℕ) → IsLineStop (load_to_come r (bytes ++ rest)) why
