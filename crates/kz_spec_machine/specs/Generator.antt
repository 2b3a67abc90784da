-- Scripts that are generated: a migration of an empty tree by two controllers, and then changes of broker configurations.
use Rattle.std.specs.Prelude.{ℕ, zero, suc, ◌+◌, ◌-◌, ◌*◌, ◌/◌, ◌%◌, ◌==◌, ℤ, pos, List, [], ◌∷◌, ◌++◌, map, Some, codes, decimal, if◌then◌else◌}
use Rattle.std.specs.List.{flat_map}
use Rattle.kz_types.specs.declared.machine.Event.{Event}
use Rattle.kz_types.specs.declared.machine.Event.TheVariants.{Quorum, Start, Elect, Turn, Change, Check}
use Rattle.kz_types.specs.declared.record.MetaRecord.{MetaRecord}
use Rattle.kz_types.specs.declared.record.MetaRecord.TheVariants.{Config}
use Rattle.kz_spec_data.specs.Written.{written_event}

-- the values of the changes: the number of changes, and then each from the one before, as a linear congruential generator gives them
abbrev pub value_at : ℕ → ℕ → ℕ
value_at n zero = n
value_at n (suc i) = (1103515245 * value_at n i + 12345) % 2147483648

-- the controller that leads at a change: two take turns, a hundred changes each
abbrev pub leader_at : ℕ → ℤ
leader_at i = if ((i - 1) / 100) % 2 == 0 then pos 3000 else pos 3001

-- the configuration that a change sets: a member of one of a hundred brokers
abbrev pub config_at : ℕ → ℕ → MetaRecord
config_at n i = Config (record { resource_type = pos 4; resource_name = decimal (i % 100); name = codes "k"; value = Some (decimal (value_at n i)) })

-- the turn after a change, at each tenth, and the election after it, at each hundredth
abbrev pub turn_after : ℕ → List Event
turn_after i = if i % 10 == 0 then Turn (leader_at i) (pos 0) ∷ [] else []

abbrev pub election_after : ℕ → List Event
election_after i = if i % 100 == 0 then Elect (leader_at (i + 1)) (pos 0) ∷ [] else []

abbrev pub events_at : ℕ → ℕ → List Event
events_at n i = Change (leader_at i) (config_at n i ∷ []) (pos 0) ∷ (turn_after i ++ election_after i)

-- the events of so many changes, after the first `i`
abbrev pub events_after : ℕ → ℕ → ℕ → List Event
events_after n i zero = []
events_after n i (suc more) = events_at n (i + 1) ++ events_after n (i + 1) more

-- both controllers start, one is elected, and it migrates
abbrev pub opening_events : List Event
opening_events = Quorum (pos 3000 ∷ pos 3001 ∷ []) ∷ Start (pos 3000) ∷ Start (pos 3001) ∷ Elect (pos 3000) (pos 0) ∷ Turn (pos 3000) (pos 0) ∷ []

-- the one elected last has a turn, and the tree is checked
abbrev pub closing_events : ℕ → List Event
closing_events n = Turn (leader_at (n + 1)) (pos 0) ∷ Check ∷ []

-- the events of a script with so many changes
abbrev pub generated_events : ℕ → List Event
generated_events n = opening_events ++ (events_after n 0 n ++ closing_events n)

-- an event as a line
abbrev pub event_line : Event → List ℕ
event_line e = written_event e ++ codes "\n"

-- The script with so many changes.
abbrev pub generated : ℕ → List ℕ
generated n = flat_map event_line (generated_events n)
