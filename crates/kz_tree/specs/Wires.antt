-- What arrives of the answers of a store of a tree over a connection.
use Rattle.std.specs.Prelude.{◌≡◌, Bool, true, false, Result, Ok, Err, ⊤}
use Rattle.kz_types.specs.declared.fault.TreeFault.{TreeFault}
use Rattle.kz_spec_data.specs.Tree.{Tree}
use Rattle.kz_spec_data.specs.Requests.{StoreAnswer, Done, Refused, NoMemory, Failed, Down, Full, answer_of_tree_fault}
use Rattle.kz_connection.specs.Connections.{Arrival, Answered, Lost, Expired}
use Rattle.kz_tree.specs.declared.wire.WireFault.{WireFault}
use Rattle.kz_tree.specs.declared.wire.WireFault.TheVariants as wire_fault

abbrev pub arrival_of : {A : Type 0} → Result A WireFault → Arrival
arrival_of (Ok a) = Answered Done
arrival_of (Err wire_fault.Lost) = Lost
arrival_of (Err wire_fault.Expired) = Expired
arrival_of (Err (wire_fault.Tree f)) = Answered (answer_of_tree_fault f)

-- where it is a fault of the store, this holds of it
abbrev pub IfStore : (TreeFault → Type 0) → WireFault → Type 0
IfStore P wire_fault.Lost = ⊤
IfStore P wire_fault.Expired = ⊤
IfStore P (wire_fault.Tree f) = P f

-- The answers that pass although the answer is to be lost: those that say that the store can't go on.
abbrev pub passes : StoreAnswer → Bool
passes Done = false
passes Refused = false
passes NoMemory = true
passes Failed = true
passes Down = true
passes (Full length) = true

-- What comes of a request whose answer is to be lost: its answer passes, or nothing arrives, and then `P` holds.
abbrev pub IsUnanswered : Type 0 → Arrival → Type 0
IsUnanswered P (Answered answer) = passes answer ≡ true
IsUnanswered P Lost = P
IsUnanswered P Expired = ⊥

-- the tree after a multi whose answer was lost: it was made, or refused
abbrev pub after_multi : Tree → Result Tree TreeFault → Tree
after_multi t (Ok made) = made
after_multi t (Err f) = t
