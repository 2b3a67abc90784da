-- What the payloads of frames make of what is stored, as they are read.
use Rattle.std.specs.Prelude.{◌≡◌, pos, ◌≤ℤ◌, ⊤, Option, Some, None, Result, Ok, Err}
use Rattle.kz_spec_data.specs.Tree.{Tree}
use Rattle.kz_spec_data.specs.TreeFile.{Stored, over}
use Rattle.kz_spec_data.specs.declared.files.Txn.{Txn}
use Rattle.kz_spec_data.specs.declared.files.Txn.TheVariants.{Multi, LoadRows, LoadEnd, Begin, End}
use Rattle.kz_tree.specs.declared.load.LoadFault.{LoadFault}
use Rattle.kz_tree.specs.declared.load.LoadFault.TheVariants as load_fault
use Rattle.kz_tree_store.specs.declared.fault.FrameFault.{FrameFault}
use Rattle.kz_tree_store.specs.declared.fault.FrameFault.TheVariants as fault

-- A call answers what the definition says, unless memory ran out.
abbrev pub Says : {X Y : Type 0} → (X → Y) → Result X FrameFault → Option Y → Type 0
Says view (Ok x) said = said ≡ Some (view x)
Says view (Err fault.Damaged) said = said ≡ None
Says view (Err fault.NoMemory) said = ⊤

-- The session that a transaction begins is at least 1.
abbrev pub BeginsFromOne : Txn → Type 0
BeginsFromOne (Multi zxid ops) = ⊤
BeginsFromOne (LoadRows first rows) = ⊤
BeginsFromOne (LoadEnd zxid sessions) = ⊤
BeginsFromOne (Begin zxid session) = pos 1 ≤ℤ session
BeginsFromOne (End zxid session) = ⊤

-- what stands once a load has ended with this tree
abbrev pub ended : Tree → Stored
ended t = record { tree = t; load = over }

-- a load that breaks a rule, or would pass a limit, makes its frame a damaged one
abbrev pub frame_fault_of : LoadFault → FrameFault
frame_fault_of load_fault.Broken = fault.Damaged
frame_fault_of (load_fault.Limit number) = fault.Damaged
frame_fault_of load_fault.NoMemory = fault.NoMemory
