-- What the answers of the code mean, and what a fault tells.
use Rattle.std.specs.Prelude.{◌≡◌, ℕ, List, Option, Some, Result, Err, ⊤}
use Rattle.kz_types.specs.declared.fault.TreeFault.{TreeFault}
use Rattle.kz_types.specs.declared.fault.TreeFault.TheVariants as fault
use Rattle.kz_types.specs.declared.move_fault.MoveFault.{MoveFault}
use Rattle.kz_types.specs.declared.move_fault.MoveFault.TheVariants as move_fault
use Rattle.kz_spec_data.specs.Tree as tree
use Rattle.kz_tree.specs.declared.faults.MultiFault.{MultiFault}
use Rattle.kz_tree.specs.declared.faults.MultiFault.TheVariants as multi_fault
use Rattle.kz_tree.specs.declared.faults.ClosedFault.{ClosedFault}
use Rattle.kz_tree.specs.declared.faults.ClosedFault.TheVariants as closed_fault
use Rattle.kz_tree.specs.declared.refusals.Refusal.{Refusal}
use Rattle.kz_tree.specs.declared.refusals.Refusal.TheVariants.{Code, Limit}

-- the refusal that the code's answer stands for
abbrev pub meaning : Refusal → tree.Refusal
meaning (Code c) = tree.code c
meaning (Limit n) = tree.limit n

-- A fault is what the definition says, or out of memory. Nothing else is one.
abbrev pub IsFaultOf : {A : Type 0} → Result A TreeFault → TreeFault → Type 0
IsFaultOf said (fault.Refused index c) = said ≡ Err (fault.Refused index c)
IsFaultOf said (fault.Limit index n) = said ≡ Err (fault.Limit index n)
IsFaultOf said fault.NoMemory = ⊤
IsFaultOf said fault.Device = ⊥
IsFaultOf said fault.Down = ⊥
IsFaultOf said (fault.Full length) = ⊥

-- Why nothing was prepared: what the definition says, or out of memory.
abbrev pub IsMultiFaultOf : {A : Type 0} → Result A TreeFault → MultiFault → Type 0
IsMultiFaultOf said (multi_fault.Refused index c) = said ≡ Err (fault.Refused index c)
IsMultiFaultOf said (multi_fault.Limit index n) = said ≡ Err (fault.Limit index n)
IsMultiFaultOf said multi_fault.NoMemory = ⊤

-- Why no session began or ended: what the definition says, or out of memory.
abbrev pub IsMoveFaultOf : {A : Type 0} → Result A MoveFault → MoveFault → Type 0
IsMoveFaultOf said move_fault.Known = said ≡ Err move_fault.Known
IsMoveFaultOf said move_fault.Unknown = said ≡ Err move_fault.Unknown
IsMoveFaultOf said (move_fault.Limit n) = said ≡ Err (move_fault.Limit n)
IsMoveFaultOf said move_fault.NoMemory = ⊤

-- Why a tree isn't closed: the path that the definition says, or out of memory.
abbrev pub IsClosedFaultOf : Option (List ℕ) → ClosedFault → Type 0
IsClosedFaultOf said (closed_fault.Unclosed path) = said ≡ Some path
IsClosedFaultOf said closed_fault.NoMemory = ⊤

-- the same fault, as one of a request
abbrev pub tree_fault : MultiFault → TreeFault
tree_fault (multi_fault.Refused index c) = fault.Refused index c
tree_fault (multi_fault.Limit index n) = fault.Limit index n
tree_fault multi_fault.NoMemory = fault.NoMemory
