-- What a stop in a call of a load leaves.
use Rattle.std.proofs.Common.{◌≡◌, List, Option, Some, None, refl, inl, subst}
use Rattle.kz_types.specs.declared.tree.Row.{Row}
use Rattle.kz_types.specs.declared.fault.TreeFault.TheVariants as tree_fault
use Rattle.kz_spec_data.specs.Tree.{Tree}
use Rattle.kz_spec_data.specs.Requests.{Only}
use Rattle.kz_journal.specs.declared.change_fault.ChangeFault.{ChangeFault}
use Rattle.kz_journal.specs.declared.change_fault.ChangeFault.TheVariants as change
use Rattle.kz_tree_store.specs.declared.last.LoadLast.{LoadLast}
use Rattle.kz_tree_store.specs.LoadCalls.{load_fault_of, LeftByLoad}

-- the disk failed in a call only where it failed at a frame
pub failed_of : (f : ChangeFault) → load_fault_of f ≡ tree_fault.Device → f ≡ change.Failed
failed_of change.Failed h = refl
failed_of (change.Full length) h = absurd (cc)
failed_of change.NoMemory h = absurd (cc)

-- before the end of the load a stop leaves the tree
pub only_left : (last : Option LoadLast) (rows : List Row) (t : Tree) (left : Option Tree → Type 0) → Only t left → LeftByLoad last rows t left
only_left None rows t left h = h
only_left (Some last) rows t left h = λ found here. inl (h found here)

-- the same of equal parts
pub left_as : (last : Option LoadLast) (rows same_rows : List Row) (t same : Tree) (left : Option Tree → Type 0) → same_rows ≡ rows → same ≡ t → LeftByLoad last same_rows same left → LeftByLoad last rows t left
left_as last rows same_rows t same left e f h = subst (λ rs. LeftByLoad last rs t left) e (subst (λ x. LeftByLoad last same_rows x left) f h)
