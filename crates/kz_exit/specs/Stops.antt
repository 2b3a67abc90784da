-- What a stop leaves of the tree and the log where a rollback failed at one of the stores.
use Rattle.std.specs.Prelude.{◌≡◌, ⊤, false, List, [], ◌∷◌, Contains, Option, Some, Result, Ok, Err}
use Rattle.kz_types.specs.declared.fault.TreeFault.{TreeFault}
use Rattle.kz_spec_data.specs.Tree.{Tree as TreeValue}
use Rattle.kz_spec_data.specs.Log.{Log as LogValue, reset}
use Rattle.kz_spec_data.specs.Requests.{Disk}
use Rattle.kz_spec_machine.specs.Machine.{Pair, exit_ops, tree_after_ops}
use Rattle.kz_exit.specs.declared.faults.ExitFault.{ExitFault}
use Rattle.kz_exit.specs.declared.faults.ExitFault.TheVariants.{Finalised, Unclosed, Behind, Log, Tree, NoMemory}

-- the rollback failed at a store
abbrev pub IsFailed : Result (Unit {0}) ExitFault → Type 0
IsFailed (Ok told) = ⊥
IsFailed (Err (Log f)) = ⊤
IsFailed (Err (Tree f)) = ⊤
IsFailed (Err Finalised) = ⊥
IsFailed (Err (Unclosed path)) = ⊥
IsFailed (Err (Behind recorded end)) = ⊥
IsFailed (Err NoMemory) = ⊥

-- the tree and the log after a change of the tree, where it was made
abbrev pub pairs_made : LogValue → Result TreeValue TreeFault → List Pair
pairs_made l (Ok t) = record { tree = t; log = l } ∷ []
pairs_made l (Err f) = []

-- The tree and the log before a rollback; those with the log reset; and those after all of it, with the tree given back too.
abbrev pub rollback_pairs : TreeValue → LogValue → List Pair
rollback_pairs t l =
    record { tree = t; log = l }
    ∷ record { tree = t; log = reset l }
    ∷ pairs_made (reset l) (tree_after_ops t (exit_ops t))

-- The tree and the log that a stop leaves are one of these pairs.
abbrev pub LeavesOneOf : List Pair → (Option TreeValue → Type 0) → (Option LogValue → Type 0) → Type 0
LeavesOneOf pairs tree_left log_left = (t : Option TreeValue) (l : Option LogValue) → tree_left t → log_left l → (pair : Pair) × Contains pairs pair × (t ≡ Some pair.tree) × (l ≡ Some pair.log)

-- What a stop leaves where neither store was down before a rollback that failed at one of them.
abbrev pub RollbackLeaves : TreeValue → LogValue → Result (Unit {0}) ExitFault → Disk → Disk → (Option TreeValue → Type 0) → (Option LogValue → Type 0) → Type 0
RollbackLeaves t l result tree_disk log_disk tree_left log_left =
    tree_disk.down ≡ false → log_disk.down ≡ false → IsFailed result → LeavesOneOf (rollback_pairs t l) tree_left log_left
