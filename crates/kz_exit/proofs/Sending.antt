-- Operations are sent in one multi, where there are some.
use Rattle.std.proofs.Common.{◌≡◌, ◌==◌, ℕ, suc, true, false, List, [], ◌∷◌, length, Result, Ok, Err, refl, arith}
use Rattle.std.proofs.lemmas.Bool.{eqb-true}
use Rattle.kz_types.specs.declared.tree.Op.{Op}
use Rattle.kz_spec_data.specs.Tree.{Tree as TreeValue, multi}
use Rattle.kz_spec_data.specs.Requests.{Disk, TreeChange, Multi, Done, IsTaken}
use Rattle.kz_spec_machine.specs.Machine.{tree_after_ops}
use Rattle.kz_exit.specs.declared.faults.ExitFault.{ExitFault}
use Rattle.kz_exit.specs.declared.faults.ExitFault.TheVariants.{Finalised, Unclosed, Behind, Log, Tree, NoMemory}
use Rattle.kz_exit.specs.Disks.{MakesOps, TreeDisk}
use Rattle.kz_exit.specs.Requests.{MultiDisk}

some_not_none : (o : Op) (os : List Op) → (length (o ∷ os) == 0) ≡ true → ⊥
some_not_none o os h = let none : suc (length os) ≡ 0 = eqb-true (suc (length os)) 0 h in omega (arith, none)

pub none_sent : (t : TreeValue) (ops : List Op) → (length ops == 0) ≡ true → tree_after_ops t ops ≡ Ok t
none_sent t [] h = refl
none_sent t (o ∷ os) h = absurd (some_not_none o os h)

pub none_made : (t : TreeValue) (payload_bytes : TreeValue → TreeChange → ℕ) (ops : List Op) (disk : Disk) → (length ops == 0) ≡ true → MakesOps t payload_bytes ops Done disk disk
none_made t payload_bytes [] disk h = (refl, refl)
none_made t payload_bytes (o ∷ os) disk h = absurd (some_not_none o os h)

pub some_sent : (t : TreeValue) (ops : List Op) → (length ops == 0) ≡ false → tree_after_ops t ops ≡ multi t ops
some_sent t [] h = absurd (cc)
some_sent t (o ∷ os) h = refl

pub some_made : (t : TreeValue) (payload_bytes : TreeValue → TreeChange → ℕ) (ops : List Op) (r : Result (Unit {0}) ExitFault) (old new : Disk) → (length ops == 0) ≡ false → MultiDisk (IsTaken (multi t ops)) (payload_bytes t (Multi ops)) r old new → TreeDisk t payload_bytes ops r old new
some_made t payload_bytes [] r old new some h = absurd (cc)
some_made t payload_bytes (o ∷ os) (Ok told) old new some h = h
some_made t payload_bytes (o ∷ os) (Err Finalised) old new some h = h
some_made t payload_bytes (o ∷ os) (Err (Unclosed path)) old new some h = h
some_made t payload_bytes (o ∷ os) (Err (Behind recorded end)) old new some h = h
some_made t payload_bytes (o ∷ os) (Err (Log f)) old new some h = h
some_made t payload_bytes (o ∷ os) (Err (Tree f)) old new some h = h
some_made t payload_bytes (o ∷ os) (Err NoMemory) old new some h = h
