-- A request of the tree that has no answer.
use Rattle.std.proofs.Common.{◌≡◌, Bool, false, Result, Err, refl, sym, subst, arith}
use Rattle.std.specs.Prelude.{IsErrOf}
use Rattle.std.proofs.lemmas.Grind.{common_steps}
use Rattle.kz_types.specs.declared.plan.Plan.{Plan}
use Rattle.kz_types.specs.declared.fault.TreeFault.TheVariants as tree_fault
use Rattle.kz_spec_data.specs.Requests.{Disk, StoreAnswer}
use Rattle.kz_spec_data.specs.Tree.{Tree}
use Rattle.kz_connection.specs.Connections.{Wired}
use Rattle.kz_requests.specs.declared.fault.StepFault.{StepFault}
use Rattle.kz_requests.specs.declared.fault.StepFault.TheVariants as step_fault
use Rattle.kz_requests.specs.Fares.{Fares, IsAfterRequest}
use Rattle.kz_requests.specs.Disks.{TreeDisk}

-- where memory ran out before the request, the tree and its disk are as they were, and the disk hasn't failed
pub unasked_tree : {A : Type 0} (reaches : Bool) (made t : Tree) (q : Result A StepFault) → q ≡ Err step_fault.NoMemory → IsAfterRequest reaches made t q t
unasked_tree {A = A} reaches made t q is = subst (λ (x : Result A StepFault). IsAfterRequest reaches made t x t) (sym is) refl

pub unasked_disk : {A : Type 0} (Changes : StoreAnswer → Disk → Disk → Type 0) (said : StoreAnswer) (p : Plan) (d : Disk) (q : Result A StepFault) → q ≡ Err step_fault.NoMemory → TreeDisk Changes said p q d d
unasked_disk {A = A} Changes said p d q is = subst (λ (x : Result A StepFault). TreeDisk Changes said p x d d) (sym is) refl

pub unasked_stop : {A : Type 0} (q : Result A StepFault) → q ≡ Err step_fault.NoMemory → IsErrOf q (step_fault.Tree tree_fault.Device) → ⊥
unasked_stop q is failed = cc

-- a fault says the same, whatever the answer would have been
pub fault_tree : {A B : Type 0} (reaches : Bool) (made t new : Tree) (e : StepFault) (q : Result A StepFault) (p : Result B StepFault) → q ≡ Err e → p ≡ Err e → IsAfterRequest reaches made t q new → IsAfterRequest reaches made t p new
fault_tree reaches made t new e q p is same h = grind (arith, common_steps)

pub fault_disk : {A B : Type 0} (Changes : StoreAnswer → Disk → Disk → Type 0) (said : StoreAnswer) (plan : Plan) (old new : Disk) (e : StepFault) (q : Result A StepFault) (p : Result B StepFault) → q ≡ Err e → p ≡ Err e → TreeDisk Changes said plan q old new → TreeDisk Changes said plan p old new
fault_disk Changes said plan old new e q p is same h = grind (arith, common_steps)

pub fault_fares : {A B T : Type 0} (old new : Wired T) (e : StepFault) (q : Result A StepFault) (p : Result B StepFault) → q ≡ Err e → p ≡ Err e → Fares false false q old new → Fares false false p old new
fault_fares old new e q p is same h = grind (arith, common_steps)

pub fault_stop : {A B : Type 0} (f e : StepFault) (q : Result A StepFault) (p : Result B StepFault) → q ≡ Err e → p ≡ Err e → IsErrOf p f → IsErrOf q f
fault_stop f e q p is same h = grind (arith, common_steps)
