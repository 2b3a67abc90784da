-- A store that was up is up after the request of a step, unless a call of its disk failed in it.
use Rattle.std.proofs.Common.{◌≡◌, ◌⊎◌, inl, inr, ℕ, ℤ, true, false, Result, Ok, Err, refl, ap, ◌∙◌, subst}
use Rattle.std.specs.Prelude.{⊤}
use Rattle.kz_types.specs.declared.plan.Plan.{Plan}
use Rattle.kz_types.specs.declared.plan.Plan.TheVariants as plan
use Rattle.kz_types.specs.declared.fault.TreeFault.TheVariants as tree_fault
use Rattle.kz_types.specs.declared.fault.LogFault.TheVariants as log_fault
use Rattle.kz_types.specs.declared.machine.Reply.{Reply}
use Rattle.kz_spec_data.specs.Tree.{multi}
use Rattle.kz_spec_data.specs.Log.{append}
use Rattle.kz_spec_data.specs.Requests.{Disk, StoreAnswer, Done, Down, Full, Multi, Append, IsTaken, ChangesDisk, ReadsDisk}
use Rattle.kz_spec_machine.specs.Driver.{Shared, Driver, epoch_or_zero, Request, nothing, read_log, write, add, reaches}
use Rattle.kz_spec_machine.specs.Failures.{is_failed_step}
use Rattle.kz_connection.specs.Connections.{Arrival, Answered, Lost, Expired, OverConnection, without_sessions}
use Rattle.kz_requests.specs.declared.fault.StepFault.{StepFault}
use Rattle.kz_requests.specs.declared.fault.StepFault.TheVariants as step_fault
use Rattle.kz_requests.specs.Disks.{answer_of_made, TreeDisk, LogDisk}
use Rattle.kz_driver.specs.Disks.{Disks, Payloads, AsksNothing, RequestDisks}
use Rattle.kz_driver.specs.Steps.{made_request, outcome_of}
use Rattle.kz_world_parts.specs.TurnDisks.{StepRequestDisks}
use Rattle.kz_world_parts.specs.TurnStops.{AreUp}
use Rattle.kz_world_parts.proofs.Replies.{is_failed_outcome, failed_by_outcome}

-- ---- over a connection

-- what arrives is the store's own answer, or nothing
abbrev IsOwn : StoreAnswer → Arrival → Type 0
IsOwn said (Answered answer) = answer ≡ said
IsOwn said arrival = ⊤

-- What holds of a disk that is as it was, and of one that the store's own answer tells of, holds after such a request.
own_over : (Changes : StoreAnswer → Disk → Disk → Type 0) (said : StoreAnswer) (p : Plan) (arrival : Arrival) (old new : Disk) (holds : Type 0) → IsOwn said arrival → (new ≡ old → holds) → (Changes said old new → holds) → OverConnection Changes said p arrival old new → holds
own_over Changes said plan.Deliver (Answered answer) old new holds own still made h = made (subst (λ (a : StoreAnswer). Changes a old new) own h)
own_over Changes said plan.Deliver Lost old new holds own still made h = absurd h
own_over Changes said plan.Deliver Expired old new holds own still made h = absurd h
own_over Changes said plan.LostBefore arrival old new holds own still made h = still h
own_over Changes said plan.LostAfter (Answered answer) old new holds own still made h = made (subst (λ (a : StoreAnswer). Changes a old new) own h)
own_over Changes said plan.LostAfter Lost old new holds own still made h = made h
own_over Changes said plan.LostAfter Expired old new holds own still made h = absurd h
own_over Changes said plan.Expired arrival old new holds own still made h = still h

-- a request that reaches the store and is answered
answer_over : (Changes : StoreAnswer → Disk → Disk → Type 0) (said answer : StoreAnswer) (p : Plan) (old new : Disk) → reaches p false ≡ true → OverConnection Changes said p (Answered answer) old new → Changes answer old new
answer_over Changes said answer plan.Deliver old new arrives h = h
answer_over Changes said answer plan.LostBefore old new arrives h = absurd (cc)
answer_over Changes said answer plan.LostAfter old new arrives h = h
answer_over Changes said answer plan.Expired old new arrives h = absurd (cc)

-- the log knows no sessions
log_reached : (p : Plan) → reaches p true ≡ true → reaches (without_sessions p) false ≡ true
log_reached plan.Deliver arrives = refl
log_reached plan.LostBefore arrives = absurd (cc)
log_reached plan.LostAfter arrives = refl
log_reached plan.Expired arrives = refl

-- ---- one store

-- a store is down where it was
abbrev StaysUp : Disk → Disk → Type 0
StaysUp old new = new.down ≡ old.down

as_it_was : (old new : Disk) → new ≡ old → StaysUp old new
as_it_was old new same = ap (λ (d : Disk). d.down) same

-- it is so after the store's own answer, and where the store was down, or its file would be too long
record KeepsUp (Changes : StoreAnswer → Disk → Disk → Type 0) (said : StoreAnswer) : Type 0 where
  own : (old new : Disk) → Changes said old new → StaysUp old new
  down : (old new : Disk) → Changes Down old new → StaysUp old new
  full : (length : ℕ) (old new : Disk) → Changes (Full length) old new → StaysUp old new

read_keeps : KeepsUp ReadsDisk Done
read_keeps = record { own = λ old new h. as_it_was old new h.1; down = λ old new h. as_it_was old new h.1; full = λ length old new h. absurd h }

changed : {B E : Type 0} (made : Result B E) (payload : ℕ) (old new : Disk) → ChangesDisk (IsTaken made) payload (answer_of_made made) old new → StaysUp old new
changed (Ok made) payload old new h = ap (λ (d : Disk). d.down) h.2
changed (Err refusal) payload old new h = as_it_was old new h.1

change_keeps : {B E : Type 0} (made : Result B E) (payload : ℕ) → KeepsUp (ChangesDisk (IsTaken made) payload) (answer_of_made made)
change_keeps made payload = record { own = changed made payload; down = λ old new h. as_it_was old new h.1; full = λ length old new h. as_it_was old new h.3 }

own_keeps : (Changes : StoreAnswer → Disk → Disk → Type 0) (said : StoreAnswer) (p : Plan) (arrival : Arrival) (old new : Disk) → KeepsUp Changes said → IsOwn said arrival → OverConnection Changes said p arrival old new → StaysUp old new
own_keeps Changes said p arrival old new keeps own h = own_over Changes said p arrival old new (StaysUp old new) own (as_it_was old new) (keeps.own old new) h

-- A store that was up is up, unless the outcome is this.
abbrev pub StaysUpUnless : Result Reply StepFault → Result Reply StepFault → Disk → Disk → Type 0
StaysUpUnless failure outcome old new = (outcome ≡ failure) ⊎ (new.down ≡ old.down)

-- A call of the disk below the tree, or the log, failed.
abbrev pub tree_failed : Result Reply StepFault
tree_failed = Err (step_fault.Tree tree_fault.Device)

abbrev pub log_failed : Result Reply StepFault
log_failed = Err (step_fault.Log log_fault.Failed)

-- the tree stays up unless a call of its disk failed
tree_keeps : (Changes : StoreAnswer → Disk → Disk → Type 0) (said : StoreAnswer) (p : Plan) (outcome : Result Reply StepFault) (old new : Disk) → KeepsUp Changes said → TreeDisk Changes said p outcome old new → StaysUpUnless tree_failed outcome old new
tree_keeps Changes said p (Ok told) old new keeps h = inr (own_keeps Changes said p (Answered said) old new keeps refl h)
tree_keeps Changes said p (Err step_fault.Lost) old new keeps h = inr (own_keeps Changes said p Lost old new keeps tt h)
tree_keeps Changes said p (Err step_fault.Expired) old new keeps h = inr (own_keeps Changes said p Expired old new keeps tt h)
tree_keeps Changes said p (Err (step_fault.Tree tree_fault.Device)) old new keeps h = inl refl
tree_keeps Changes said p (Err (step_fault.Tree tree_fault.Down)) old new keeps h = inr (keeps.down old new (answer_over Changes said Down p old new h.0 h.2))
tree_keeps Changes said p (Err (step_fault.Tree (tree_fault.Full length))) old new keeps h = inr (keeps.full length old new (answer_over Changes said (Full length) p old new h.0 h.2))
tree_keeps Changes said p (Err (step_fault.Tree f)) old new keeps h = absurd h.1
tree_keeps Changes said p (Err (step_fault.Log f)) old new keeps h = absurd h
tree_keeps Changes said p (Err step_fault.NoMemory) old new keeps h = inr (as_it_was old new h)

-- so does the log
log_keeps : (Changes : StoreAnswer → Disk → Disk → Type 0) (said : StoreAnswer) (p : Plan) (outcome : Result Reply StepFault) (old new : Disk) → KeepsUp Changes said → LogDisk Changes said p outcome old new → StaysUpUnless log_failed outcome old new
log_keeps Changes said p (Ok told) old new keeps h = inr (own_keeps Changes said (without_sessions p) (Answered said) old new keeps refl h)
log_keeps Changes said p (Err step_fault.Lost) old new keeps h = inr (own_keeps Changes said (without_sessions p) Lost old new keeps tt h)
log_keeps Changes said p (Err step_fault.Expired) old new keeps h = absurd h
log_keeps Changes said p (Err (step_fault.Tree f)) old new keeps h = absurd h
log_keeps Changes said p (Err (step_fault.Log log_fault.Failed)) old new keeps h = inl refl
log_keeps Changes said p (Err (step_fault.Log log_fault.Down)) old new keeps h = inr (keeps.down old new (answer_over Changes said Down (without_sessions p) old new (log_reached p h.0) h.2))
log_keeps Changes said p (Err (step_fault.Log (log_fault.Full length))) old new keeps h = inr (keeps.full length old new (answer_over Changes said (Full length) (without_sessions p) old new (log_reached p h.0) h.2))
log_keeps Changes said p (Err (step_fault.Log f)) old new keeps h = absurd h.1
log_keeps Changes said p (Err step_fault.NoMemory) old new keeps h = inr (as_it_was old new h)

-- ---- both stores

pub record StayUp (outcome : Result Reply StepFault) (old new : Disks) : Type 0 where
  pub tree : StaysUpUnless tree_failed outcome old.tree new.tree
  pub log : StaysUpUnless log_failed outcome old.log new.log

tree_asked : (Changes : StoreAnswer → Disk → Disk → Type 0) (said : StoreAnswer) (p : Plan) (outcome : Result Reply StepFault) (old new : Disks) → KeepsUp Changes said → TreeDisk Changes said p outcome old.tree new.tree × (new.log ≡ old.log) → StayUp outcome old new
tree_asked Changes said p outcome old new keeps h = record { tree = tree_keeps Changes said p outcome old.tree new.tree keeps h.0; log = inr (as_it_was old.log new.log h.1) }

log_asked : (Changes : StoreAnswer → Disk → Disk → Type 0) (said : StoreAnswer) (p : Plan) (outcome : Result Reply StepFault) (old new : Disks) → KeepsUp Changes said → LogDisk Changes said p outcome old.log new.log × (new.tree ≡ old.tree) → StayUp outcome old new
log_asked Changes said p outcome old new keeps h = record { tree = inr (as_it_was old.tree new.tree h.1); log = log_keeps Changes said p outcome old.log new.log keeps h.0 }

none_asked : (outcome : Result Reply StepFault) (old new : Disks) → AsksNothing outcome × (new ≡ old) → StayUp outcome old new
none_asked outcome old new h = record { tree = inr (ap (λ (d : Disks). d.tree.down) h.1); log = inr (ap (λ (d : Disks). d.log.down) h.1) }

-- A request of a driver, under every plan, leaves each store up that was up, unless a call of its disk failed.
pub request_keeps_up : (s : Shared) (epoch now : ℤ) (payloads : Payloads) (p : Plan) (request : Request) (outcome : Result Reply StepFault) (old new : Disks) → RequestDisks s epoch now payloads p request outcome old new → StayUp outcome old new
request_keeps_up s epoch now payloads p nothing outcome old new h = none_asked outcome old new h
request_keeps_up s epoch now payloads p read_log outcome old new h = log_asked ReadsDisk Done p outcome old new read_keeps h
request_keeps_up s epoch now payloads p (add records) outcome old new h =
    let made = append s.log epoch now records in
    let payload = payloads.log s.log (Append epoch now records) in
    log_asked (ChangesDisk (IsTaken made) payload) (answer_of_made made) p outcome old new (change_keeps made payload) h
request_keeps_up s epoch now payloads p (write ops) outcome old new h =
    let made = multi s.tree ops in
    let payload = payloads.tree s.tree (Multi ops) in
    tree_asked (ChangesDisk (IsTaken made) payload) (answer_of_made made) p outcome old new (change_keeps made payload) h
request_keeps_up s epoch now payloads p request outcome old new h = tree_asked ReadsDisk Done p outcome old new read_keeps h

-- ---- where nothing fails

still_up : (failure outcome : Result Reply StepFault) (old new : Disk) → is_failed_outcome failure ≡ true → is_failed_outcome outcome ≡ false → StaysUpUnless failure outcome old new → old.down ≡ false → new.down ≡ false
still_up failure outcome old new fails fine (inl is) up = let both = ap is_failed_outcome is in absurd (cc)
still_up failure outcome old new fails fine (inr stays) up = stays ∙ up

-- After a step that didn't fail, under every plan, both stores are up if they were.
pub step_keeps_up : (p : Plan) (s : Shared) (now : ℤ) (d : Driver) (payloads : Payloads) (told : Reply) (old new : Disks) → is_failed_step told ≡ false → StepRequestDisks p s now d payloads told old new → AreUp old → AreUp new
step_keeps_up p s now d payloads told old new fine moves up =
    let stay = request_keeps_up s (epoch_or_zero d.epoch) now payloads p (made_request s now d d.stage) (outcome_of told) old new moves in
    let none = failed_by_outcome told ∙ fine in
    record { tree = still_up tree_failed (outcome_of told) old.tree new.tree refl none stay.tree up.tree; log = still_up log_failed (outcome_of told) old.log new.log refl none stay.log up.log }
