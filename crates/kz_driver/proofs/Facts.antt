-- The facts of a step, by the kind of its request.
use Rattle.std.proofs.Common.{◌≡◌, inl, inr, ℕ, ℤ, Bool, true, false, not, List, Option, Some, None, Result, Ok, Err, refl, sym, ap, ◌∙◌, subst}
use Rattle.std.specs.Prelude.{⊤, IfOk, OnErr, if◌then◌else◌}
use Rattle.kz_types.specs.declared.plan.Plan.{Plan}
use Rattle.kz_types.specs.declared.plan.Plan.TheVariants as plan
use Rattle.kz_types.specs.declared.fault.TreeFault.TheVariants as tree_fault
use Rattle.kz_types.specs.declared.fault.LogFault.TheVariants as log_fault
use Rattle.kz_types.specs.declared.driver.Stage.{Stage}
use Rattle.kz_types.specs.declared.machine.Reply.{Reply}
use Rattle.kz_types.specs.declared.record.MetaRecord.{MetaRecord}
use Rattle.kz_types.specs.declared.tree.Op.{Op}
use Rattle.kz_spec_data.specs.Tree.{Tree, multi}
use Rattle.kz_spec_data.specs.Log.{Log, append}
use Rattle.kz_spec_data.specs.Requests.{Disk, StoreAnswer, Multi, Append, Done, Either, IsTaken, ChangesDisk, ReadsDisk}
use Rattle.kz_spec_machine.specs.Driver.{Shared, Driver, Request, nothing, read_log, list_brokers, look_up, read_page, write, add, is_of_log, is_limit, hearing, hearing_of_request, hears_answer, epoch_or_zero, request_at, reaches, reaches_store, shared_after, with_tree, after_answer}
use Rattle.kz_requests.specs.declared.fault.StepFault.{StepFault}
use Rattle.kz_requests.specs.declared.fault.StepFault.TheVariants as step_fault
use Rattle.kz_requests.specs.Fares.{IsHeard, IsCounted, IsAfterRequest, tree_after}
use Rattle.kz_requests.specs.Appends.{log_after}
use Rattle.kz_requests.specs.Disks.{answer_of_made, TreeDisk, LogDisk}
use Rattle.kz_stages.specs.Disks.{Disks, disks_of, Payloads, AsksNothing, RequestDisks, takes_nothing, IsAnswered, StepLeaves}
use Rattle.kz_stages.specs.Drivers.{shared_of}
use Rattle.kz_driver.specs.Steps.{HoldsRemaining, made_request, shared_by_plan, outcome_of, IsStepBy, IsUntouched, OnFailure, CountsBy, StepFacts}
use Rattle.kz_driver.proofs.Steps.{step_by, reads, of_store, tree_made, log_made}

-- ---- outcomes

-- what holds anyway holds where a store failed
pub on_failure : {P : Type 0} (outcome : Result Reply StepFault) → P → OnFailure outcome P
on_failure (Ok told) h = tt
on_failure (Err step_fault.Lost) h = tt
on_failure (Err step_fault.Expired) h = tt
on_failure (Err (step_fault.Tree f)) h = h
on_failure (Err (step_fault.Log f)) h = h
on_failure (Err step_fault.NoMemory) h = h

-- a request that failed leaves what its store held
pub untouched : {V : Type 0} (outcome : Result Reply StepFault) (b : Bool) (made old new : V) → IsAfterRequest b made old outcome new → OnFailure outcome (new ≡ old)
untouched (Ok told) b made old new h = tt
untouched (Err step_fault.Lost) b made old new h = tt
untouched (Err step_fault.Expired) b made old new h = tt
untouched (Err (step_fault.Tree f)) b made old new h = h
untouched (Err (step_fault.Log f)) b made old new h = h
untouched (Err step_fault.NoMemory) b made old new h = h

pub untaken : (at : Stage) (outcome : Result Reply StepFault) → takes_nothing at ≡ false → takes_nothing at ≡ true → IsAnswered outcome
untaken at outcome isnt is = absurd (let both : false ≡ true = sym isnt ∙ is in cc)

-- ---- what a stop leaves

tree_read_leaves : (p : Plan) (outcome : Result Reply StepFault) (before after : Shared) (tree_left : Option Tree → Type 0) (log_left : Option Log → Type 0) (old new : Disk) → TreeDisk ReadsDisk Done p outcome old new → StepLeaves outcome before after tree_left log_left
tree_read_leaves plan.Deliver (Err (step_fault.Tree tree_fault.Device)) before after tree_left log_left old new h = absurd h.2
tree_read_leaves plan.LostBefore (Err (step_fault.Tree tree_fault.Device)) before after tree_left log_left old new h = let never = h.0 in absurd (cc)
tree_read_leaves plan.LostAfter (Err (step_fault.Tree tree_fault.Device)) before after tree_left log_left old new h = absurd h.2
tree_read_leaves plan.Expired (Err (step_fault.Tree tree_fault.Device)) before after tree_left log_left old new h = let never = h.0 in absurd (cc)
tree_read_leaves p (Err (step_fault.Log log_fault.Failed)) before after tree_left log_left old new h = absurd h
tree_read_leaves p outcome before after tree_left log_left old new h = tt

log_read_leaves : (p : Plan) (outcome : Result Reply StepFault) (before after : Shared) (tree_left : Option Tree → Type 0) (log_left : Option Log → Type 0) (old new : Disk) → LogDisk ReadsDisk Done p outcome old new → StepLeaves outcome before after tree_left log_left
log_read_leaves p (Err (step_fault.Tree tree_fault.Device)) before after tree_left log_left old new h = absurd h
log_read_leaves plan.Deliver (Err (step_fault.Log log_fault.Failed)) before after tree_left log_left old new h = absurd h.2
log_read_leaves plan.LostBefore (Err (step_fault.Log log_fault.Failed)) before after tree_left log_left old new h = let never = h.0 in absurd (cc)
log_read_leaves plan.LostAfter (Err (step_fault.Log log_fault.Failed)) before after tree_left log_left old new h = absurd h.2
log_read_leaves plan.Expired (Err (step_fault.Log log_fault.Failed)) before after tree_left log_left old new h = absurd h.2
log_read_leaves p outcome before after tree_left log_left old new h = tt

tree_change_leaves : (Changes : StoreAnswer → Disk → Disk → Type 0) (said : StoreAnswer) (p : Plan) (outcome : Result Reply StepFault) (before after : Shared) (tree_left : Option Tree → Type 0) (log_left : Option Log → Type 0) (old new : Disk) → TreeDisk Changes said p outcome old new
    → (outcome ≡ Err (step_fault.Tree tree_fault.Device) → Either before.tree after.tree tree_left) → StepLeaves outcome before after tree_left log_left
tree_change_leaves Changes said p (Err (step_fault.Tree tree_fault.Device)) before after tree_left log_left old new h left = left refl
tree_change_leaves Changes said p (Err (step_fault.Log log_fault.Failed)) before after tree_left log_left old new h left = absurd h
tree_change_leaves Changes said p outcome before after tree_left log_left old new h left = tt

log_change_leaves : (Changes : StoreAnswer → Disk → Disk → Type 0) (said : StoreAnswer) (p : Plan) (outcome : Result Reply StepFault) (before after : Shared) (tree_left : Option Tree → Type 0) (log_left : Option Log → Type 0) (old new : Disk) → LogDisk Changes said p outcome old new
    → (outcome ≡ Err (step_fault.Log log_fault.Failed) → Either before.log after.log log_left) → StepLeaves outcome before after tree_left log_left
log_change_leaves Changes said p (Err (step_fault.Tree tree_fault.Device)) before after tree_left log_left old new h left = absurd h
log_change_leaves Changes said p (Err (step_fault.Log log_fault.Failed)) before after tree_left log_left old new h left = left refl
log_change_leaves Changes said p outcome before after tree_left log_left old new h left = tt

nothing_leaves : (outcome : Result Reply StepFault) (before after : Shared) (tree_left : Option Tree → Type 0) (log_left : Option Log → Type 0) → AsksNothing outcome → StepLeaves outcome before after tree_left log_left
nothing_leaves (Err (step_fault.Tree tree_fault.Device)) before after tree_left log_left h = absurd h
nothing_leaves (Err (step_fault.Log log_fault.Failed)) before after tree_left log_left h = absurd h
nothing_leaves outcome before after tree_left log_left h = tt

-- ---- what is told of a request

-- The facts of a request that is made, and that fares by one of these plans, of a driver of this epoch.
pub record RequestFacts (s new : Shared) (epoch now : ℤ) (tree_plan log_plan p : Plan) (outcome : Result Reply StepFault) (payloads : Payloads) (old_disks new_disks : Disks)
    (tree_left : Option Tree → Type 0) (log_left : Option Log → Type 0) (tree new_tree log new_log : ℕ) (r : Request) : Type 0 where
  pub of_store : (if is_of_log r then log_plan else tree_plan) ≡ p
  pub heard : IsHeard (hearing p s epoch now r) outcome
  pub shared : IsAfterRequest (reaches_store p r) (shared_after s epoch now r) s outcome new
  pub disks : RequestDisks s epoch now payloads p r outcome old_disks new_disks
  pub left : StepLeaves outcome s (shared_by_plan p s epoch now r) tree_left log_left
  pub counts : CountsBy r outcome tree new_tree log new_log

-- what a request of the definitions asks of the same step
pub record MachineFacts (s new : Shared) (epoch now : ℤ) (p : Plan) (outcome : Result Reply StepFault) (r : Request) : Type 0 where
  pub heard : IsHeard (hearing p s epoch now r) outcome
  pub shared : IsAfterRequest (reaches_store p r) (shared_after s epoch now r) s outcome new

-- The facts of a step are those of its request, with what follows the answer.
pub facts_of : (s new : Shared) (running : List ℤ) (now : ℤ) (d e : Driver) (tree_plan log_plan p : Plan) (outcome : Result Reply StepFault) (payloads : Payloads) (old_disks new_disks : Disks)
    (tree_left : Option Tree → Type 0) (log_left : Option Log → Type 0) (tree new_tree log new_log : ℕ)
    → RequestFacts s new (epoch_or_zero d.epoch) now tree_plan log_plan p outcome payloads old_disks new_disks tree_left log_left tree new_tree log new_log (made_request s now d d.stage)
    → (HoldsRemaining s d → MachineFacts s new (epoch_or_zero d.epoch) now p outcome (request_at s now d d.stage))
    → (HoldsRemaining s d → IfOk outcome (λ told. after_answer s running now d d.stage ≡ (e, told))) → IfOk outcome (λ told. outcome_of told ≡ Ok told) → OnErr outcome (e ≡ d) → (takes_nothing d.stage ≡ true → IsAnswered outcome)
    → StepFacts s new running now d e (if is_of_log (made_request s now d d.stage) then log_plan else tree_plan) outcome payloads old_disks new_disks tree_left log_left tree new_tree log new_log
facts_of s new running now d e tree_plan log_plan p outcome payloads old_disks new_disks tree_left log_left tree new_tree log new_log facts machine answer told unheard answered =
    let r = made_request s now d d.stage in
    record {
      step = λ holds. subst (λ (x : Plan). IsStepBy x s running now d outcome new e) (sym facts.of_store) (step_by p s new running now d e outcome (machine holds).heard (answer holds) unheard (machine holds).shared);
      unheard = unheard;
      failed = untouched outcome (reaches_store p r) (shared_after s (epoch_or_zero d.epoch) now r) s new facts.shared;
      told = told;
      disks = subst (λ (x : Plan). RequestDisks s (epoch_or_zero d.epoch) now payloads x r outcome old_disks new_disks) (sym facts.of_store) facts.disks;
      answered = answered;
      stop = subst (λ (x : Plan). StepLeaves outcome s (shared_by_plan x s (epoch_or_zero d.epoch) now r) tree_left log_left) (sym facts.of_store) facts.left;
      counts = facts.counts;
    }

-- ---- by the kind of the request

-- the log is read
pub log_read : (s new : Shared) (epoch now : ℤ) (tree_plan p : Plan) (outcome : Result Reply StepFault) (payloads : Payloads) (dt dl dl-new : Disk) (tree_left : Option Tree → Type 0) (log_left : Option Log → Type 0) (tree log new_log : ℕ)
    → new ≡ s → IsHeard (hearing_of_request p true false) outcome → IsCounted outcome log new_log → LogDisk ReadsDisk Done p outcome dl dl-new
    → RequestFacts s new epoch now tree_plan p p outcome payloads (disks_of dt dl) (disks_of dt dl-new) tree_left log_left tree tree log new_log read_log
log_read s new epoch now tree_plan p outcome payloads dt dl dl-new tree_left log_left tree log new_log same heard counted disk = record {
  of_store = refl;
  heard = heard;
  shared = reads (reaches_store p read_log) s new outcome same;
  disks = (disk, refl);
  left = log_read_leaves p outcome s (if reaches_store p read_log then s else s) tree_left log_left dl dl-new disk;
  counts = (refl, counted);
}

-- the tree is read
abbrev pub IsTreeRead : Request → Type 0
IsTreeRead list_brokers = ⊤
IsTreeRead look_up = ⊤
IsTreeRead (read_page after) = ⊤
IsTreeRead r = ⊥

pub tree_read : (s new : Shared) (epoch now : ℤ) (p log_plan : Plan) (outcome : Result Reply StepFault) (payloads : Payloads) (dt dt-new dl : Disk) (tree_left : Option Tree → Type 0) (log_left : Option Log → Type 0) (tree new_tree log : ℕ) (r : Request) → IsTreeRead r
    → new ≡ s → IsHeard (hearing_of_request p false false) outcome → IsCounted outcome tree new_tree → TreeDisk ReadsDisk Done p outcome dt dt-new
    → RequestFacts s new epoch now p log_plan p outcome payloads (disks_of dt dl) (disks_of dt-new dl) tree_left log_left tree new_tree log log r
tree_read s new epoch now p log_plan outcome payloads dt dt-new dl tree_left log_left tree new_tree log list_brokers is same heard counted disk = record {
  of_store = refl;
  heard = heard;
  shared = reads (reaches_store p list_brokers) s new outcome same;
  disks = (disk, refl);
  left = tree_read_leaves p outcome s (if reaches_store p list_brokers then s else s) tree_left log_left dt dt-new disk;
  counts = (counted, refl);
}
tree_read s new epoch now p log_plan outcome payloads dt dt-new dl tree_left log_left tree new_tree log look_up is same heard counted disk = record {
  of_store = refl;
  heard = heard;
  shared = reads (reaches_store p look_up) s new outcome same;
  disks = (disk, refl);
  left = tree_read_leaves p outcome s (if reaches_store p look_up then s else s) tree_left log_left dt dt-new disk;
  counts = (counted, refl);
}
tree_read s new epoch now p log_plan outcome payloads dt dt-new dl tree_left log_left tree new_tree log (read_page after) is same heard counted disk = record {
  of_store = refl;
  heard = heard;
  shared = reads (reaches_store p (read_page after)) s new outcome same;
  disks = (disk, refl);
  left = tree_read_leaves p outcome s (if reaches_store p (read_page after) then s else s) tree_left log_left dt dt-new disk;
  counts = (counted, refl);
}
tree_read s new epoch now p log_plan outcome payloads dt dt-new dl tree_left log_left tree new_tree log r is same heard counted disk = absurd is

-- no store is asked
pub asks_nothing : (s new : Shared) (epoch now : ℤ) (p log_plan : Plan) (outcome : Result Reply StepFault) (payloads : Payloads) (old new_disks : Disks) (tree_left : Option Tree → Type 0) (log_left : Option Log → Type 0) (tree log : ℕ)
    → new ≡ s → new_disks ≡ old → AsksNothing outcome
    → RequestFacts s new epoch now p log_plan p outcome payloads old new_disks tree_left log_left tree tree log log nothing
asks_nothing s new epoch now p log_plan outcome payloads old new_disks tree_left log_left tree log same untouched_disks none = record {
  of_store = refl;
  heard = heard_of_none outcome none;
  shared = reads (reaches_store p nothing) s new outcome same;
  disks = (none, untouched_disks);
  left = nothing_leaves outcome s (if reaches_store p nothing then s else s) tree_left log_left none;
  counts = (uncounted outcome none, refl);
}
  where
    heard_of_none : (x : Result Reply StepFault) → AsksNothing x → IsHeard hears_answer x
    heard_of_none (Ok told) h = refl
    heard_of_none (Err step_fault.NoMemory) h = tt
    heard_of_none x h = absurd h

    uncounted : (x : Result Reply StepFault) → AsksNothing x → IsCounted x tree tree
    uncounted (Ok told) h = refl
    uncounted (Err step_fault.NoMemory) h = refl
    uncounted x h = absurd h

-- what is shared after a multi
pub made_tree : (s : Shared) (b : Bool) (ops : List Op) (outcome : Result Reply StepFault) (new : Tree) → IsAfterRequest b (tree_after (multi s.tree ops) s.tree) s.tree outcome new
    → IsAfterRequest b (with_tree s (multi s.tree ops)) s outcome (record s { tree = new })
made_tree s b ops outcome new h =
    subst (λ (made : Shared). IsAfterRequest b made s outcome (record s { tree = new })) (sym (tree_made s (multi s.tree ops)))
    (of_store (λ (t : Tree). record s { tree = t }) b (tree_after (multi s.tree ops) s.tree) s.tree outcome new h)

-- the tree is asked for a multi
pub tree_change : (s : Shared) (new : Tree) (epoch now : ℤ) (p log_plan : Plan) (outcome : Result Reply StepFault) (payloads : Payloads) (dt dt-new dl : Disk) (tree_left : Option Tree → Type 0) (log_left : Option Log → Type 0) (tree new_tree log : ℕ) (ops : List Op)
    → IsAfterRequest (reaches p false) (tree_after (multi s.tree ops) s.tree) s.tree outcome new → IsHeard (hearing_of_request p false false) outcome → IsCounted outcome tree new_tree
    → TreeDisk (ChangesDisk (IsTaken (multi s.tree ops)) (payloads.tree s.tree (Multi ops))) (answer_of_made (multi s.tree ops)) p outcome dt dt-new
    → (outcome ≡ Err (step_fault.Tree tree_fault.Device) → Either s.tree (if reaches p false then tree_after (multi s.tree ops) s.tree else s.tree) tree_left)
    → RequestFacts s (record s { tree = new }) epoch now p log_plan p outcome payloads (disks_of dt dl) (disks_of dt-new dl) tree_left log_left tree new_tree log log (write ops)
tree_change s new epoch now p log_plan outcome payloads dt dt-new dl tree_left log_left tree new_tree log ops after heard counted disk left = record {
  of_store = refl;
  heard = heard;
  shared = made_tree s (reaches p false) ops outcome new after;
  disks = (disk, refl);
  left = tree_change_leaves _ _ p outcome s (if reaches_store p (write ops) then shared_after s epoch now (write ops) else s) tree_left log_left dt dt-new disk (λ is. subst (λ (t : Tree). Either s.tree t tree_left) (made_left p) (left is));
  counts = (counted, refl);
}
  where
    made : tree_after (multi s.tree ops) s.tree ≡ (shared_after s epoch now (write ops)).tree
    made = ap (λ (x : Shared). x.tree) (sym (tree_made s (multi s.tree ops)))

    made_left : (x : Plan) → (if reaches x false then tree_after (multi s.tree ops) s.tree else s.tree) ≡ (if reaches_store x (write ops) then shared_after s epoch now (write ops) else s).tree
    made_left plan.Deliver = made
    made_left plan.LostBefore = refl
    made_left plan.LostAfter = made
    made_left plan.Expired = refl

-- the log is asked for an append
pub log_change : (s : Shared) (new : Log) (epoch now : ℤ) (tree_plan p : Plan) (outcome : Result Reply StepFault) (payloads : Payloads) (dt dl dl-new : Disk) (tree_left : Option Tree → Type 0) (log_left : Option Log → Type 0) (tree log new_log : ℕ) (records : List MetaRecord)
    → IsAfterRequest (reaches p true) (log_after (append s.log epoch now records) s.log) s.log outcome new → IsHeard (hearing_of_request p true (is_limit (append s.log epoch now records))) outcome → IsCounted outcome log new_log
    → LogDisk (ChangesDisk (IsTaken (append s.log epoch now records)) (payloads.log s.log (Append epoch now records))) (answer_of_made (append s.log epoch now records)) p outcome dl dl-new
    → (outcome ≡ Err (step_fault.Log log_fault.Failed) → Either s.log (if reaches p true then log_after (append s.log epoch now records) s.log else s.log) log_left)
    → RequestFacts s (record s { log = new }) epoch now tree_plan p p outcome payloads (disks_of dt dl) (disks_of dt dl-new) tree_left log_left tree tree log new_log (add records)
log_change s new epoch now tree_plan p outcome payloads dt dl dl-new tree_left log_left tree log new_log records after heard counted disk left = record {
  of_store = refl;
  heard = heard;
  shared = subst (λ (made : Shared). IsAfterRequest (reaches p true) made s outcome (record s { log = new })) (sym (log_made s (append s.log epoch now records)))
      (of_store (λ (l : Log). record s { log = l }) (reaches p true) (log_after (append s.log epoch now records) s.log) s.log outcome new after);
  disks = (disk, refl);
  left = log_change_leaves _ _ p outcome s (if reaches_store p (add records) then shared_after s epoch now (add records) else s) tree_left log_left dl dl-new disk (λ is. subst (λ (l : Log). Either s.log l log_left) (made_left p) (left is));
  counts = (refl, counted);
}
  where
    made : log_after (append s.log epoch now records) s.log ≡ (shared_after s epoch now (add records)).log
    made = ap (λ (x : Shared). x.log) (sym (log_made s (append s.log epoch now records)))

    made_left : (x : Plan) → (if reaches x true then log_after (append s.log epoch now records) s.log else s.log) ≡ (if reaches_store x (add records) then shared_after s epoch now (add records) else s).log
    made_left plan.Deliver = made
    made_left plan.LostBefore = refl
    made_left plan.LostAfter = made
    made_left plan.Expired = made
