-- The facts of a step at each kind of stage, by what its part of the code says.
use Rattle.std.proofs.Common.{◌≡◌, inl, inr, ℕ, ℤ, Bool, true, false, not, List, [], ◌∷◌, Option, Some, None, Result, Ok, Err, refl, sym, ap, ◌∙◌, subst}
use Rattle.std.specs.Prelude.{IfOk, OnErr, if◌then◌else◌}
use Rattle.kz_types.specs.declared.plan.Plan.{Plan}
use Rattle.kz_types.specs.declared.fault.TreeFault.TheVariants as tree_fault
use Rattle.kz_types.specs.declared.fault.LogFault.TheVariants as log_fault
use Rattle.kz_types.specs.declared.driver.ClaimSeen.{ClaimSeen}
use Rattle.kz_types.specs.declared.driver.Stage.{Stage}
use Rattle.kz_types.specs.declared.driver.Stage.TheVariants as stage
use Rattle.kz_types.specs.declared.machine.Reply.{Reply}
use Rattle.kz_types.specs.declared.record.MetaRecord.{MetaRecord}
use Rattle.kz_types.specs.declared.tree.Op.{Op}
use Rattle.kz_types.specs.declared.tree.Row.{Row}
use Rattle.kz_spec_data.specs.Tree.{Tree, multi}
use Rattle.kz_spec_data.specs.Log.{Log, append}
use Rattle.kz_spec_data.specs.Requests.{Disk, Multi, Append, Done, Either, IsTaken, ChangesDisk, ReadsDisk}
use Rattle.kz_spec_data.specs.Translation.{Unreadable, translate}
use Rattle.kz_spec_machine.specs.Driver.{Shared, Driver, Request, nothing, read_log, write, add, is_of_log, is_limit, hearing_of_request, reaches_store, epoch_or_zero, request_at, begin_record, begin_request, next_records, after_records, after_append, after_translation, after_answer, claim_ops, remaining_at, write_request, write_ops, writes, reaches}
use Rattle.kz_connection.specs.Connections.{Wired}
use Rattle.kz_resync.specs.Remainders.{Remainder}
use Rattle.kz_requests.specs.declared.fault.StepFault.{StepFault}
use Rattle.kz_requests.specs.declared.fault.StepFault.TheVariants as step_fault
use Rattle.kz_requests.specs.Fares.{IsHeard, IsCounted, IsAfterRequest, tree_after}
use Rattle.kz_requests.specs.Appends.{log_after}
use Rattle.kz_requests.specs.Disks.{answer_of_made, TreeDisk, LogDisk}
use Rattle.kz_stages.specs.declared.row.DriverRow.{DriverRow}
use Rattle.kz_stages.specs.Rows.{driver_of}
use Rattle.kz_stages.specs.Claims.{claim_outcome, after_claim_outcome}
use Rattle.kz_stages.specs.Disks.{Disks, disks_of, Payloads, AsksNothing, RequestDisks, takes_nothing, IsAnswered}
use Rattle.kz_stages.specs.Drivers.{shared_of}
use Rattle.kz_stages.specs.declared.writing.Scope.{Scope}
use Rattle.kz_stages.specs.declared.writing.Scope.TheVariants.{All, Change}
use Rattle.kz_stages.specs.Migrations.{IsBegun, BeginFares, BeginDisk, BeginStop}
use Rattle.kz_stages.specs.Writes.{more_of, last_of, IsWritten, WriteFares, WriteDisk, WriteStop}
use Rattle.kz_driver.specs.Steps.{AreRemaining, HoldsRemaining, made_request, outcome_of, StepFacts}
use Rattle.kz_driver.proofs.Steps.{claim_is, reads}
use Rattle.kz_driver.proofs.Held.{AreLeft, writes_alike, left_of, tree_alike}
use Rattle.kz_driver.proofs.Told.{told_by, answer_told, writes_told}
use Rattle.kz_driver.proofs.Facts.{RequestFacts, MachineFacts, facts_of, untaken, log_read, IsTreeRead, tree_read, asks_nothing, made_tree, tree_change, log_change}

-- a driver whose parts are as they were
same_driver : {E : Type 0} (outcome : Result Reply E) (old new : DriverRow) → OnErr outcome (new ≡ old) → OnErr outcome (driver_of new ≡ driver_of old)
same_driver (Ok told) old new same = tt
same_driver (Err f) old new same = ap driver_of same

-- A step at a stage whose request this is, with what follows the answer there.
at_stage_facts : (s new : Shared) (running : List ℤ) (now : ℤ) (old-row new-row : DriverRow) (at : Stage) (r : Request) (tree_plan log_plan p : Plan) (outcome : Result Reply StepFault) (payloads : Payloads) (old_disks new_disks : Disks)
    (tree_left : Option Tree → Type 0) (log_left : Option Log → Type 0) (tree new_tree log new_log : ℕ)
    → (driver_of old-row).stage ≡ at → request_at s now (driver_of old-row) at ≡ r → made_request s now (driver_of old-row) at ≡ r → (takes_nothing at ≡ true → IsAnswered outcome)
    → RequestFacts s new (epoch_or_zero old-row.epoch) now tree_plan log_plan p outcome payloads old_disks new_disks tree_left log_left tree new_tree log new_log r
    → IfOk outcome (λ told. after_answer s running now (driver_of old-row) at ≡ (driver_of new-row, told)) → OnErr outcome (new-row ≡ old-row)
    → StepFacts s new running now (driver_of old-row) (driver_of new-row) (if is_of_log (made_request s now (driver_of old-row) (driver_of old-row).stage) then log_plan else tree_plan) outcome payloads old_disks new_disks tree_left log_left tree new_tree log new_log
at_stage_facts s new running now old-row new-row at r tree_plan log_plan p outcome payloads old_disks new_disks tree_left log_left tree new_tree log new_log is asks makes answered facts answer same =
    let d = driver_of old-row in
    let asked : request_at s now d d.stage ≡ r = ap (request_at s now d) is ∙ asks in
    let made : made_request s now d d.stage ≡ r = ap (made_request s now d) is ∙ makes in
    let machine : MachineFacts s new (epoch_or_zero d.epoch) now p outcome r = record { heard = facts.heard; shared = facts.shared } in
    facts_of s new running now d (driver_of new-row) tree_plan log_plan p outcome payloads old_disks new_disks tree_left log_left tree new_tree log new_log
    (subst (λ (q : Request). RequestFacts s new (epoch_or_zero d.epoch) now tree_plan log_plan p outcome payloads old_disks new_disks tree_left log_left tree new_tree log new_log q) (sym made) facts)
    (λ holds. subst (λ (q : Request). MachineFacts s new (epoch_or_zero d.epoch) now p outcome q) (sym asked) machine)
    (λ holds. subst (λ (x : Stage). IfOk outcome (λ told. after_answer s running now d x ≡ (driver_of new-row, told))) (sym is) answer)
    (told_by outcome (after_answer s running now d at) (driver_of new-row) answer (answer_told s running now d at))
    (same_driver outcome old-row new-row same)
    (subst (λ (x : Stage). takes_nothing x ≡ true → IsAnswered outcome) (sym is) answered)

-- the facts of a step at a time are those at the same one
pub at_same_time : (given now : ℤ) → given ≡ now → (tree_plan log_plan : Plan) (s new : Shared) (running : List ℤ) (d e : Driver) (outcome : Result Reply StepFault) (payloads : Payloads) (old_disks new_disks : Disks)
    (tree_left : Option Tree → Type 0) (log_left : Option Log → Type 0) (tree new_tree log new_log : ℕ)
    → StepFacts s new running given d e (if is_of_log (made_request s given d d.stage) then log_plan else tree_plan) outcome payloads old_disks new_disks tree_left log_left tree new_tree log new_log
    → StepFacts s new running now d e (if is_of_log (made_request s now d d.stage) then log_plan else tree_plan) outcome payloads old_disks new_disks tree_left log_left tree new_tree log new_log
at_same_time given now same tree_plan log_plan s new running d e outcome payloads old_disks new_disks tree_left log_left tree new_tree log new_log facts =
    subst (λ (n : ℤ). StepFacts s new running n d e (if is_of_log (made_request s n d d.stage) then log_plan else tree_plan) outcome payloads old_disks new_disks tree_left log_left tree new_tree log new_log) same facts

-- a stage at which the log is read
pub at_log_read : (t : Tree) (l l-new : Log) (ids running : List ℤ) (now : ℤ) (old-row new-row : DriverRow) (at : Stage) (tree_plan p : Plan) (outcome : Result Reply StepFault) (payloads : Payloads) (dt dl dl-new : Disk) (tree_left : Option Tree → Type 0) (log_left : Option Log → Type 0) (tree log new_log : ℕ)
    → (driver_of old-row).stage ≡ at → request_at (shared_of t l ids) now (driver_of old-row) at ≡ read_log → made_request (shared_of t l ids) now (driver_of old-row) at ≡ read_log → takes_nothing at ≡ false → l-new ≡ l
    → IsHeard (hearing_of_request p true false) outcome → IsCounted outcome log new_log → LogDisk ReadsDisk Done p outcome dl dl-new
    → IfOk outcome (λ told. after_answer (shared_of t l ids) running now (driver_of old-row) at ≡ (driver_of new-row, told)) → OnErr outcome (new-row ≡ old-row)
    → StepFacts (shared_of t l ids) (shared_of t l-new ids) running now (driver_of old-row) (driver_of new-row) (if is_of_log (made_request (shared_of t l ids) now (driver_of old-row) (driver_of old-row).stage) then p else tree_plan) outcome payloads (disks_of dt dl) (disks_of dt dl-new) tree_left log_left tree tree log new_log
at_log_read t l l-new ids running now old-row new-row at tree_plan p outcome payloads dt dl dl-new tree_left log_left tree log new_log is asks makes takes same heard counted disk answer unheard =
    at_stage_facts (shared_of t l ids) (shared_of t l-new ids) running now old-row new-row at read_log tree_plan p p outcome payloads (disks_of dt dl) (disks_of dt dl-new) tree_left log_left tree tree log new_log is asks makes (untaken at outcome takes)
    (log_read (shared_of t l ids) (shared_of t l-new ids) (epoch_or_zero old-row.epoch) now tree_plan p outcome payloads dt dl dl-new tree_left log_left tree log new_log (ap (λ (x : Log). shared_of t x ids) same) heard counted disk)
    answer unheard

-- a stage at which the tree is read
pub at_tree_read : (t t-new : Tree) (l : Log) (ids running : List ℤ) (now : ℤ) (old-row new-row : DriverRow) (at : Stage) (r : Request) (p log_plan : Plan) (outcome : Result Reply StepFault) (payloads : Payloads) (dt dt-new dl : Disk) (tree_left : Option Tree → Type 0) (log_left : Option Log → Type 0) (tree new_tree log : ℕ)
    → (driver_of old-row).stage ≡ at → request_at (shared_of t l ids) now (driver_of old-row) at ≡ r → made_request (shared_of t l ids) now (driver_of old-row) at ≡ r → IsTreeRead r → takes_nothing at ≡ false → t-new ≡ t
    → IsHeard (hearing_of_request p false false) outcome → IsCounted outcome tree new_tree → TreeDisk ReadsDisk Done p outcome dt dt-new
    → IfOk outcome (λ told. after_answer (shared_of t l ids) running now (driver_of old-row) at ≡ (driver_of new-row, told)) → OnErr outcome (new-row ≡ old-row)
    → StepFacts (shared_of t l ids) (shared_of t-new l ids) running now (driver_of old-row) (driver_of new-row) (if is_of_log (made_request (shared_of t l ids) now (driver_of old-row) (driver_of old-row).stage) then log_plan else p) outcome payloads (disks_of dt dl) (disks_of dt-new dl) tree_left log_left tree new_tree log log
at_tree_read t t-new l ids running now old-row new-row at r p log_plan outcome payloads dt dt-new dl tree_left log_left tree new_tree log is asks makes reads_tree takes same heard counted disk answer unheard =
    at_stage_facts (shared_of t l ids) (shared_of t-new l ids) running now old-row new-row at r p log_plan p outcome payloads (disks_of dt dl) (disks_of dt-new dl) tree_left log_left tree new_tree log log is asks makes (untaken at outcome takes)
    (tree_read (shared_of t l ids) (shared_of t-new l ids) (epoch_or_zero old-row.epoch) now p log_plan outcome payloads dt dt-new dl tree_left log_left tree new_tree log r reads_tree (ap (λ (x : Tree). shared_of x l ids) same) heard counted disk)
    answer unheard

-- a stage without a request, whose step is answered
pub at_rest : (s : Shared) (running : List ℤ) (now : ℤ) (old-row new-row : DriverRow) (at : Stage) (told : Reply) (p log_plan : Plan) (payloads : Payloads) (disks : Disks) (tree_left : Option Tree → Type 0) (log_left : Option Log → Type 0) (tree log : ℕ)
    → (driver_of old-row).stage ≡ at → request_at s now (driver_of old-row) at ≡ nothing → made_request s now (driver_of old-row) at ≡ nothing → after_answer s running now (driver_of old-row) at ≡ (driver_of new-row, told)
    → StepFacts s s running now (driver_of old-row) (driver_of new-row) (if is_of_log (made_request s now (driver_of old-row) (driver_of old-row).stage) then log_plan else p) (Ok told) payloads disks disks tree_left log_left tree tree log log
at_rest s running now old-row new-row at told p log_plan payloads disks tree_left log_left tree log is asks makes answer =
    at_stage_facts s s running now old-row new-row at nothing p log_plan p (Ok told) payloads disks disks tree_left log_left tree tree log log is asks makes (λ takes. tt)
    (asks_nothing s s (epoch_or_zero old-row.epoch) now p log_plan (Ok told) payloads disks disks tree_left log_left tree log refl refl tt)
    answer tt

-- the claim
pub at_claim : (t t-new : Tree) (l : Log) (ids running : List ℤ) (now : ℤ) (old-row new-row : DriverRow) (seen : ClaimSeen) (p log_plan : Plan) (outcome : Result Reply StepFault) (payloads : Payloads) (dt dt-new dl : Disk) (tree_left : Option Tree → Type 0) (log_left : Option Log → Type 0) (tree new_tree log : ℕ)
    → (driver_of old-row).stage ≡ stage.ClaimLeadership seen
    → IsAfterRequest (reaches p false) (tree_after (multi t (claim_ops seen (driver_of old-row) now)) t) t outcome t-new → IsHeard (hearing_of_request p false false) outcome → IsCounted outcome tree new_tree
    → TreeDisk (ChangesDisk (IsTaken (multi t (claim_ops seen (driver_of old-row) now))) (payloads.tree t (Multi (claim_ops seen (driver_of old-row) now)))) (answer_of_made (multi t (claim_ops seen (driver_of old-row) now))) p outcome dt dt-new
    → (outcome ≡ Err (step_fault.Tree tree_fault.Device) → Either t (if reaches p false then tree_after (multi t (claim_ops seen (driver_of old-row) now)) t else t) tree_left)
    → IfOk outcome (λ told. after_claim_outcome (claim_outcome seen (claim_ops seen (driver_of old-row) now) (multi t (claim_ops seen (driver_of old-row) now))) (driver_of old-row) ≡ (driver_of new-row, told)) → OnErr outcome (new-row ≡ old-row)
    → StepFacts (shared_of t l ids) (shared_of t-new l ids) running now (driver_of old-row) (driver_of new-row) (if is_of_log (made_request (shared_of t l ids) now (driver_of old-row) (driver_of old-row).stage) then log_plan else p) outcome payloads (disks_of dt dl) (disks_of dt-new dl) tree_left log_left tree new_tree log log
at_claim t t-new l ids running now old-row new-row seen p log_plan outcome payloads dt dt-new dl tree_left log_left tree new_tree log is after heard counted disk left answer unheard =
    let d = driver_of old-row in
    let ops = claim_ops seen d now in
    at_stage_facts (shared_of t l ids) (shared_of t-new l ids) running now old-row new-row (stage.ClaimLeadership seen) (write ops) p log_plan p outcome payloads (disks_of dt dl) (disks_of dt-new dl) tree_left log_left tree new_tree log log is refl refl (untaken (stage.ClaimLeadership seen) outcome refl)
    (tree_change (shared_of t l ids) t-new (epoch_or_zero old-row.epoch) now p log_plan outcome payloads dt dt-new dl tree_left log_left tree new_tree log ops after heard counted disk left)
    (claimed outcome answer) unheard
  where
    claimed : (x : Result Reply StepFault) → IfOk x (λ told. after_claim_outcome (claim_outcome seen (claim_ops seen (driver_of old-row) now) (multi t (claim_ops seen (driver_of old-row) now))) (driver_of old-row) ≡ (driver_of new-row, told))
        → IfOk x (λ told. after_answer (shared_of t l ids) running now (driver_of old-row) (stage.ClaimLeadership seen) ≡ (driver_of new-row, told))
    claimed (Ok told) h = claim_is seen (driver_of old-row) (claim_ops seen (driver_of old-row) now) (multi t (claim_ops seen (driver_of old-row) now)) ∙ h
    claimed (Err f) h = tt

-- an append of the records of a migration
pub at_append : (t : Tree) (l l-new : Log) (ids running : List ℤ) (now : ℤ) (old-row new-row : DriverRow) (records : List MetaRecord) (tree_plan p : Plan) (outcome : Result Reply StepFault) (payloads : Payloads) (dt dl dl-new : Disk) (tree_left : Option Tree → Type 0) (log_left : Option Log → Type 0) (tree log new_log : ℕ)
    → (driver_of old-row).stage ≡ stage.AppendRecords records
    → IsAfterRequest (reaches p true) (log_after (append l (epoch_or_zero old-row.epoch) now (next_records records)) l) l outcome l-new → IsHeard (hearing_of_request p true (is_limit (append l (epoch_or_zero old-row.epoch) now (next_records records)))) outcome → IsCounted outcome log new_log
    → LogDisk (ChangesDisk (IsTaken (append l (epoch_or_zero old-row.epoch) now (next_records records))) (payloads.log l (Append (epoch_or_zero old-row.epoch) now (next_records records)))) (answer_of_made (append l (epoch_or_zero old-row.epoch) now (next_records records))) p outcome dl dl-new
    → (outcome ≡ Err (step_fault.Log log_fault.Failed) → Either l (if reaches p true then log_after (append l (epoch_or_zero old-row.epoch) now (next_records records)) l else l) log_left)
    → IfOk outcome (λ told. after_append (after_records records) (driver_of old-row) (append l (epoch_or_zero old-row.epoch) now (next_records records)) ≡ (driver_of new-row, told)) → OnErr outcome (new-row ≡ old-row)
    → StepFacts (shared_of t l ids) (shared_of t l-new ids) running now (driver_of old-row) (driver_of new-row) (if is_of_log (made_request (shared_of t l ids) now (driver_of old-row) (driver_of old-row).stage) then p else tree_plan) outcome payloads (disks_of dt dl) (disks_of dt dl-new) tree_left log_left tree tree log new_log
at_append t l l-new ids running now old-row new-row records tree_plan p outcome payloads dt dl dl-new tree_left log_left tree log new_log is after heard counted disk left answer unheard =
    at_stage_facts (shared_of t l ids) (shared_of t l-new ids) running now old-row new-row (stage.AppendRecords records) (add (next_records records)) tree_plan p p outcome payloads (disks_of dt dl) (disks_of dt dl-new) tree_left log_left tree tree log new_log is refl refl (untaken (stage.AppendRecords records) outcome refl)
    (log_change (shared_of t l ids) l-new (epoch_or_zero old-row.epoch) now tree_plan p outcome payloads dt dl dl-new tree_left log_left tree log new_log (next_records records) after heard counted disk left)
    answer unheard

-- ---- the beginning of a migration

pub at_begin : {L : Type 0} (t : Tree) (l l-new : Log) (ids running : List ℤ) (now : ℤ) (old-row new-row : DriverRow) (rows : List Row) (tree_plan : Plan) (outcome : Result Reply StepFault) (payloads : Payloads) (dt dl dl-new : Disk) (tree_left : Option Tree → Type 0) (log_left : Option Log → Type 0) (tree : ℕ) (wire new_wire : Wired L)
    → (driver_of old-row).stage ≡ stage.BeginMigration rows
    → IsBegun (reaches wire.plan true) l (epoch_or_zero old-row.epoch) now (translate rows) outcome l-new → BeginFares l (epoch_or_zero old-row.epoch) now (translate rows) outcome wire new_wire
    → BeginDisk payloads.log l (epoch_or_zero old-row.epoch) now (translate rows) wire.plan outcome dl dl-new
    → (outcome ≡ Err (step_fault.Log log_fault.Failed) → BeginStop (reaches wire.plan true) l (epoch_or_zero old-row.epoch) now (translate rows) log_left)
    → IfOk outcome (λ told. after_translation (shared_of t l ids) now (driver_of old-row) (translate rows) ≡ (driver_of new-row, told)) → OnErr outcome (new-row ≡ old-row)
    → StepFacts (shared_of t l ids) (shared_of t l-new ids) running now (driver_of old-row) (driver_of new-row) (if is_of_log (made_request (shared_of t l ids) now (driver_of old-row) (driver_of old-row).stage) then wire.plan else tree_plan) outcome payloads (disks_of dt dl) (disks_of dt dl-new) tree_left log_left tree tree wire.faults new_wire.faults
at_begin t l l-new ids running now old-row new-row rows tree_plan outcome payloads dt dl dl-new tree_left log_left tree wire new_wire is begun fares disk left answer unheard =
    by_read (translate rows) refl begun fares disk left answer
  where
    s : Shared
    s = shared_of t l ids

    d : Driver
    d = driver_of old-row

    epoch : ℤ
    epoch = epoch_or_zero old-row.epoch

    answered : (r : Result (List MetaRecord) Unreadable) (x : Result Reply StepFault) → translate rows ≡ r → IfOk x (λ told. after_translation s now d r ≡ (driver_of new-row, told)) → IfOk x (λ told. after_answer s running now d (stage.BeginMigration rows) ≡ (driver_of new-row, told))
    answered r (Ok told) read h = ap (after_translation s now d) read ∙ h
    answered r (Err f) read h = tt

    by_read : (r : Result (List MetaRecord) Unreadable) → translate rows ≡ r → IsBegun (reaches wire.plan true) l epoch now r outcome l-new → BeginFares l epoch now r outcome wire new_wire → BeginDisk payloads.log l epoch now r wire.plan outcome dl dl-new
        → (outcome ≡ Err (step_fault.Log log_fault.Failed) → BeginStop (reaches wire.plan true) l epoch now r log_left) → IfOk outcome (λ told. after_translation s now d r ≡ (driver_of new-row, told))
        → StepFacts s (shared_of t l-new ids) running now d (driver_of new-row) (if is_of_log (made_request s now d d.stage) then wire.plan else tree_plan) outcome payloads (disks_of dt dl) (disks_of dt dl-new) tree_left log_left tree tree wire.faults new_wire.faults
    by_read (Ok records) read made fared touched leaves said =
        at_stage_facts s (shared_of t l-new ids) running now old-row new-row (stage.BeginMigration rows) (add (begin_record ∷ [])) tree_plan wire.plan wire.plan outcome payloads (disks_of dt dl) (disks_of dt dl-new) tree_left log_left tree tree wire.faults new_wire.faults is (ap begin_request read) (ap begin_request read) (untaken (stage.BeginMigration rows) outcome refl)
        (log_change s l-new epoch now tree_plan wire.plan outcome payloads dt dl dl-new tree_left log_left tree wire.faults new_wire.faults (begin_record ∷ []) made fared.heard fared.counted touched leaves)
        (answered (Ok records) outcome read said) unheard
    by_read (Err e) read made fared touched leaves said =
        at_stage_facts s (shared_of t l-new ids) running now old-row new-row (stage.BeginMigration rows) nothing tree_plan wire.plan tree_plan outcome payloads (disks_of dt dl) (disks_of dt dl-new) tree_left log_left tree tree wire.faults new_wire.faults is (ap begin_request read) (ap begin_request read) (untaken (stage.BeginMigration rows) outcome refl)
        (subst (λ (n : ℕ). RequestFacts s (shared_of t l-new ids) epoch now tree_plan wire.plan tree_plan outcome payloads (disks_of dt dl) (disks_of dt dl-new) tree_left log_left tree tree wire.faults n nothing) (sym (ap (λ (w : Wired _). w.faults) fared.1))
        (asks_nothing s (shared_of t l-new ids) epoch now tree_plan wire.plan outcome payloads (disks_of dt dl) (disks_of dt dl-new) tree_left log_left tree wire.faults (ap (λ (x : Log). shared_of t x ids) made) (ap (disks_of dt) touched.1) touched.0))
        (answered (Err e) outcome read said) unheard

-- ---- a write

pub at_write : {T : Type 0} (scope : Scope) (r : Remainder) (t t-new : Tree) (l : Log) (ids running : List ℤ) (now : ℤ) (old-row new-row : DriverRow) (log_plan : Plan) (outcome : Result Reply StepFault) (payloads : Payloads) (dt dt-new dl : Disk) (tree_left : Option Tree → Type 0) (log_left : Option Log → Type 0) (wire new_wire : Wired T) (log : ℕ)
    → (driver_of old-row).stage ≡ more_of scope r.target r.ops
    → IsWritten (reaches wire.plan false) t old-row.claim r outcome t-new → WriteFares old-row.claim outcome wire new_wire → WriteDisk payloads.tree t old-row.claim r wire.plan outcome dt dt-new
    → (outcome ≡ Err (step_fault.Tree tree_fault.Device) → WriteStop (reaches wire.plan false) t old-row.claim r tree_left)
    → IfOk outcome (λ told. writes t old-row.claim r.ops r.target (λ rest. more_of scope r.target rest) (last_of scope) (driver_of old-row) ≡ (driver_of new-row, told)) → OnErr outcome (new-row ≡ old-row)
    → StepFacts (shared_of t l ids) (shared_of t-new l ids) running now (driver_of old-row) (driver_of new-row) (if is_of_log (made_request (shared_of t l ids) now (driver_of old-row) (driver_of old-row).stage) then log_plan else wire.plan) outcome payloads (disks_of dt dl) (disks_of dt-new dl) tree_left log_left wire.faults new_wire.faults log log
at_write scope r t t-new l ids running now old-row new-row log_plan outcome payloads dt dt-new dl tree_left log_left wire new_wire log is written fares disk left answer unheard =
    facts_of s new running now d (driver_of new-row) wire.plan log_plan wire.plan outcome payloads (disks_of dt dl) (disks_of dt-new dl) tree_left log_left wire.faults new_wire.faults log log
    (subst (λ (q : Request). RequestFacts s new (epoch_or_zero d.epoch) now wire.plan log_plan wire.plan outcome payloads (disks_of dt dl) (disks_of dt-new dl) tree_left log_left wire.faults new_wire.faults log log q) (sym made)
    (by_claim old-row.claim written fares disk left))
    (λ holds. subst (λ (q : Request). MachineFacts s new (epoch_or_zero d.epoch) now wire.plan outcome q) (sym asked)
    (machine old-row.claim (tree_alike (reaches wire.plan false) t old-row.claim r rest outcome t-new (are_left holds) written) fares))
    (λ holds. subst (λ (x : Stage). IfOk outcome (λ told. after_answer s running now d x ≡ (driver_of new-row, told))) (sym is) (said (are_left holds) outcome answer))
    (told_by outcome (writes t old-row.claim r.ops r.target (λ more. more_of scope r.target more) (last_of scope) d) (driver_of new-row) answer (writes_told t old-row.claim r.ops r.target (λ more. more_of scope r.target more) (last_of scope) d))
    (same_driver outcome old-row new-row unheard)
    (subst (λ (x : Stage). takes_nothing x ≡ true → IsAnswered outcome) (sym is) (untaken (more_of scope r.target r.ops) outcome (takes scope)))
  where
    s : Shared
    s = shared_of t l ids

    new : Shared
    new = shared_of t-new l ids

    d : Driver
    d = driver_of old-row

    rest : List Op
    rest = remaining_at t l r.target.offset

    takes : (x : Scope) → takes_nothing (more_of x r.target r.ops) ≡ false
    takes All = refl
    takes Change = refl

    asks : (x : Scope) → request_at s now d (more_of x r.target r.ops) ≡ write_request old-row.claim rest r.target
    asks All = refl
    asks Change = refl

    asked : request_at s now d d.stage ≡ write_request old-row.claim rest r.target
    asked = ap (request_at s now d) is ∙ asks scope

    makes : (x : Scope) → made_request s now d (more_of x r.target r.ops) ≡ write_request old-row.claim r.ops r.target
    makes All = refl
    makes Change = refl

    made : made_request s now d d.stage ≡ write_request old-row.claim r.ops r.target
    made = ap (made_request s now d) is ∙ makes scope

    of_scope : (x : Scope) → AreRemaining s (more_of x r.target r.ops) → r.ops ≡ rest
    of_scope All h = h
    of_scope Change h = h

    are_left : HoldsRemaining s d → AreLeft t old-row.claim r.ops rest
    are_left holds claim by passes = of_scope scope (subst (AreRemaining s) is (holds claim by passes))

    answers : (x : Scope) → after_answer s running now d (more_of x r.target r.ops) ≡ writes t old-row.claim rest r.target (λ more. more_of x r.target more) (last_of x) d
    answers All = refl
    answers Change = refl

    said : AreLeft t old-row.claim r.ops rest → (x : Result Reply StepFault) → IfOk x (λ told. writes t old-row.claim r.ops r.target (λ more. more_of scope r.target more) (last_of scope) d ≡ (driver_of new-row, told))
        → IfOk x (λ told. after_answer s running now d (more_of scope r.target r.ops) ≡ (driver_of new-row, told))
    said same (Ok told) h = answers scope ∙ (writes_alike t old-row.claim r.ops rest r.target (λ more. more_of scope r.target more) (last_of scope) d same ∙ h)
    said same (Err f) h = tt

    machine : (claim : Option ℤ) → IsWritten (reaches wire.plan false) t claim (left_of rest r) outcome t-new → WriteFares claim outcome wire new_wire → MachineFacts s new (epoch_or_zero d.epoch) now wire.plan outcome (write_request claim rest r.target)
    machine None after fared = record { heard = fared.0; shared = reads (reaches_store wire.plan nothing) s new outcome (ap (λ (x : Tree). shared_of x l ids) after) }
    machine (Some claim) after fared = record { heard = fared.heard; shared = made_tree s (reaches wire.plan false) (write_ops claim rest r.target) outcome t-new after }

    by_claim : (claim : Option ℤ) → IsWritten (reaches wire.plan false) t claim r outcome t-new → WriteFares claim outcome wire new_wire → WriteDisk payloads.tree t claim r wire.plan outcome dt dt-new
        → (outcome ≡ Err (step_fault.Tree tree_fault.Device) → WriteStop (reaches wire.plan false) t claim r tree_left)
        → RequestFacts s new (epoch_or_zero d.epoch) now wire.plan log_plan wire.plan outcome payloads (disks_of dt dl) (disks_of dt-new dl) tree_left log_left wire.faults new_wire.faults log log (write_request claim r.ops r.target)
    by_claim None after fared touched leaves =
        subst (λ (n : ℕ). RequestFacts s new (epoch_or_zero d.epoch) now wire.plan log_plan wire.plan outcome payloads (disks_of dt dl) (disks_of dt-new dl) tree_left log_left wire.faults n log log nothing) (sym (ap (λ (w : Wired _). w.faults) fared.1))
        (asks_nothing s new (epoch_or_zero d.epoch) now wire.plan log_plan outcome payloads (disks_of dt dl) (disks_of dt-new dl) tree_left log_left wire.faults log (ap (λ (x : Tree). shared_of x l ids) after) (ap (λ (x : Disk). disks_of x dl) touched.1) touched.0)
    by_claim (Some claim) after fared touched leaves =
        tree_change s t-new (epoch_or_zero d.epoch) now wire.plan log_plan outcome payloads dt dt-new dl tree_left log_left wire.faults new_wire.faults log (write_ops claim r.ops r.target) after fared.heard fared.counted touched leaves
