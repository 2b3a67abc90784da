-- Each path after a step.
use Rattle.std.proofs.Common.{◌≡◌, ℤ, Bool, true, false, if◌then◌else◌, List, [], ◌∷◌, take, Option, Some, None, refl, sym, subst}
use Rattle.std.specs.Prelude.{Result, Ok, Err}
use Rattle.kz_types.specs.declared.limits.TheConstants.{MAX_APPEND_RECORDS}
use Rattle.kz_types.specs.declared.tree.Row.{Row}
use Rattle.kz_types.specs.declared.tree.Op.{Op}
use Rattle.kz_types.specs.declared.tree.Rendered.{Rendered}
use Rattle.kz_types.specs.declared.driver.ClaimSeen.{ClaimSeen}
use Rattle.kz_types.specs.declared.driver.Stage.{Stage}
use Rattle.kz_types.specs.declared.driver.Stage.TheVariants as stage
use Rattle.kz_types.specs.declared.fault.TreeFault.{TreeFault}
use Rattle.kz_types.specs.declared.fault.LogFault.{LogFault}
use Rattle.kz_types.specs.declared.machine.Recorded.{Recorded}
use Rattle.kz_types.specs.declared.plan.Plan.{Plan}
use Rattle.kz_types.specs.declared.record.MetaRecord.{MetaRecord}
use Rattle.kz_spec_data.specs.Tree.{Tree, multi, migration_record}
use Rattle.kz_spec_data.specs.Log.{Log, append}
use Rattle.kz_spec_data.specs.Translation.{Unreadable, translate}
use Rattle.kz_spec_machine.specs.Driver.{Shared, Driver, epoch_or_zero, claim_ops, remaining_at, write_ops, begin_record, commit_records, begin_request, write_request, request_at, with_tree, with_log, shared_after, reaches_store, planned_step}
use Rattle.kz_spec_machine.specs.Sound.{IsTime, IsSharedSound, IsSoundDriver}
use Rattle.kz_laws_machine.proofs.Beside.{claim_leaves}
use Rattle.kz_laws_events.specs.Steps.{WritesTo}
use Rattle.kz_laws_events.proofs.Claiming.{Taken, taken}
use Rattle.kz_laws_events.proofs.Written.{took}
use Rattle.kz_laws_events.proofs.Uncommitted.{IsUnmigratedBatch}
use Rattle.kz_laws_events.proofs.Filling.{begun_log, appended_log}
use Rattle.kz_laws_events.proofs.Committed.{IsReady, ready, unmigrated, offset_by}
use Rattle.kz_laws_agreement.specs.Agreement.{PathsAgree, source_after}
use Rattle.kz_laws_agreement.proofs.Effects.{nothing_owed, same_agrees, left_agrees, written_agrees, commit_agrees}

abbrev Agrees : List Rendered → Shared → Shared → Type 0
Agrees source s new = PathsAgree (source_after source s) new

-- ---- a claim

claim_agrees : (source : List Rendered) (s : Shared) (now : ℤ) (d : Driver) (seen : ClaimSeen) (r : Result Tree TreeFault) → multi s.tree (claim_ops seen d now) ≡ r → IsTime now → IsSharedSound s → IsSoundDriver s d → d.stage ≡ stage.ClaimLeadership seen → PathsAgree source s → Agrees source s (with_tree s r)
claim_agrees source s now d seen (Ok t) is time kept fine at agrees =
    let k : Taken s d seen t = taken s d seen now t time kept fine at is in
    left_agrees source s t (λ migrated. let left = claim_leaves s.tree t seen d now kept.tree (k.known migrated) is in record { area_is = left.area; recorded = left.recorded }) agrees
claim_agrees source s now d seen (Err e) is time kept fine at agrees = same_agrees source s agrees

-- ---- a write

write_by : (source : List Rendered) (s : Shared) (d : Driver) (claim : ℤ) (target : Recorded) (ops : List Op) (r : Result Tree TreeFault) → multi s.tree (write_ops claim (remaining_at s.tree s.log target.offset) target) ≡ r → IsSharedSound s → IsSoundDriver s d → WritesTo d.stage target ops → d.claim ≡ Some claim
    → PathsAgree source s → Agrees source s (with_tree s r)
write_by source s d claim target ops (Ok t) is kept fine at claimed agrees = written_agrees source s d claim target t (took s d claim target ops t kept fine at claimed is) agrees
write_by source s d claim target ops (Err e) is kept fine at claimed agrees = same_agrees source s agrees

write_agrees : (source : List Rendered) (s : Shared) (now : ℤ) (d : Driver) (m : Option ℤ) (target : Recorded) (ops : List Op) → d.claim ≡ m → IsSharedSound s → IsSoundDriver s d → WritesTo d.stage target ops → PathsAgree source s
    → Agrees source s (shared_after s (epoch_or_zero d.epoch) now (write_request m (remaining_at s.tree s.log target.offset) target))
write_agrees source s now d None target ops claimed kept fine at agrees = same_agrees source s agrees
write_agrees source s now d (Some claim) target ops claimed kept fine at agrees =
    write_by source s d claim target ops (multi s.tree (write_ops claim (remaining_at s.tree s.log target.offset) target)) refl kept fine at claimed agrees

-- ---- appends

append_agrees : (source : List Rendered) (s : Shared) (r : Result Log LogFault) → ((new : Log) → r ≡ Ok new → Agrees source s (record s { log = new })) → PathsAgree source s → Agrees source s (with_log s r)
append_agrees source s (Ok new) made agrees = made new refl
append_agrees source s (Err e) made agrees = same_agrees source s agrees

unmigrated_agrees : (source : List Rendered) (s : Shared) (new : Log) → IsUnmigratedBatch s.log new → Agrees source s (record s { log = new })
unmigrated_agrees source s new b = nothing_owed (source_after source s) (record s { log = new }) b.still

begin_agrees : (source : List Rendered) (s : Shared) (now : ℤ) (d : Driver) (rows : List Row) (t : Result (List MetaRecord) Unreadable) → translate rows ≡ t → IsSharedSound s → IsSoundDriver s d → d.stage ≡ stage.BeginMigration rows → PathsAgree source s → Agrees source s (shared_after s (epoch_or_zero d.epoch) now (begin_request t))
begin_agrees source s now d rows (Ok records) is kept fine at agrees =
    append_agrees source s (append s.log (epoch_or_zero d.epoch) now (begin_record ∷ [])) (λ new made. unmigrated_agrees source s new (begun_log s now d rows records new kept fine at is made).batch) agrees
begin_agrees source s now d rows (Err e) is kept fine at agrees = same_agrees source s agrees

committed_agrees : (source : List Rendered) (s : Shared) (now : ℤ) (d : Driver) (new : Log) → IsSharedSound s → IsSoundDriver s d → d.stage ≡ stage.AppendRecords [] → append s.log (epoch_or_zero d.epoch) now commit_records ≡ Ok new → Agrees source s (record s { log = new })
committed_agrees source s now d new kept fine at made =
    let k : IsReady s d (epoch_or_zero d.epoch) now = (ready s now d new kept fine at made).1 in
    commit_agrees source s new (unmigrated s d (epoch_or_zero d.epoch) now k) (λ r found. offset_by (migration_record s.tree) r found (k.migrates.recorded k.lead.current))

records_agree : (source : List Rendered) (s : Shared) (now : ℤ) (d : Driver) (records : List MetaRecord) → IsSharedSound s → IsSoundDriver s d → d.stage ≡ stage.AppendRecords records → PathsAgree source s → Agrees source s (shared_after s (epoch_or_zero d.epoch) now (request_at s now d (stage.AppendRecords records)))
records_agree source s now d [] kept fine at agrees = append_agrees source s (append s.log (epoch_or_zero d.epoch) now commit_records) (λ new made. committed_agrees source s now d new kept fine at made) agrees
records_agree source s now d (r ∷ rs) kept fine at agrees =
    append_agrees source s (append s.log (epoch_or_zero d.epoch) now (take MAX_APPEND_RECORDS (r ∷ rs))) (λ new made. unmigrated_agrees source s new (appended_log s now d r rs new kept fine at made).batch) agrees

-- ---- every stage

request_agrees : (source : List Rendered) (s : Shared) (now : ℤ) (d : Driver) (x : Stage) → d.stage ≡ x → IsTime now → IsSharedSound s → IsSoundDriver s d → PathsAgree source s → Agrees source s (shared_after s (epoch_or_zero d.epoch) now (request_at s now d x))
request_agrees source s now d stage.Uninitialized is time kept fine agrees = same_agrees source s agrees
request_agrees source s now d stage.Inactive is time kept fine agrees = same_agrees source s agrees
request_agrees source s now d stage.WaitForControllerQuorum is time kept fine agrees = same_agrees source s agrees
request_agrees source s now d stage.WaitForBrokers is time kept fine agrees = same_agrees source s agrees
request_agrees source s now d stage.ListBrokers is time kept fine agrees = same_agrees source s agrees
request_agrees source s now d stage.ReadControlZnodes is time kept fine agrees = same_agrees source s agrees
request_agrees source s now d (stage.ClaimLeadership seen) is time kept fine agrees = claim_agrees source s now d seen (multi s.tree (claim_ops seen d now)) refl time kept fine is agrees
request_agrees source s now d (stage.ScanForMigration rows) is time kept fine agrees = same_agrees source s agrees
request_agrees source s now d (stage.BeginMigration rows) is time kept fine agrees = begin_agrees source s now d rows (translate rows) refl kept fine is agrees
request_agrees source s now d (stage.AppendRecords records) is time kept fine agrees = records_agree source s now d records kept fine is agrees
request_agrees source s now d stage.ReadLogForResync is time kept fine agrees = same_agrees source s agrees
request_agrees source s now d (stage.ScanForResync target rows) is time kept fine agrees = same_agrees source s agrees
request_agrees source s now d (stage.WriteResync target ops) is time kept fine agrees =
    write_agrees source s now d d.claim target ops refl kept fine (subst (λ (y : Stage). WritesTo y target ops) (sym is) (refl, refl)) agrees
request_agrees source s now d stage.KraftControllerToBrokerComm is time kept fine agrees = same_agrees source s agrees
request_agrees source s now d stage.DualWrite is time kept fine agrees = same_agrees source s agrees
request_agrees source s now d (stage.WriteDelta target ops) is time kept fine agrees =
    write_agrees source s now d d.claim target ops refl kept fine (subst (λ (y : Stage). WritesTo y target ops) (sym is) (refl, refl)) agrees

either_agrees : (source : List Rendered) (s x : Shared) (b : Bool) → Agrees source s x → Agrees source s s → Agrees source s (if b then x else s)
either_agrees source s x true made old = made
either_agrees source s x false made old = old

pub step_agrees : (p : Plan) (source : List Rendered) (s : Shared) (running : List ℤ) (now : ℤ) (d : Driver) → IsTime now → IsSharedSound s → IsSoundDriver s d → PathsAgree source s → PathsAgree (source_after source s) (planned_step p s running now d).shared
unfolding planned_step
step_agrees p source s running now d time kept fine agrees =
    let r = request_at s now d d.stage in
    either_agrees source s (shared_after s (epoch_or_zero d.epoch) now r) (reaches_store p r) (request_agrees source s now d d.stage refl time kept fine agrees) (same_agrees source s agrees)
