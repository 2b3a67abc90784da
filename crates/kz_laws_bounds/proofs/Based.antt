-- A step of a driver keeps what a based world says of it, and of each other driver, under every plan.
use Rattle.std.proofs.Common.{◌≡◌, ◌≢◌, ℤ, nat_lt, Bool, true, false, not, ◌&&◌, ◌||◌, if◌then◌else◌, List, [], ◌∷◌, ◌++◌, length, map, Option, Some, None, refl, sym, subst}
use Rattle.std.specs.Prelude.{Result, Ok, Err, ⊤, int_lt}
use Rattle.std.specs.Ordering.{int_eq}
use Rattle.kz_types.specs.declared.codes.TheConstants.{MIGRATION, POST_MIGRATION}
use Rattle.kz_types.specs.declared.limits.TheConstants.{MAX_SCAN_ROWS, MAX_VERSION}
use Rattle.kz_types.specs.declared.tree.Row.{Row}
use Rattle.kz_types.specs.declared.tree.Op.{Op}
use Rattle.kz_types.specs.declared.driver.ClaimSeen.{ClaimSeen}
use Rattle.kz_types.specs.declared.driver.Stage.{Stage}
use Rattle.kz_types.specs.declared.driver.Stage.TheVariants as stage
use Rattle.kz_types.specs.declared.fault.BodyFault.{BodyFault}
use Rattle.kz_types.specs.declared.fault.TreeFault.{TreeFault}
use Rattle.kz_types.specs.declared.fault.TreeFault.TheVariants as tree_fault
use Rattle.kz_types.specs.declared.fault.LogFault.{LogFault}
use Rattle.kz_types.specs.declared.fault.LogFault.TheVariants as log_fault
use Rattle.kz_types.specs.declared.machine.DriverState.TheVariants as state
use Rattle.kz_types.specs.declared.machine.Recorded.{Recorded}
use Rattle.kz_types.specs.declared.machine.Reply.{Reply}
use Rattle.kz_types.specs.declared.machine.Reply.TheVariants as reply
use Rattle.kz_types.specs.declared.plan.Plan.{Plan}
use Rattle.kz_types.specs.declared.plan.Plan.TheVariants as plan
use Rattle.kz_types.specs.declared.record.MetaRecord.{MetaRecord}
use Rattle.kz_types.specs.Paths.{base_paths}
use Rattle.kz_spec_data.specs.Control.{epoch_path, migration_path, read_epoch}
use Rattle.kz_spec_data.specs.Tree.{Tree, multi, scan, broker_ids, rendered_row}
use Rattle.kz_spec_data.specs.Log.{Log, append, image_at}
use Rattle.kz_spec_data.specs.Rendering.{render}
use Rattle.kz_spec_data.specs.Translation.{Unreadable, translate}
use Rattle.kz_spec_data.specs.Difference.{diff, chunk, after_chunk}
use Rattle.kz_spec_machine.specs.Driver.{Shared, Driver, at_stage, resigned_driver, begins_again, epoch_or_zero, views_migrated, seen_in, shown_by, unless_fenced, unless_full_epoch, unless_bad_epoch, unless_full_record, after_look, claimed_version, claim_ops, remaining_at, is_last_write, write_ops, target_of, Request, nothing, read_log, list_brokers, look_up, read_page, write, add, begin_request, begin_record, next_records, write_request, request_at, with_tree, with_log, shared_after, missing_controller, missing_broker, driver_at_log_end, unless_finalised, wait_or_move, after_quorum, after_brokers, after_claim, after_append, after_translation, after_records, last_path, is_claim_refused, after_write, writes, is_recorded_at, after_rest, after_answer, without_answer, reaches_store, Hearing, hears_answer, hears_nothing, hears_expiry, hearing, driver_after, planned_step, step}
use Rattle.kz_spec_machine.specs.Sound.{HasBases, SeesPresent, SeenStand, BasesAtStage, Looks, AtStage, IsSoundDriver}
use Rattle.kz_laws_events.proofs.Claiming.{sees_present}
use Rattle.kz_laws_bounds.specs.Bounds.{IsBasedDriver}
use Rattle.kz_laws_bounds.proofs.Bases.{KeepsBases, each_base, each_seen, look_stands, write_keeps_there, claim_bases}

-- ---- on a tree

-- what is said of a driver, on this tree
pub record OnTree (t : Tree) (d : Driver) : Type 0 where
  pub claimed : d.claim ≢ None → HasBases t
  pub looked : BasesAtStage t d.stage

-- with the claim that it had, and no look of its own
abbrev NoLook : Stage → Type 0
NoLook x = (t : Tree) → BasesAtStage t x

moved : (t : Tree) (d : Driver) (x : Stage) → NoLook x → OnTree t d → OnTree t (at_stage x d)
moved t d x none own = record { claimed = own.claimed; looked = none t }

viewed : (t : Tree) (l : Log) (d : Driver) → OnTree t d → OnTree t (driver_at_log_end l d)
viewed t l d own = record { claimed = own.claimed; looked = own.looked }

resigned : (t : Tree) (d : Driver) → OnTree t (resigned_driver d)
resigned t d = record { claimed = λ some. absurd (some refl); looked = tt }

again : (t : Tree) (d : Driver) → OnTree t (begins_again d)
again t d = record { claimed = λ some. absurd (some refl); looked = tt }

either : (t : Tree) (b : Bool) (x y : Driver × Reply) → OnTree t x.0 → OnTree t y.0 → OnTree t (if b then x else y).0
either t true x y one other = one
either t false x y one other = other

finalised : (t : Tree) (e : Driver) (rest : Driver × Reply) → OnTree t rest.0 → OnTree t (unless_finalised e rest).0
finalised t e rest on = either t (int_eq e.view.image.state POST_MIGRATION) (resigned_driver e, reply.Moved state.Inactive) rest (resigned t e) on

-- ---- answers to what changes nothing

waits : (t : Tree) (e : Driver) (m : Option ℤ) → OnTree t e → OnTree t (wait_or_move m e).0
waits t e (Some id) own = own
waits t e None own = moved t e stage.WaitForBrokers (λ x. tt) own

quorum : (s : Shared) (running : List ℤ) (d : Driver) → OnTree s.tree d → OnTree s.tree (after_quorum s.declared running (driver_at_log_end s.log d)).0
quorum s running d own =
    let e : Driver = driver_at_log_end s.log d in
    let here : OnTree s.tree e = viewed s.tree s.log d own in
    finalised s.tree e _ (either s.tree (int_eq e.view.image.state MIGRATION) (at_stage stage.ReadControlZnodes e, reply.Moved state.BecomeController) (wait_or_move (missing_controller s.declared running) e)
    (moved s.tree e stage.ReadControlZnodes (λ x. tt) here) (waits s.tree e (missing_controller s.declared running) here))

listed : (t : Tree) (d : Driver) (m : Option ℤ) → OnTree t d → OnTree t (after_brokers m d).0
listed t d (Some id) own = moved t d stage.WaitForBrokers (λ x. tt) own
listed t d None own = moved t d stage.ReadControlZnodes (λ x. tt) own

fenced : (t : Tree) (d : Driver) (m : Option ℤ) (rest : Driver × Reply) → OnTree t rest.0 → OnTree t (unless_fenced m d rest).0
fenced t d None rest on = on
fenced t d (Some e) rest on = either t (int_lt (epoch_or_zero d.epoch) e) (resigned_driver d, reply.FencedEpoch e) rest (resigned t d) on

full_epoch : (t : Tree) (d : Driver) (r : Result ℤ BodyFault) (version : ℤ) (rest : Driver × Reply) → OnTree t d → OnTree t rest.0 → OnTree t (unless_full_epoch r version d rest).0
full_epoch t d (Err e) version rest own on = own
full_epoch t d (Ok number) version rest own on = either t (int_eq number MAX_VERSION || int_eq version MAX_VERSION) (d, reply.Limit epoch_path) rest own on

bad_epoch : (t : Tree) (d : Driver) (m : Option Row) (rest : Driver × Reply) → OnTree t d → OnTree t rest.0 → OnTree t (unless_bad_epoch m d rest).0
bad_epoch t d None rest own on = on
bad_epoch t d (Some r) rest own on = full_epoch t d (read_epoch r.body) r.version rest own on

full_record : (t : Tree) (d : Driver) (m : Option Row) (rest : Driver × Reply) → OnTree t d → OnTree t rest.0 → OnTree t (unless_full_record m d rest).0
full_record t d None rest own on = on
full_record t d (Some r) rest own on = either t (not (views_migrated d) && int_eq r.version MAX_VERSION) (d, reply.Limit migration_path) rest own on

looks : (t : Tree) (d : Driver) → OnTree t d → OnTree t (after_look (seen_in t) d).0
looks t d own =
    let seen : ClaimSeen = seen_in t in
    fenced t d (shown_by seen.control) _ (bad_epoch t d seen.epoch _ own (full_record t d seen.migration (at_stage (stage.ClaimLeadership seen) d, reply.Looked) own
    (record { claimed = own.claimed; looked = λ present. look_stands t })))

paged : (t : Tree) (d : Driver) (b : Bool) (x y : Stage) → NoLook x → NoLook y → OnTree t d → OnTree t (at_stage (if b then x else y) d)
paged t d true x y one other own = moved t d x one own
paged t d false x y one other own = moved t d y other own

rested : (s : Shared) (d : Driver) → OnTree s.tree d → OnTree s.tree (after_rest d.view.image (driver_at_log_end s.log d)).0
rested s d own =
    let e : Driver = driver_at_log_end s.log d in
    let here : OnTree s.tree e = viewed s.tree s.log d own in
    finalised s.tree e _ (either s.tree (is_recorded_at e.recorded e.view.position) (e, reply.Idle) (at_stage (stage.WriteDelta (target_of e) (diff (render d.view.image) (render e.view.image))) e, reply.Looked)
    here (moved s.tree e (stage.WriteDelta (target_of e) (diff (render d.view.image) (render e.view.image))) (λ x. tt) here))

-- ---- appends

appended : (t : Tree) (d : Driver) (next : Stage) (r : Result Log LogFault) → NoLook next → OnTree t d → OnTree t (after_append next d r).0
appended t d next (Ok l) none own = moved t d next none own
appended t d next (Err (log_fault.Stale epoch)) none own = resigned t d
appended t d next (Err log_fault.Failed) none own = own
appended t d next (Err (log_fault.Limit number)) none own = own
appended t d next (Err log_fault.NoMemory) none own = own
appended t d next (Err log_fault.Down) none own = own
appended t d next (Err (log_fault.Full size)) none own = own

begun : (s : Shared) (now : ℤ) (d : Driver) (r : Result (List MetaRecord) Unreadable) → OnTree s.tree d → OnTree s.tree (after_translation s now d r).0
begun s now d (Err e) own = moved s.tree d (stage.ScanForMigration []) (λ x. tt) own
begun s now d (Ok records) own = appended s.tree d (stage.AppendRecords records) (append s.log (epoch_or_zero d.epoch) now (begin_record ∷ [])) (λ x. tt) own

recorded : (s : Shared) (now : ℤ) (d : Driver) (records : List MetaRecord) → OnTree s.tree d → OnTree s.tree (after_append (after_records records) d (append s.log (epoch_or_zero d.epoch) now (next_records records))).0
recorded s now d [] own = appended s.tree d stage.ReadLogForResync (append s.log (epoch_or_zero d.epoch) now (next_records [])) (λ x. tt) own
recorded s now d (r ∷ rs) own = appended s.tree d (after_records (r ∷ rs)) (append s.log (epoch_or_zero d.epoch) now (next_records (r ∷ rs))) (λ x. tt) own

-- ---- a claim

claim_left : (t : Tree) (d : Driver) (seen : ClaimSeen) (ops : List Op) (f : TreeFault) → OnTree t d → OnTree t (after_claim seen d ops (Err f)).0
claim_left t d seen ops (tree_fault.Refused index c) own = again t d
claim_left t d seen ops (tree_fault.Limit index number) own = own
claim_left t d seen ops tree_fault.NoMemory own = own
claim_left t d seen ops tree_fault.Device own = own
claim_left t d seen ops tree_fault.Down own = own
claim_left t d seen ops (tree_fault.Full size) own = own

claimed_at : (new : Tree) (d : Driver) (seen : ClaimSeen) (b : Bool) → HasBases new → OnTree new (record d { claim = Some (claimed_version seen.epoch); stage = if b then stage.ReadLogForResync else stage.ScanForMigration [] })
claimed_at new d seen true bases = record { claimed = λ some. bases; looked = tt }
claimed_at new d seen false bases = record { claimed = λ some. bases; looked = tt }

claim_by : (s : Shared) (now : ℤ) (d : Driver) (seen : ClaimSeen) (r : Result Tree TreeFault) → multi s.tree (claim_ops seen d now) ≡ r → Looks s.tree d.epoch seen → (SeesPresent s.tree seen → SeenStand s.tree seen.bases base_paths) → OnTree s.tree d
    → OnTree (with_tree s r).tree (after_claim seen d (claim_ops seen d now) r).0
claim_by s now d seen (Ok new) is look stand own = claimed_at new d seen (views_migrated d) (claim_bases s.tree new seen d now is look.bases (stand (sees_present s.tree new seen d now look is)))
claim_by s now d seen (Err f) is look stand own = claim_left s.tree d seen (claim_ops seen d now) f own

-- ---- a write

same_there : (t : Tree) (x : Stage) (own : Option ℤ) (d : Driver) (new : Tree) → NoLook x → (d.claim ≢ None → HasBases t) → (HasBases t → HasBases new) → OnTree new (record d { stage = x; recorded = own })
same_there t x own d new none claimed kept = record { claimed = λ some. kept (claimed some); looked = none new }

written_by : (s : Shared) (d : Driver) (target : Recorded) (ops : List Op) (new : Tree) (more : List Op → Stage) (last : Stage) (b : Bool) → ((rest : List Op) → NoLook (more rest)) → NoLook last → OnTree s.tree d → (HasBases s.tree → HasBases new)
    → OnTree new (if◌then◌else◌ {A = Driver × Reply} b (record d { stage = last; recorded = Some target.offset }, reply.Recorded target.offset) (at_stage (more (after_chunk ops)) d, reply.Wrote (length (chunk ops)))).0
written_by s d target ops new more last true one other own kept = same_there s.tree last (Some target.offset) d new other own.claimed kept
written_by s d target ops new more last false one other own kept = same_there s.tree (more (after_chunk ops)) d.recorded d new (one (after_chunk ops)) own.claimed kept

write_left : (t : Tree) (d : Driver) (claim : ℤ) (target : Recorded) (ops : List Op) (more : List Op → Stage) (last : Stage) (f : TreeFault) → OnTree t d → OnTree t (after_write claim ops target more last d (Err f)).0
write_left t d claim target ops more last (tree_fault.Refused index c) own = either t (is_claim_refused index c) (resigned_driver d, reply.FencedWrite claim) (begins_again d, reply.Moved state.BecomeController) (resigned t d) (again t d)
write_left t d claim target ops more last (tree_fault.Limit index number) own = own
write_left t d claim target ops more last tree_fault.NoMemory own = own
write_left t d claim target ops more last tree_fault.Device own = own
write_left t d claim target ops more last tree_fault.Down own = own
write_left t d claim target ops more last (tree_fault.Full size) own = own

write_by : (s : Shared) (d : Driver) (claim : ℤ) (target : Recorded) (more : List Op → Stage) (last : Stage) (r : Result Tree TreeFault) → multi s.tree (write_ops claim (remaining_at s.tree s.log target.offset) target) ≡ r → ((rest : List Op) → NoLook (more rest)) → NoLook last → OnTree s.tree d
    → OnTree (with_tree s r).tree (after_write claim (remaining_at s.tree s.log target.offset) target more last d r).0
write_by s d claim target more last (Ok new) is one other own =
    let ops = remaining_at s.tree s.log target.offset in
    written_by s d target ops new more last (is_last_write ops) one other own (each_base s.tree new (write_keeps_there s.tree new (image_at s.log target.offset) claim target is))
write_by s d claim target more last (Err f) is one other own = write_left s.tree d claim target (remaining_at s.tree s.log target.offset) more last f own

writes_by : (s : Shared) (now : ℤ) (d : Driver) (m : Option ℤ) (target : Recorded) (more : List Op → Stage) (last : Stage) → ((rest : List Op) → NoLook (more rest)) → NoLook last → OnTree s.tree d
    → OnTree (shared_after s (epoch_or_zero d.epoch) now (write_request m (remaining_at s.tree s.log target.offset) target)).tree (writes s.tree m (remaining_at s.tree s.log target.offset) target more last d).0
writes_by s now d None target more last one other own = again s.tree d
writes_by s now d (Some claim) target more last one other own = write_by s d claim target more last (multi s.tree (write_ops claim (remaining_at s.tree s.log target.offset) target)) refl one other own

-- ---- any answer

log_tree : (s : Shared) (r : Result Log LogFault) → (with_log s r).tree ≡ s.tree
log_tree s (Ok l) = refl
log_tree s (Err e) = refl

pub on_log : (s : Shared) (r : Result Log LogFault) (e : Driver) → OnTree s.tree e → OnTree (with_log s r).tree e
on_log s r e own = subst (λ (t : Tree). OnTree t e) (sym (log_tree s r)) own

pub begin_tree : (s : Shared) (epoch now : ℤ) (r : Result (List MetaRecord) Unreadable) (e : Driver) → OnTree s.tree e → OnTree (shared_after s epoch now (begin_request r)).tree e
begin_tree s epoch now (Ok records) e own = on_log s (append s.log epoch now (begin_record ∷ [])) e own
begin_tree s epoch now (Err x) e own = own

answer_on : (s : Shared) (running : List ℤ) (now : ℤ) (d : Driver) (x : Stage) → d.stage ≡ x → AtStage s.tree s.log d x → OnTree s.tree d → OnTree (shared_after s (epoch_or_zero d.epoch) now (request_at s now d x)).tree (after_answer s running now d x).0
answer_on s running now d stage.Uninitialized is at own = moved s.tree d stage.Inactive (λ x. tt) own
answer_on s running now d stage.Inactive is at own = own
answer_on s running now d stage.WaitForControllerQuorum is at own = quorum s running d own
answer_on s running now d stage.WaitForBrokers is at own =
    let e : Driver = driver_at_log_end s.log d in
    finalised s.tree e (at_stage stage.ListBrokers e, reply.Looked) (moved s.tree e stage.ListBrokers (λ x. tt) (viewed s.tree s.log d own))
answer_on s running now d stage.ListBrokers is at own = listed s.tree d (missing_broker (broker_ids s.tree) d.view.image) own
answer_on s running now d stage.ReadControlZnodes is at own = looks s.tree d own
answer_on s running now d (stage.ClaimLeadership seen) is at own = claim_by s now d seen (multi s.tree (claim_ops seen d now)) refl at (subst (BasesAtStage s.tree) is own.looked) own
answer_on s running now d (stage.ScanForMigration rows) is at own =
    let page = scan s.tree (last_path rows) MAX_SCAN_ROWS in
    paged s.tree d (nat_lt (length page) MAX_SCAN_ROWS) (stage.BeginMigration (rows ++ page)) (stage.ScanForMigration (rows ++ page)) (λ x. tt) (λ x. tt) own
answer_on s running now d (stage.BeginMigration rows) is at own = begin_tree s (epoch_or_zero d.epoch) now (translate rows) (after_translation s now d (translate rows)).0 (begun s now d (translate rows) own)
answer_on s running now d (stage.AppendRecords records) is at own = on_log s (append s.log (epoch_or_zero d.epoch) now (next_records records)) _ (recorded s now d records own)
answer_on s running now d stage.ReadLogForResync is at own =
    let e : Driver = driver_at_log_end s.log d in
    finalised s.tree e (at_stage (stage.ScanForResync (target_of e) []) e, reply.Looked) (moved s.tree e (stage.ScanForResync (target_of e) []) (λ x. tt) (viewed s.tree s.log d own))
answer_on s running now d (stage.ScanForResync target rows) is at own =
    let page = scan s.tree (last_path rows) MAX_SCAN_ROWS in
    paged s.tree d (nat_lt (length page) MAX_SCAN_ROWS) (stage.WriteResync target (diff (map rendered_row (rows ++ page)) (render d.view.image))) (stage.ScanForResync target (rows ++ page)) (λ x. tt) (λ x. tt) own
answer_on s running now d (stage.WriteResync target ops) is at own = writes_by s now d d.claim target (λ rest. stage.WriteResync target rest) stage.KraftControllerToBrokerComm (λ rest x. tt) (λ x. tt) own
answer_on s running now d stage.KraftControllerToBrokerComm is at own = moved s.tree d stage.DualWrite (λ x. tt) own
answer_on s running now d stage.DualWrite is at own = rested s d own
answer_on s running now d (stage.WriteDelta target ops) is at own = writes_by s now d d.claim target (λ rest. stage.WriteDelta target rest) stage.DualWrite (λ rest x. tt) (λ x. tt) own

-- ---- under each plan

-- the tree stays at a request that isn't a write
abbrev LeavesTree : Request → Type 0
LeavesTree (write ops) = ⊥
LeavesTree r = ⊤

tree_left : (s : Shared) (epoch now : ℤ) (r : Request) → LeavesTree r → (shared_after s epoch now r).tree ≡ s.tree
tree_left s epoch now nothing leaves = refl
tree_left s epoch now read_log leaves = refl
tree_left s epoch now list_brokers leaves = refl
tree_left s epoch now look_up leaves = refl
tree_left s epoch now (read_page after) leaves = refl
tree_left s epoch now (write ops) leaves = absurd leaves
tree_left s epoch now (add records) leaves = log_tree s (append s.log epoch now records)

either_tree : (b : Bool) (x s : Shared) → x.tree ≡ s.tree → (if b then x else s).tree ≡ s.tree
either_tree true x s is = is
either_tree false x s is = refl

unheard : (t : Tree) (r : Request) (d : Driver) → OnTree t d → OnTree t (without_answer r d)
unheard t nothing d own = own
unheard t read_log d own = own
unheard t list_brokers d own = moved t d stage.WaitForBrokers (λ x. tt) own
unheard t look_up d own = again t d
unheard t (read_page after) d own = again t d
unheard t (write ops) d own = again t d
unheard t (add records) d own = resigned t d

heard_or_not : (h : Hearing) (given : Driver × Reply) (r : Request) (d : Driver) (t : Tree) → OnTree t given.0 → OnTree t (without_answer r d) → OnTree t (driver_after h given r d).0
heard_or_not hears_answer given r d t heard unheard = heard
heard_or_not hears_nothing given r d t heard unheard = unheard
heard_or_not hears_expiry given r d t heard unheard = unheard

quiet_by : (p : Plan) (s : Shared) (now : ℤ) (d : Driver) (r : Request) (given : Driver × Reply) → LeavesTree r → OnTree (shared_after s (epoch_or_zero d.epoch) now r).tree given.0 → OnTree s.tree d
    → OnTree (if reaches_store p r then shared_after s (epoch_or_zero d.epoch) now r else s).tree (driver_after (hearing p s (epoch_or_zero d.epoch) now r) given r d).0
quiet_by p s now d r given leaves answered own =
    let left = tree_left s (epoch_or_zero d.epoch) now r leaves in
    subst (λ (t : Tree). OnTree t (driver_after (hearing p s (epoch_or_zero d.epoch) now r) given r d).0) (sym (either_tree (reaches_store p r) (shared_after s (epoch_or_zero d.epoch) now r) s left))
    (heard_or_not (hearing p s (epoch_or_zero d.epoch) now r) given r d s.tree (subst (λ (t : Tree). OnTree t given.0) left answered) (unheard s.tree r d own))

planned_by : (p : Plan) (s : Shared) (now : ℤ) (d : Driver) (r : Request) (given : Driver × Reply) → OnTree (shared_after s (epoch_or_zero d.epoch) now r).tree given.0 → OnTree s.tree d
    → OnTree (if reaches_store p r then shared_after s (epoch_or_zero d.epoch) now r else s).tree (driver_after (hearing p s (epoch_or_zero d.epoch) now r) given r d).0
planned_by plan.Deliver s now d (write ops) given answered own = answered
planned_by plan.LostBefore s now d (write ops) given answered own = again s.tree d
planned_by plan.LostAfter s now d (write ops) given answered own = again (shared_after s (epoch_or_zero d.epoch) now (write ops)).tree d
planned_by plan.Expired s now d (write ops) given answered own = again s.tree d
planned_by p s now d nothing given answered own = quiet_by p s now d nothing given tt answered own
planned_by p s now d read_log given answered own = quiet_by p s now d read_log given tt answered own
planned_by p s now d list_brokers given answered own = quiet_by p s now d list_brokers given tt answered own
planned_by p s now d look_up given answered own = quiet_by p s now d look_up given tt answered own
planned_by p s now d (read_page after) given answered own = quiet_by p s now d (read_page after) given tt answered own
planned_by p s now d (add records) given answered own = quiet_by p s now d (add records) given tt answered own

pub on_tree : (s : Shared) (d : Driver) → IsBasedDriver s d → OnTree s.tree d
on_tree s d based = record { claimed = based.claimed; looked = based.looked }

pub based_on : (s : Shared) (d : Driver) → OnTree s.tree d → IsBasedDriver s d
based_on s d on = record { claimed = on.claimed; looked = on.looked }

pub own_planned : (p : Plan) (s : Shared) (running : List ℤ) (now : ℤ) (d : Driver) → IsSoundDriver s d → IsBasedDriver s d → IsBasedDriver (planned_step p s running now d).shared (planned_step p s running now d).driver
unfolding planned_step
own_planned p s running now d fine based =
    let r = request_at s now d d.stage in
    let given : Driver × Reply = after_answer s running now d d.stage in
    based_on (if reaches_store p r then shared_after s (epoch_or_zero d.epoch) now r else s) (driver_after (hearing p s (epoch_or_zero d.epoch) now r) given r d).0
    (planned_by p s now d r given (answer_on s running now d d.stage refl fine.stage (on_tree s d based)) (on_tree s d based))

pub own_based : (s : Shared) (running : List ℤ) (now : ℤ) (d : Driver) → IsSoundDriver s d → IsBasedDriver s d → IsBasedDriver (step s running now d).shared (step s running now d).driver
unfolding step
own_based s running now d fine based = own_planned plan.Deliver s running now d fine based

-- ---- other drivers

-- what a request leaves of the tree: base znodes stay, and who saw what is there saw what was there
pub record Stays (t new : Tree) (f : Driver) : Type 0 where
  pub there : KeepsBases t new
  pub sees : (seen : ClaimSeen) → f.stage ≡ stage.ClaimLeadership seen → SeesPresent new seen → SeesPresent t seen

looked_by : (t new : Tree) (f : Driver) (x : Stage) → f.stage ≡ x → Stays t new f → BasesAtStage t x → BasesAtStage new x
looked_by t new f (stage.ClaimLeadership seen) is stays looked = λ present. each_seen t new seen.bases stays.there (looked (stays.sees seen is present))
looked_by t new f stage.Uninitialized is stays looked = tt
looked_by t new f stage.Inactive is stays looked = tt
looked_by t new f stage.WaitForControllerQuorum is stays looked = tt
looked_by t new f stage.WaitForBrokers is stays looked = tt
looked_by t new f stage.ListBrokers is stays looked = tt
looked_by t new f stage.ReadControlZnodes is stays looked = tt
looked_by t new f (stage.ScanForMigration rows) is stays looked = tt
looked_by t new f (stage.BeginMigration rows) is stays looked = tt
looked_by t new f (stage.AppendRecords records) is stays looked = tt
looked_by t new f stage.ReadLogForResync is stays looked = tt
looked_by t new f (stage.ScanForResync target rows) is stays looked = tt
looked_by t new f (stage.WriteResync target ops) is stays looked = tt
looked_by t new f stage.KraftControllerToBrokerComm is stays looked = tt
looked_by t new f stage.DualWrite is stays looked = tt
looked_by t new f (stage.WriteDelta target ops) is stays looked = tt

pub stays_based : (t new : Tree) (f : Driver) → Stays t new f → OnTree t f → OnTree new f
stays_based t new f stays own = record { claimed = λ some. each_base t new stays.there (own.claimed some); looked = looked_by t new f f.stage refl stays own.looked }
