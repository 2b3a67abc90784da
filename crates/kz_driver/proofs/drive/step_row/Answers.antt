use mir.Val.{SFits}
use Rattle.std.proofs.Common.{rules, ◌≡◌, false, ℤ, w64, refl, sym, ap, ◌∙◌, subst, map, to_z, of_z}
use Rattle.std.specs.Prelude.{IfOk, OnErr, IsErrOf, Result}
use Rattle.std.proofs.lemmas.Int.{to_z-of_z}
use Rattle.kz_types.specs.declared.limits.TheConstants.{MAX_SCAN_ROWS}
use Rattle.kz_types.specs.declared.driver.Stage.TheVariants as stage
use Rattle.kz_types.specs.declared.machine.Reply.{Reply}
use Rattle.kz_types.specs.declared.machine.Reply.TheVariants as reply
use Rattle.kz_types.specs.declared.fault.TreeFault.TheVariants as tree_fault
use Rattle.kz_types.specs.declared.fault.LogFault.TheVariants as log_fault
use Rattle.kz_spec_data.specs.Tree.{Tree, empty_tree, multi, scan, broker_ids, rendered_row}
use Rattle.kz_spec_data.specs.Log.{Log, IsViewOf, read_view, append}
use Rattle.kz_spec_data.specs.Rendering.{render}
use Rattle.kz_spec_data.specs.Difference.{diff}
use Rattle.kz_spec_data.specs.Translation.{translate}
use Rattle.kz_spec_machine.specs.Driver.{look_up, list_brokers, read_page, at_stage, epoch_or_zero, after_brokers, missing_broker, after_look, seen_in, claim_ops, after_page, last_path, driver_at_log_end, after_quorum, unless_finalised, after_translation, after_append, after_records, next_records, writes}
use Rattle.kz_stages.specs.Rows.{driver_of, stage_of}
use Rattle.kz_stages.specs.Drivers.{IsElected, HasEpoch, IsKept, shared_of}
use Rattle.kz_stages.specs.declared.row.DriverRow.{DriverRow}
use Rattle.kz_stages.specs.declared.writing.Scope.{Scope}
use Rattle.kz_resync.specs.Remainders.{Remainder}
use Rattle.kz_stages.specs.Claims.{claim_outcome, after_claim_outcome}
use Rattle.kz_stages.specs.Writes.{held_remainder, held_scope, more_of, last_of}
use Rattle.kz_stages.specs.declared.writing.Scope.TheVariants.{All, Change}
use Rattle.kz_driver.proofs.Branches.{at_same_time, at_log_read, at_tree_read, at_rest, at_claim, at_append, at_begin, at_write}
use Rattle.kz_stages.proofs.Kept.{free_kept}
use Rattle.kz_driver.proofs.Keeping.{finalised_keeps, quorum_keeps, brokers_keep, look_lives, claimed_keeps, append_keeps, translation_keeps, records_free, writes_keep}
use Rattle.kz_driver.proofs.Steps.{kept_step, view_kept, look_kept, page_kept}
use Rattle.kz_driver.proofs.drive.step_row.Goals as goal

pub returns-in-WaitForControllerQuorum-clause-facts : goal.returns-in-WaitForControllerQuorum-clause-facts
returns-in-WaitForControllerQuorum-clause-facts g c =
    let trees = g.T.ZTree in
    let logs = g.L.MetaLog in
    let tree = c.args.tree.now in
    let log = c.args.log.now in
    let ids = c.args.peers.now.declared in
    let running = c.args.peers.now.running in
    let row = c.args.row.now in
    let t = trees.tree tree.inner in
    let l = logs.log log.inner in
    let made = c.wait_for_quorum in
    at_log_read t l (logs.log made.new.log.inner) ids running c.args.now row made.new.row stage.WaitForControllerQuorum tree.plan log.plan made.result _ _ _ _ _ _ tree.faults log.faults made.new.log.faults
    (ap stage_of c.in-WaitForControllerQuorum.is) refl refl refl made.ensures.same made.ensures.fares.heard made.ensures.fares.counted made.ensures.disk made.ensures.ok made.ensures.err

pub returns-in-WaitForBrokers-clause-facts : goal.returns-in-WaitForBrokers-clause-facts
returns-in-WaitForBrokers-clause-facts g c =
    let trees = g.T.ZTree in
    let logs = g.L.MetaLog in
    let tree = c.args.tree.now in
    let log = c.args.log.now in
    let ids = c.args.peers.now.declared in
    let running = c.args.peers.now.running in
    let row = c.args.row.now in
    let t = trees.tree tree.inner in
    let l = logs.log log.inner in
    let made = c.read_log_for_brokers in
    at_log_read t l (logs.log made.new.log.inner) ids running c.args.now row made.new.row stage.WaitForBrokers tree.plan log.plan made.result _ _ _ _ _ _ tree.faults log.faults made.new.log.faults
    (ap stage_of c.in-WaitForBrokers.is) refl refl refl made.ensures.same made.ensures.fares.heard made.ensures.fares.counted made.ensures.disk made.ensures.ok made.ensures.err

pub returns-in-ReadLogForResync-clause-facts : goal.returns-in-ReadLogForResync-clause-facts
returns-in-ReadLogForResync-clause-facts g c =
    let trees = g.T.ZTree in
    let logs = g.L.MetaLog in
    let tree = c.args.tree.now in
    let log = c.args.log.now in
    let ids = c.args.peers.now.declared in
    let running = c.args.peers.now.running in
    let row = c.args.row.now in
    let t = trees.tree tree.inner in
    let l = logs.log log.inner in
    let made = c.read_log_for_resync in
    at_log_read t l (logs.log made.new.log.inner) ids running c.args.now row made.new.row stage.ReadLogForResync tree.plan log.plan made.result _ _ _ _ _ _ tree.faults log.faults made.new.log.faults
    (ap stage_of c.in-ReadLogForResync.is) refl refl refl made.ensures.same made.ensures.fares.heard made.ensures.fares.counted made.ensures.disk made.ensures.ok made.ensures.err

pub returns-in-DualWrite-clause-facts : goal.returns-in-DualWrite-clause-facts
returns-in-DualWrite-clause-facts g c =
    let trees = g.T.ZTree in
    let logs = g.L.MetaLog in
    let tree = c.args.tree.now in
    let log = c.args.log.now in
    let ids = c.args.peers.now.declared in
    let running = c.args.peers.now.running in
    let row = c.args.row.now in
    let t = trees.tree tree.inner in
    let l = logs.log log.inner in
    let made = c.read_log_in_dual_write in
    at_log_read t l (logs.log made.new.log.inner) ids running c.args.now row made.new.row stage.DualWrite tree.plan log.plan made.result _ _ _ _ _ _ tree.faults log.faults made.new.log.faults
    (ap stage_of c.in-DualWrite.is) refl refl refl made.ensures.same made.ensures.fares.heard made.ensures.fares.counted made.ensures.disk made.ensures.ok made.ensures.err

pub returns-in-ListBrokers-clause-facts : goal.returns-in-ListBrokers-clause-facts
returns-in-ListBrokers-clause-facts g c =
    let trees = g.T.ZTree in
    let logs = g.L.MetaLog in
    let tree = c.args.tree.now in
    let log = c.args.log.now in
    let ids = c.args.peers.now.declared in
    let running = c.args.peers.now.running in
    let row = c.args.row.now in
    let t = trees.tree tree.inner in
    let l = logs.log log.inner in
    let made = c.list_brokers in
    at_tree_read t (trees.tree made.new.tree.inner) l ids running c.args.now row made.new.row stage.ListBrokers list_brokers tree.plan log.plan made.result _ _ _ _ _ _ tree.faults made.new.tree.faults log.faults
    (ap stage_of c.in-ListBrokers.is) refl refl tt refl made.ensures.same made.ensures.fares.heard made.ensures.fares.counted made.ensures.disk made.ensures.ok made.ensures.err

pub returns-in-ReadControlZnodes-clause-facts : goal.returns-in-ReadControlZnodes-clause-facts
returns-in-ReadControlZnodes-clause-facts g c =
    let trees = g.T.ZTree in
    let logs = g.L.MetaLog in
    let tree = c.args.tree.now in
    let log = c.args.log.now in
    let ids = c.args.peers.now.declared in
    let running = c.args.peers.now.running in
    let row = c.args.row.now in
    let t = trees.tree tree.inner in
    let l = logs.log log.inner in
    let made = c.read_control_znodes in
    at_tree_read t (trees.tree made.new.tree.inner) l ids running c.args.now row made.new.row stage.ReadControlZnodes look_up tree.plan log.plan made.result _ _ _ _ _ _ tree.faults made.new.tree.faults log.faults
    (ap stage_of c.in-ReadControlZnodes.is) refl refl tt refl made.ensures.same made.ensures.fares.heard made.ensures.fares.counted made.ensures.disk made.ensures.ok made.ensures.err

pub returns-in-ScanForMigration-clause-facts : goal.returns-in-ScanForMigration-clause-facts
returns-in-ScanForMigration-clause-facts g c =
    let trees = g.T.ZTree in
    let logs = g.L.MetaLog in
    let tree = c.args.tree.now in
    let log = c.args.log.now in
    let ids = c.args.peers.now.declared in
    let running = c.args.peers.now.running in
    let row = c.args.row.now in
    let t = trees.tree tree.inner in
    let l = logs.log log.inner in
    let made = c.scan_for_migration in
    let rows = c.in-ScanForMigration.scan in
    let is = c.in-ScanForMigration.is in
    at_tree_read t (trees.tree made.new.tree.inner) l ids running c.args.now row made.new.row (stage.ScanForMigration rows) (read_page (last_path rows)) tree.plan log.plan made.result _ _ _ _ _ _ tree.faults made.new.tree.faults log.faults
    (ap stage_of is) refl refl tt refl made.ensures.same (made.ensures.fares rows is).heard (made.ensures.fares rows is).counted (made.ensures.disk rows is) (made.ensures.ok rows is) made.ensures.err

pub returns-in-ScanForResync-clause-facts : goal.returns-in-ScanForResync-clause-facts
returns-in-ScanForResync-clause-facts g c =
    let trees = g.T.ZTree in
    let logs = g.L.MetaLog in
    let tree = c.args.tree.now in
    let log = c.args.log.now in
    let ids = c.args.peers.now.declared in
    let running = c.args.peers.now.running in
    let row = c.args.row.now in
    let t = trees.tree tree.inner in
    let l = logs.log log.inner in
    let made = c.scan_for_resync in
    let target = c.in-ScanForResync.target in
    let rows = c.in-ScanForResync.scan in
    let is = c.in-ScanForResync.is in
    at_tree_read t (trees.tree made.new.tree.inner) l ids running c.args.now row made.new.row (stage.ScanForResync target rows) (read_page (last_path rows)) tree.plan log.plan made.result _ _ _ _ _ _ tree.faults made.new.tree.faults log.faults
    (ap stage_of is) refl refl tt refl made.ensures.same (made.ensures.fares target rows is).heard (made.ensures.fares target rows is).counted (made.ensures.disk target rows is) (made.ensures.ok target rows is) made.ensures.err

pub returns-in-Uninitialized-clause-facts : goal.returns-in-Uninitialized-clause-facts
returns-in-Uninitialized-clause-facts g c =
    let trees = g.T.ZTree in
    let logs = g.L.MetaLog in
    let tree = c.args.tree.now in
    let log = c.args.log.now in
    let ids = c.args.peers.now.declared in
    let running = c.args.peers.now.running in
    let row = c.args.row.now in
    let t = trees.tree tree.inner in
    let l = logs.log log.inner in
    at_rest (shared_of t l ids) running c.args.now row c.become_inactive.new.row stage.Uninitialized c.become_inactive.result tree.plan log.plan _ _ _ _ tree.faults log.faults
    (ap stage_of c.in-Uninitialized.is) refl refl c.become_inactive.ensures.driver

pub returns-in-Inactive-clause-facts : goal.returns-in-Inactive-clause-facts
returns-in-Inactive-clause-facts g c =
    let trees = g.T.ZTree in
    let logs = g.L.MetaLog in
    let tree = c.args.tree.now in
    let log = c.args.log.now in
    let ids = c.args.peers.now.declared in
    let running = c.args.peers.now.running in
    let row = c.args.row.now in
    let t = trees.tree tree.inner in
    let l = logs.log log.inner in
    at_rest (shared_of t l ids) running c.args.now row row stage.Inactive reply.Idle tree.plan log.plan _ _ _ _ tree.faults log.faults
    (ap stage_of c.in-Inactive.is) refl refl refl

pub returns-in-KraftControllerToBrokerComm-clause-facts : goal.returns-in-KraftControllerToBrokerComm-clause-facts
returns-in-KraftControllerToBrokerComm-clause-facts g c =
    let trees = g.T.ZTree in
    let logs = g.L.MetaLog in
    let tree = c.args.tree.now in
    let log = c.args.log.now in
    let ids = c.args.peers.now.declared in
    let running = c.args.peers.now.running in
    let row = c.args.row.now in
    let t = trees.tree tree.inner in
    let l = logs.log log.inner in
    at_rest (shared_of t l ids) running c.args.now row c.inform_brokers.new.row stage.KraftControllerToBrokerComm c.inform_brokers.result tree.plan log.plan _ _ _ _ tree.faults log.faults
    (ap stage_of c.in-KraftControllerToBrokerComm.is) refl refl c.inform_brokers.ensures.driver

pub returns-in-ClaimLeadership-clause-facts : goal.returns-in-ClaimLeadership-clause-facts
returns-in-ClaimLeadership-clause-facts g c =
    let trees = g.T.ZTree in
    let logs = g.L.MetaLog in
    let tree = c.args.tree.now in
    let log = c.args.log.now in
    let ids = c.args.peers.now.declared in
    let running = c.args.peers.now.running in
    let row = c.args.row.now in
    let t = trees.tree tree.inner in
    let l = logs.log log.inner in
    let made = c.claim in
    let seen = c.in-ClaimLeadership.seen in
    let is = c.in-ClaimLeadership.is in
    let fits : SFits w64 c.args.now = search rules in
    let given = to_z w64 (of_z w64 c.args.now) in
    let same : given ≡ c.args.now = to_z-of_z w64 c.args.now fits in
    at_same_time given c.args.now same tree.plan log.plan _ _ _ _ _ _ _ _ _ _ _ _ _ _ _
    (at_claim t (trees.tree made.new.tree.inner) l ids running given row made.new.row seen tree.plan log.plan made.result _ _ _ _ _ _ tree.faults made.new.tree.faults log.faults
    (ap stage_of is) (made.ensures.tree seen is) (made.ensures.fares seen is).heard (made.ensures.fares seen is).counted (made.ensures.disk seen is) (made.ensures.stop seen is) (made.ensures.driver seen is) made.ensures.err)

pub returns-in-AppendRecords-clause-facts : goal.returns-in-AppendRecords-clause-facts
returns-in-AppendRecords-clause-facts g c =
    let trees = g.T.ZTree in
    let logs = g.L.MetaLog in
    let tree = c.args.tree.now in
    let log = c.args.log.now in
    let ids = c.args.peers.now.declared in
    let running = c.args.peers.now.running in
    let row = c.args.row.now in
    let t = trees.tree tree.inner in
    let l = logs.log log.inner in
    let made = c.append_records in
    let records = c.in-AppendRecords.records in
    let is = c.in-AppendRecords.is in
    let fits : SFits w64 c.args.now = search rules in
    let given = to_z w64 (of_z w64 c.args.now) in
    let same : given ≡ c.args.now = to_z-of_z w64 c.args.now fits in
    at_same_time given c.args.now same tree.plan log.plan _ _ _ _ _ _ _ _ _ _ _ _ _ _ _
    (at_append t l (logs.log made.new.log.inner) ids running given row made.new.row records tree.plan log.plan made.result _ _ _ _ _ _ tree.faults log.faults made.new.log.faults
    (ap stage_of is) (made.ensures.log records is) (made.ensures.fares records is).heard (made.ensures.fares records is).counted (made.ensures.disk records is) (made.ensures.stop records is) (made.ensures.driver records is) made.ensures.err)

pub returns-in-BeginMigration-clause-facts : goal.returns-in-BeginMigration-clause-facts
returns-in-BeginMigration-clause-facts g c =
    let trees = g.T.ZTree in
    let logs = g.L.MetaLog in
    let tree = c.args.tree.now in
    let log = c.args.log.now in
    let ids = c.args.peers.now.declared in
    let running = c.args.peers.now.running in
    let row = c.args.row.now in
    let t = trees.tree tree.inner in
    let l = logs.log log.inner in
    let made = c.begin_migration in
    let rows = c.in-BeginMigration.scan in
    let is = c.in-BeginMigration.is in
    let fits : SFits w64 c.args.now = search rules in
    let given = to_z w64 (of_z w64 c.args.now) in
    let same : given ≡ c.args.now = to_z-of_z w64 c.args.now fits in
    at_same_time given c.args.now same tree.plan log.plan _ _ _ _ _ _ _ _ _ _ _ _ _ _ _
    (at_begin t l (logs.log made.new.log.inner) ids running given row made.new.row rows tree.plan made.result _ _ _ _ _ _ tree.faults log made.new.log
    (ap stage_of is) (made.ensures.log rows is) (made.ensures.fares rows is) (made.ensures.disk rows is) (made.ensures.stop rows is) (made.ensures.driver rows is t ids) made.ensures.err)

pub returns-in-WriteResync-clause-facts : goal.returns-in-WriteResync-clause-facts
returns-in-WriteResync-clause-facts g c =
    let trees = g.T.ZTree in
    let logs = g.L.MetaLog in
    let tree = c.args.tree.now in
    let log = c.args.log.now in
    let ids = c.args.peers.now.declared in
    let running = c.args.peers.now.running in
    let row = c.args.row.now in
    let t = trees.tree tree.inner in
    let l = logs.log log.inner in
    let made = c.write in
    let r = c.in-WriteResync.remaining in
    let d = driver_of row in
    let is = ap stage_of c.in-WriteResync.is in
    let some = ap held_remainder c.in-WriteResync.is in
    let said = subst (λ scope. IfOk made.result (λ told. writes t row.claim r.ops r.target (λ rest. more_of scope r.target rest) (last_of scope) d ≡ (driver_of made.new.row, told))) (ap held_scope c.in-WriteResync.is) (made.ensures.driver r some) in
    at_write All r t (trees.tree made.new.tree.inner) l ids running c.args.now row made.new.row log.plan made.result _ _ _ _ _ _ tree made.new.tree log.faults
    is (made.ensures.tree r some) (made.ensures.fares r some) (made.ensures.disk r some) (made.ensures.stop r some) said made.ensures.err

pub returns-in-WriteDelta-clause-facts : goal.returns-in-WriteDelta-clause-facts
returns-in-WriteDelta-clause-facts g c =
    let trees = g.T.ZTree in
    let logs = g.L.MetaLog in
    let tree = c.args.tree.now in
    let log = c.args.log.now in
    let ids = c.args.peers.now.declared in
    let running = c.args.peers.now.running in
    let row = c.args.row.now in
    let t = trees.tree tree.inner in
    let l = logs.log log.inner in
    let made = c.write-in-WriteDelta in
    let r = c.in-WriteDelta.remaining in
    let d = driver_of row in
    let is = ap stage_of c.in-WriteDelta.is in
    let some = ap held_remainder c.in-WriteDelta.is in
    let said = subst (λ scope. IfOk made.result (λ told. writes t row.claim r.ops r.target (λ rest. more_of scope r.target rest) (last_of scope) d ≡ (driver_of made.new.row, told))) (ap held_scope c.in-WriteDelta.is) (made.ensures.driver r some) in
    at_write Change r t (trees.tree made.new.tree.inner) l ids running c.args.now row made.new.row log.plan made.result _ _ _ _ _ _ tree made.new.tree log.faults
    is (made.ensures.tree r some) (made.ensures.fares r some) (made.ensures.disk r some) (made.ensures.stop r some) said made.ensures.err

-- ---- what the driver keeps

pub returns-in-WaitForControllerQuorum-clause-kept : goal.returns-in-WaitForControllerQuorum-clause-kept
returns-in-WaitForControllerQuorum-clause-kept g c =
    let l = g.L.MetaLog.log c.args.log.now.inner in
    let row = c.args.row.now in
    let made = c.wait_for_quorum in
    let at = ap stage_of c.in-WaitForControllerQuorum.is in
    let d = driver_at_log_end l (driver_of row) in
    let elected = subst (HasEpoch row.epoch) at c.requires.kept.elected in
    kept_step made.result row made.new.row (after_quorum c.args.peers.now.declared c.args.peers.now.running d) made.ensures.ok made.ensures.err c.requires.kept
    (quorum_keeps c.args.peers.now.declared c.args.peers.now.running d elected (subst (IsKept row.epoch (read_view l row.view)) (sym at) (free_kept row.epoch (read_view l row.view) stage.WaitForControllerQuorum elected (tt, tt))))

pub returns-in-WaitForBrokers-clause-kept : goal.returns-in-WaitForBrokers-clause-kept
returns-in-WaitForBrokers-clause-kept g c =
    let l = g.L.MetaLog.log c.args.log.now.inner in
    let row = c.args.row.now in
    let made = c.read_log_for_brokers in
    let d = driver_at_log_end l (driver_of row) in
    let elected = subst (HasEpoch row.epoch) (ap stage_of c.in-WaitForBrokers.is) c.requires.kept.elected in
    kept_step made.result row made.new.row (unless_finalised d (at_stage stage.ListBrokers d, reply.Looked)) made.ensures.ok made.ensures.err c.requires.kept
    (finalised_keeps d (at_stage stage.ListBrokers d, reply.Looked) (free_kept row.epoch (read_view l row.view) stage.ListBrokers elected (tt, tt)))

pub returns-in-ListBrokers-clause-kept : goal.returns-in-ListBrokers-clause-kept
returns-in-ListBrokers-clause-kept g c =
    let t = g.T.ZTree.tree c.args.tree.now.inner in
    let row = c.args.row.now in
    let made = c.list_brokers in
    let elected = subst (HasEpoch row.epoch) (ap stage_of c.in-ListBrokers.is) c.requires.kept.elected in
    kept_step made.result row made.new.row (after_brokers (missing_broker (broker_ids t) row.view.image) (driver_of row)) made.ensures.ok made.ensures.err c.requires.kept
    (brokers_keep (missing_broker (broker_ids t) row.view.image) (driver_of row) elected)

pub returns-in-ReadControlZnodes-clause-kept : goal.returns-in-ReadControlZnodes-clause-kept
returns-in-ReadControlZnodes-clause-kept g c =
    let t = g.T.ZTree.tree c.args.tree.now.inner in
    let row = c.args.row.now in
    let made = c.read_control_znodes in
    let elected = subst (HasEpoch row.epoch) (ap stage_of c.in-ReadControlZnodes.is) c.requires.kept.elected in
    look_kept made.result row made.new.row (after_look (seen_in t) (driver_of row)) made.ensures.ok (made.ensures.can c.in-ReadControlZnodes.is) made.ensures.err c.requires.kept
    (look_lives (seen_in t) (driver_of row) elected c.requires.kept)

pub returns-in-ClaimLeadership-clause-kept : goal.returns-in-ClaimLeadership-clause-kept
returns-in-ClaimLeadership-clause-kept g c =
    let given = to_z w64 (of_z w64 c.args.now) in
    let t = g.T.ZTree.tree c.args.tree.now.inner in
    let row = c.args.row.now in
    let made = c.claim in
    let seen = c.in-ClaimLeadership.seen in
    let ops = claim_ops seen (driver_of row) given in
    let elected = subst (HasEpoch row.epoch) (ap stage_of c.in-ClaimLeadership.is) c.requires.kept.elected in
    kept_step made.result row made.new.row (after_claim_outcome (claim_outcome seen ops (multi t ops)) (driver_of row)) (made.ensures.driver seen c.in-ClaimLeadership.is) made.ensures.err c.requires.kept
    (claimed_keeps (claim_outcome seen ops (multi t ops)) (driver_of row) elected c.requires.kept)

pub returns-in-ScanForMigration-clause-kept : goal.returns-in-ScanForMigration-clause-kept
returns-in-ScanForMigration-clause-kept g c =
    let t = g.T.ZTree.tree c.args.tree.now.inner in
    let row = c.args.row.now in
    let made = c.scan_for_migration in
    let rows = c.in-ScanForMigration.scan in
    let is = c.in-ScanForMigration.is in
    let elected = subst (HasEpoch row.epoch) (ap stage_of is) c.requires.kept.elected in
    page_kept made.result row made.new.row rows (scan t (last_path rows) MAX_SCAN_ROWS) (λ all. stage.ScanForMigration all) (λ all. stage.BeginMigration all)
    (made.ensures.ok rows is) (made.ensures.rising rows is) made.ensures.err c.requires.kept (elected, tt) (elected, tt)

pub returns-in-BeginMigration-clause-kept : goal.returns-in-BeginMigration-clause-kept
returns-in-BeginMigration-clause-kept g c =
    let given = to_z w64 (of_z w64 c.args.now) in
    let l = g.L.MetaLog.log c.args.log.now.inner in
    let row = c.args.row.now in
    let made = c.begin_migration in
    let rows = c.in-BeginMigration.scan in
    let is = c.in-BeginMigration.is in
    let s = shared_of empty_tree l c.args.peers.now.declared in
    let elected = subst (HasEpoch row.epoch) (ap stage_of is) c.requires.kept.elected in
    kept_step made.result row made.new.row (after_translation s given (driver_of row) (translate rows)) (made.ensures.driver rows is empty_tree c.args.peers.now.declared) made.ensures.err c.requires.kept
    (translation_keeps s given (driver_of row) (translate rows) elected c.requires.kept)

pub returns-in-AppendRecords-clause-kept : goal.returns-in-AppendRecords-clause-kept
returns-in-AppendRecords-clause-kept g c =
    let given = to_z w64 (of_z w64 c.args.now) in
    let l = g.L.MetaLog.log c.args.log.now.inner in
    let row = c.args.row.now in
    let made = c.append_records in
    let records = c.in-AppendRecords.records in
    let is = c.in-AppendRecords.is in
    let said = append l (epoch_or_zero row.epoch) given (next_records records) in
    let elected = subst (HasEpoch row.epoch) (ap stage_of is) c.requires.kept.elected in
    kept_step made.result row made.new.row (after_append (after_records records) (driver_of row) said) (made.ensures.driver records is) made.ensures.err c.requires.kept
    (append_keeps (after_records records) (driver_of row) said elected (records_free row.epoch row.view records) c.requires.kept)

pub returns-in-ScanForResync-clause-kept : goal.returns-in-ScanForResync-clause-kept
returns-in-ScanForResync-clause-kept g c =
    let t = g.T.ZTree.tree c.args.tree.now.inner in
    let row = c.args.row.now in
    let made = c.scan_for_resync in
    let target = c.in-ScanForResync.target in
    let rows = c.in-ScanForResync.scan in
    let is = c.in-ScanForResync.is in
    let elected = subst (HasEpoch row.epoch) (ap stage_of is) c.requires.kept.elected in
    page_kept made.result row made.new.row rows (scan t (last_path rows) MAX_SCAN_ROWS) (λ all. stage.ScanForResync target all) (λ all. stage.WriteResync target (diff (map rendered_row all) (render row.view.image)))
    (made.ensures.ok target rows is) (made.ensures.rising target rows is) made.ensures.err c.requires.kept (elected, tt) (elected, tt)

-- a write keeps what is to be kept
write_kept : {E : Type 0} (scope : Scope) (r : Remainder) (t : Tree) (old new : DriverRow) (said : Result Reply E) → IfOk said (λ told. writes t old.claim r.ops r.target (λ rest. more_of scope r.target rest) (last_of scope) (driver_of old) ≡ (driver_of new, told)) → OnErr said (new ≡ old)
    → IsElected old.epoch → IsKept old.epoch old.view (stage_of old.stage) → IsKept new.epoch new.view (stage_of new.stage)
write_kept All r t old new said is same elected k = kept_step said old new (writes t old.claim r.ops r.target (λ rest. more_of All r.target rest) (last_of All) (driver_of old)) is same k
    (writes_keep t old.claim r.ops r.target (λ rest. more_of All r.target rest) (last_of All) (driver_of old) elected k (λ rest. (tt, tt)) (tt, tt))
write_kept Change r t old new said is same elected k = kept_step said old new (writes t old.claim r.ops r.target (λ rest. more_of Change r.target rest) (last_of Change) (driver_of old)) is same k
    (writes_keep t old.claim r.ops r.target (λ rest. more_of Change r.target rest) (last_of Change) (driver_of old) elected k (λ rest. (tt, tt)) (tt, tt))

pub returns-in-WriteResync-clause-kept : goal.returns-in-WriteResync-clause-kept
returns-in-WriteResync-clause-kept g c =
    let t = g.T.ZTree.tree c.args.tree.now.inner in
    let row = c.args.row.now in
    let made = c.write in
    let r = c.in-WriteResync.remaining in
    let some = ap held_remainder c.in-WriteResync.is in
    let elected = subst (HasEpoch row.epoch) (ap stage_of c.in-WriteResync.is) c.requires.kept.elected in
    write_kept (held_scope row.stage) r t row made.new.row made.result (made.ensures.driver r some) made.ensures.err elected c.requires.kept

pub returns-in-WriteDelta-clause-kept : goal.returns-in-WriteDelta-clause-kept
returns-in-WriteDelta-clause-kept g c =
    let t = g.T.ZTree.tree c.args.tree.now.inner in
    let row = c.args.row.now in
    let made = c.write-in-WriteDelta in
    let r = c.in-WriteDelta.remaining in
    let some = ap held_remainder c.in-WriteDelta.is in
    let elected = subst (HasEpoch row.epoch) (ap stage_of c.in-WriteDelta.is) c.requires.kept.elected in
    write_kept (held_scope row.stage) r t row made.new.row made.result (made.ensures.driver r some) made.ensures.err elected c.requires.kept

-- ---- views

pub returns-in-ScanForResync-clause-views : goal.returns-in-ScanForResync-clause-views
returns-in-ScanForResync-clause-views g c =
    let t = g.T.ZTree.tree c.args.tree.now.inner in
    let l = g.L.MetaLog.log c.args.log.now.inner in
    let row = c.args.row.now in
    let made = c.scan_for_resync in
    let target = c.in-ScanForResync.target in
    let rows = c.in-ScanForResync.scan in
    let is = c.in-ScanForResync.is in
    record {
      same_id = made.ensures.id;
      own_view = view_kept made.result row made.new.row (after_page rows (scan t (last_path rows) MAX_SCAN_ROWS) (λ all. stage.ScanForResync target all) (λ all. stage.WriteResync target (diff (map rendered_row all) (render row.view.image))) (driver_of row)) (IsViewOf l)
          (made.ensures.ok target rows is) made.ensures.err c.requires.view c.requires.view;
      views = λ v is_view. is_view;
    }
