-- What an event does to the disks below the tree and the log: which store it asks, by its own refusals, and what the answer of
-- that store says of its disk.
use Rattle.std.specs.Prelude.{◌≡◌, ⊤, false, ℤ, List, Option, Some, None, option_map, Result, Ok}
use Rattle.kz_types.specs.declared.plan.Plan.{Plan}
use Rattle.kz_types.specs.declared.machine.Event.{Event}
use Rattle.kz_types.specs.declared.machine.Event.TheVariants as event
use Rattle.kz_types.specs.declared.machine.Answer.{Answer}
use Rattle.kz_types.specs.declared.machine.Answer.TheVariants as answer
use Rattle.kz_types.specs.declared.record.MetaRecord.{MetaRecord}
use Rattle.kz_spec_data.specs.Requests.{Disk, Multi, BeginSession, EndSession, Append, Elect, Reset, Snapshot}
use Rattle.kz_spec_data.specs.Tree.{multi, begin_session, end_session, migration_record}
use Rattle.kz_spec_data.specs.Log.{Log, append, elect, image_of, begun_of}
use Rattle.kz_spec_machine.specs.Driver.{Shared, Driver, least}
use Rattle.kz_spec_machine.specs.Machine.{World, running_ids, driver_of, running_refusal, leader_refusal, client_refusal, election_records, registration, final_records, exit_ops, snapshot_refusal, snapshot_offset}
use Rattle.kz_world_parts.specs.declared.faults.EventFault.{EventFault}
use Rattle.kz_log.specs.Requests.{made_by_snapshot}
use Rattle.kz_driver.specs.Disks.{Disks, disks_of, Payloads}
use Rattle.kz_world_parts.specs.TurnDisks.{StepRequestDisks, TurnDisks}
use Rattle.kz_exit.specs.declared.faults.ExitFault.{ExitFault}
use Rattle.kz_exit.specs.Disks.{LogDisk, TreeDisk}
use Rattle.kz_world_parts.specs.Faults.{result_of_answer, after_exit}
use Rattle.kz_world_parts.specs.Stores.{AsksNothing, ReadsLog, ChangesTree, ChangesLog}
use Rattle.kz_world_parts.specs.Refusals.{records_refusal, end_refusal}
use Rattle.kz_world_parts.specs.Worlds.{WorldOver}

-- the disks below the stores of a world, of which this is told
abbrev pub disks_in : {T L : Type 0} → (T → Disk) → (L → Disk) → WorldOver T L → Disks
disks_in tree log w = disks_of (tree w.tree) (log w.log)

-- ---- a turn

-- A turn reads the log, for the bound on its steps, and makes its steps.
abbrev pub DriverTurnDisks : World → ℤ → Driver → Payloads → Result Answer EventFault → Disks → Disks → Type 0
DriverTurnDisks w now d payloads (Ok (answer.Turn replies)) old new = (old.log.down ≡ false) × TurnDisks w.shared (running_ids w.drivers) now d payloads replies old new
DriverTurnDisks w now d payloads r old new = ReadsLog r old new

abbrev pub TurnEventDisks : World → ℤ → Option Driver → Payloads → Result Answer EventFault → Disks → Disks → Type 0
TurnEventDisks w now None payloads r old new = AsksNothing r old new
TurnEventDisks w now (Some d) payloads r old new = DriverTurnDisks w now d payloads r old new

-- A step asks one store, or none; out of memory before that, it asks none.
abbrev pub DriverStepDisks : Plan → World → ℤ → Option Driver → Payloads → Result Answer EventFault → Disks → Disks → Type 0
DriverStepDisks p w now (Some d) payloads (Ok (answer.Step told)) old new = StepRequestDisks p w.shared now d payloads told old new
DriverStepDisks p w now d payloads r old new = AsksNothing r old new

-- ---- an event

-- what holds where there is no refusal, and where there is one
abbrev pub UnlessRefused : Option Answer → Type 0 → Type 0 → Type 0
UnlessRefused None asks refused = asks
UnlessRefused (Some refusal) asks refused = refused

-- the records are appended to the log
abbrev pub AppendsRecords : Log → List MetaRecord → ℤ → Payloads → Result Answer EventFault → Disks → Disks → Type 0
AppendsRecords log records now payloads r old new = ChangesLog (append log log.epoch now records) (payloads.log log (Append log.epoch now records)) r old new

-- a controller is elected
abbrev pub ElectsController : Log → ℤ → Payloads → Result Answer EventFault → Disks → Disks → Type 0
ElectsController log now payloads r old new = ChangesLog (elect log now (election_records log)) (payloads.log log (Elect now (election_records log))) r old new

-- the log is cut at this offset; without one it is only read
abbrev pub CutsLog : Log → Option ℤ → Payloads → Result Answer EventFault → Disks → Disks → Type 0
CutsLog log None payloads r old new = ReadsLog r old new
CutsLog log (Some at) payloads r old new = ChangesLog (made_by_snapshot log at) (payloads.log log (Snapshot at)) r old new

-- A rollback by its own result: what it did to the log's disk, and then to the tree's.
pub record TakesBack (s : Shared) (payloads : Payloads) (r : Result Answer EventFault) (old new : Disks) : Type 0 where
  pub result : Result ⊤ ExitFault
  pub told : r ≡ after_exit result
  pub log : LogDisk (payloads.log s.log Reset) result old.log new.log
  pub tree : TreeDisk s.tree payloads.tree (exit_ops s.tree) result old.tree new.tree

-- What an event does to the disks, by its answer or the fault that it tells. Where a rule of the event itself refuses it, no
-- store is asked, or the log is only read.
abbrev pub ResultDisks : World → Event → Payloads → Result Answer EventFault → Disks → Disks → Type 0
ResultDisks w (event.Quorum ids) payloads r old new = AsksNothing r old new
ResultDisks w (event.Start id) payloads r old new = AsksNothing r old new
ResultDisks w (event.Stop controller) payloads r old new = AsksNothing r old new
ResultDisks w (event.Step id now p) payloads r old new = UnlessRefused (running_refusal w id)
    (DriverStepDisks p w now (driver_of id w.drivers) payloads r old new)
    (AsksNothing r old new)
ResultDisks w (event.Elect id now) payloads r old new = UnlessRefused (running_refusal w id)
    (ElectsController w.shared.log now payloads r old new)
    (AsksNothing r old new)
ResultDisks w (event.Turn id now) payloads r old new = UnlessRefused (running_refusal w id)
    (TurnEventDisks w now (driver_of id w.drivers) payloads r old new)
    (AsksNothing r old new)
ResultDisks w (event.Change id records now) payloads r old new = UnlessRefused (leader_refusal w id)
    (UnlessRefused (records_refusal w.shared.log.epoch (image_of w.shared.log) records)
    (AppendsRecords w.shared.log records now payloads r old new)
    (ReadsLog r old new))
    (AsksNothing r old new)
ResultDisks w (event.Register id broker migrating now) payloads r old new = UnlessRefused (leader_refusal w id)
    (UnlessRefused (option_map (λ offset. answer.InTransaction offset) (begun_of w.shared.log))
    (AppendsRecords w.shared.log (registration broker migrating) now payloads r old new)
    (ReadsLog r old new))
    (AsksNothing r old new)
ResultDisks w (event.Finalise id now) payloads r old new = UnlessRefused (leader_refusal w id)
    (UnlessRefused (end_refusal w id)
    (AppendsRecords w.shared.log final_records now payloads r old new)
    (ReadsLog r old new))
    (AsksNothing r old new)
ResultDisks w event.Rollback payloads r old new = UnlessRefused (option_map (λ id. answer.Running id) (least (running_ids w.drivers)))
    (TakesBack w.shared payloads r old new)
    (AsksNothing r old new)
ResultDisks w event.Snapshot payloads r old new = UnlessRefused (snapshot_refusal w)
    (CutsLog w.shared.log (snapshot_offset (migration_record w.shared.tree) w.shared.log) payloads r old new)
    (ReadsLog r old new)
ResultDisks w event.Check payloads r old new = ReadsLog r old new
ResultDisks w (event.ZkOpen session) payloads r old new = ChangesTree (begin_session w.shared.tree session) (payloads.tree w.shared.tree (BeginSession session)) r old new
ResultDisks w (event.ZkExpire session) payloads r old new = ChangesTree (end_session w.shared.tree session) (payloads.tree w.shared.tree (EndSession session)) r old new
ResultDisks w (event.Zk ops) payloads r old new = UnlessRefused (client_refusal w.shared.tree ops)
    (ChangesTree (multi w.shared.tree ops) (payloads.tree w.shared.tree (Multi ops)) r old new)
    (AsksNothing r old new)

-- the same by the answer
abbrev pub EventDisks : World → Event → Payloads → Answer → Disks → Disks → Type 0
EventDisks w e payloads a old new = ResultDisks w e payloads (result_of_answer a) old new
