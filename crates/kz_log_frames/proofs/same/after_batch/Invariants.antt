use Rattle.std.proofs.Common.{◌≡◌, ◌++◌, List, map, drop}
use Rattle.kz_types.specs.declared.log.EpochRecord.{EpochRecord}
use Rattle.kz_spec_data.specs.SnapshotRecords.{in_epoch}
use Rattle.kz_spec_data.specs.LogFile.{same_records}
use Rattle.kz_log_frames.proofs.same.after_batch.Given as goal

abbrev pub invariant-loop-item : goal.invariant-loop-item
invariant-loop-item l = (more : List EpochRecord) → same_records (map (in_epoch l.epoch) (drop l.item-index l.items) ++ more) l.rest ≡ same_records (map (in_epoch l.epoch) l.items ++ more) l.others
