use Rattle.std.proofs.Common.{◌≡◌, ◌++◌, map, take}
use Rattle.kz_spec_data.specs.Translation.{quota_record}
use Rattle.kz_spec_data.specs.SnapshotRecords.{in_epoch}
use Rattle.kz_snapshot.proofs.metadata.push_quotas_of.Given as goal

abbrev pub invariant-loop-quota : goal.invariant-loop-quota
invariant-loop-quota l = l.records.items ≡ l.fn.records.items ++ map (in_epoch l.epoch) (map (quota_record l.key) (take l.quota-index l.quotas))
