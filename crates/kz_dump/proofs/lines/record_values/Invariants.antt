use Rattle.std.proofs.Common.{◌≡◌, map, take}
use Rattle.serde_json.specs.View.{view}
use Rattle.kz_spec_data.specs.WrittenRecords.{record_data}
use Rattle.kz_dump.proofs.lines.record_values.Given as goal

abbrev pub invariant-loop-record : goal.invariant-loop-record
invariant-loop-record l = map view l.values.items ≡ map record_data (take l.record-index l.records)
