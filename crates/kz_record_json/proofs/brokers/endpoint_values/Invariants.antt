use Rattle.std.proofs.Common.{◌≡◌, map, take}
use Rattle.serde_json.specs.View.{view}
use Rattle.kz_spec_data.specs.WrittenRecords.{endpoint_data}
use Rattle.kz_record_json.proofs.brokers.endpoint_values.Given as goal

abbrev pub invariant-loop-endpoint : goal.invariant-loop-endpoint
invariant-loop-endpoint l = map view l.values.items ≡ map endpoint_data (take l.endpoint-index l.endpoints)
