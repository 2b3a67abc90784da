use Rattle.std.proofs.Common.{◌≡◌, map, take}
use Rattle.serde_json.specs.View.{view}
use Rattle.kz_spec_data.specs.WrittenRecords.{feature_data}
use Rattle.kz_record_json.proofs.brokers.feature_values.Given as goal

abbrev pub invariant-loop-feature : goal.invariant-loop-feature
invariant-loop-feature l = map view l.values.items ≡ map feature_data (take l.feature-index l.features)
