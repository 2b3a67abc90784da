use Rattle.std.proofs.Common.{◌≡◌, ◌++◌, drop}
use Rattle.std.specs.Prelude.{option_map}
use Rattle.serde_json.specs.View.{items_view}
use Rattle.kz_spec_data.specs.LineFields.{all_of}
use Rattle.kz_spec_data.specs.BrokerRecords.{feature_of}
use Rattle.kz_record_json.proofs.brokers.features_in.Given as goal

abbrev pub invariant-loop-value : goal.invariant-loop-value
invariant-loop-value l = all_of feature_of (items_view l.values) ≡ option_map (λ more. l.features ++ more) (all_of feature_of (items_view (drop l.value-index l.values)))
