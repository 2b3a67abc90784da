use Rattle.std.proofs.Common.{◌≡◌, ◌++◌, drop}
use Rattle.std.specs.Prelude.{option_map}
use Rattle.serde_json.specs.View.{items_view}
use Rattle.kz_spec_data.specs.Bodies.{brokers_in}
use Rattle.kz_json.proofs.brokers.brokers_in.Given as goal

abbrev pub invariant-loop-value : goal.invariant-loop-value
invariant-loop-value l = brokers_in (items_view l.values) ≡ option_map (λ more. l.ids ++ more) (brokers_in (items_view (drop l.value-index l.values)))
