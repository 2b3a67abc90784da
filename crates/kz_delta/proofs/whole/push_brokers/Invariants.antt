use Rattle.std.proofs.Common.{◌≡◌, ◌++◌, map}
use Rattle.kz_types.specs.declared.image.Configuration.{Configuration}
use Rattle.kz_spec_data.specs.Rendering.{broker_key}
use Rattle.kz_delta.proofs.whole.push_brokers.Given as goal

abbrev pub invariant-loop-config : goal.invariant-loop-config
invariant-loop-config l = l.keys.items ++ map (λ (c : Configuration). broker_key c.name) l.config-iterator ≡ l.fn.keys.items ++ map (λ (c : Configuration). broker_key c.name) l.fn.configs
