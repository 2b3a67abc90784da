use Rattle.std.proofs.Common.{◌≡◌, ◌++◌, map}
use Rattle.kz_spec_data.specs.Rendering.{config_znode}
use Rattle.kz_render.proofs.configs.push_configs.Given as goal

abbrev pub invariant-loop-config : goal.invariant-loop-config
invariant-loop-config l = l.znodes.items ++ map config_znode l.config-iterator ≡ l.fn.znodes.items ++ map config_znode l.fn.configs
