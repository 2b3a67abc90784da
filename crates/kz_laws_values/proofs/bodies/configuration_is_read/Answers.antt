use Rattle.kz_laws_values.proofs.Configs.{config_is_read}
use Rattle.kz_laws_values.proofs.bodies.configuration_is_read.Goals as goal

pub returns : goal.returns
returns c = config_is_read
