use Rattle.kz_laws_values.proofs.QuotaBodies.{quotas_are_read}
use Rattle.kz_laws_values.proofs.bodies.quotas_are_read.Goals as goal

pub returns : goal.returns
returns c = quotas_are_read
