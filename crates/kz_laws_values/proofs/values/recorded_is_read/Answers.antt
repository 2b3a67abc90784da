use Rattle.kz_laws_values.proofs.Control.{recorded_is_read}
use Rattle.kz_laws_values.proofs.values.recorded_is_read.Goals as goal

pub returns : goal.returns
returns c = recorded_is_read
