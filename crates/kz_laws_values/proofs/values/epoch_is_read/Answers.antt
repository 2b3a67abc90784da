use Rattle.kz_laws_values.proofs.Control.{epoch_is_read}
use Rattle.kz_laws_values.proofs.values.epoch_is_read.Goals as goal

pub returns : goal.returns
returns c = epoch_is_read
