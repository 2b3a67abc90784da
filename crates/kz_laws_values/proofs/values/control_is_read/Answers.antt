use Rattle.kz_laws_values.proofs.Control.{control_is_read}
use Rattle.kz_laws_values.proofs.values.control_is_read.Goals as goal

pub returns : goal.returns
returns c = λ id epoch now i e n. control_is_read id epoch now (record { id_is = i; epoch_is = e; now_is = n })
