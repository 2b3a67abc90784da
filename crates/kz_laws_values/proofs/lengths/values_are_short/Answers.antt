use Rattle.kz_laws_values.proofs.ValueLengths.{batch_values_short}
use Rattle.kz_laws_values.proofs.lengths.values_are_short.Goals as goal

pub returns : goal.returns
returns c = batch_values_short
