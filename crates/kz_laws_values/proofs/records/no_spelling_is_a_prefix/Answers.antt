use Rattle.kz_laws_values.proofs.WholeRecords.{no_prefix}
use Rattle.kz_laws_values.proofs.records.no_spelling_is_a_prefix.Goals as goal

pub returns : goal.returns
returns c = no_prefix
