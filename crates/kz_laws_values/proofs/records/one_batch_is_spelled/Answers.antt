use Rattle.kz_laws_values.proofs.Batches.{one_batch}
use Rattle.kz_laws_values.proofs.records.one_batch_is_spelled.Goals as goal

pub returns : goal.returns
returns c = one_batch
