use Rattle.kz_laws_values.proofs.WrittenBatches.{written_is_batch, written_batch_is_read}
use Rattle.kz_laws_values.proofs.records.written_batch_is_spelled.Goals as goal

pub returns-clause-spelled : goal.returns-clause-spelled
returns-clause-spelled c = written_is_batch

pub returns-clause-accepted : goal.returns-clause-accepted
returns-clause-accepted c = written_batch_is_read
