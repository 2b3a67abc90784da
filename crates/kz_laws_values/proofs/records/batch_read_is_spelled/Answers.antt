use Rattle.kz_laws_values.proofs.Exact.{small_from_bytes}
use Rattle.kz_laws_values.proofs.Batches.{batch_is_read, read_is_batch}
use Rattle.kz_laws_values.proofs.records.batch_read_is_spelled.Goals as goal

pub returns-clause-accepted : goal.returns-clause-accepted
returns-clause-accepted c = batch_is_read

pub returns-clause-spelled : goal.returns-clause-spelled
returns-clause-spelled c = λ bytes batch small h. read_is_batch bytes batch (small_from_bytes bytes small) h
