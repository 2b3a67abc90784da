use Rattle.kz_laws_values.proofs.Exact.{small_from_bytes}
use Rattle.kz_laws_values.proofs.WholeRecords.{spelled_is_read, read_is_spelled}
use Rattle.kz_laws_values.proofs.records.read_is_spelled.Goals as goal

pub returns-clause-accepted : goal.returns-clause-accepted
returns-clause-accepted c = λ text meta s. spelled_is_read meta text s

pub returns-clause-spelled : goal.returns-clause-spelled
returns-clause-spelled c = λ text meta small h. read_is_spelled meta text (small_from_bytes text small) h
