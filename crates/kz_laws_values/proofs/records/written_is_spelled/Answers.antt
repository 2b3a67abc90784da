use Rattle.kz_laws_values.proofs.WrittenForms.{written_is_spelled, written_is_read}
use Rattle.kz_laws_values.proofs.records.written_is_spelled.Goals as goal

pub returns-clause-spelled : goal.returns-clause-spelled
returns-clause-spelled c = written_is_spelled

pub returns-clause-accepted : goal.returns-clause-accepted
returns-clause-accepted c = written_is_read
