use Rattle.kz_laws_values.proofs.RecordLengths.{record_least, read_least}
use Rattle.kz_laws_values.proofs.lengths.records_are_shortest.Goals as goal

pub returns-clause-spelled : goal.returns-clause-spelled
returns-clause-spelled c = record_least

pub returns-clause-read : goal.returns-clause-read
returns-clause-read c = read_least
