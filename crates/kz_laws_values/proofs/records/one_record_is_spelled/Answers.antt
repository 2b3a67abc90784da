use Rattle.kz_laws_values.proofs.WholeRecords.{one_record}
use Rattle.kz_laws_values.proofs.records.one_record_is_spelled.Goals as goal

pub returns : goal.returns
returns c = one_record
