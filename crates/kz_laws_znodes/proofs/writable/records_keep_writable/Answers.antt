use Rattle.kz_laws_znodes.proofs.KeptWritable.{empty, kept}
use Rattle.kz_laws_znodes.proofs.writable.records_keep_writable.Goals as goal

pub returns-clause-empty : goal.returns-clause-empty
returns-clause-empty c = empty

pub returns-clause-kept : goal.returns-clause-kept
returns-clause-kept c = λ i epoch r w. kept i w epoch r
