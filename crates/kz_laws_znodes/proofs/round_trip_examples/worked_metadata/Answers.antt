use Rattle.kz_laws_znodes.proofs.Worked.{in_order, writable}
use Rattle.kz_laws_znodes.proofs.round_trip_examples.worked_metadata.Goals as goal

pub returns-clause-order : goal.returns-clause-order
returns-clause-order c = in_order

pub returns-clause-writable : goal.returns-clause-writable
returns-clause-writable c = writable
