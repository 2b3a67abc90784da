use Rattle.kz_laws_machine.proofs.NeverRefused.{difference_taken, write_taken, multi_fails}
use Rattle.kz_laws_machine.proofs.trees.never_refused.Goals as goal

pub returns-clause-difference : goal.returns-clause-difference
returns-clause-difference c = difference_taken

pub returns-clause-write : goal.returns-clause-write
returns-clause-write c = write_taken

pub returns-clause-faults : goal.returns-clause-faults
returns-clause-faults c = multi_fails
