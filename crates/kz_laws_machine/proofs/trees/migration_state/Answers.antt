use Rattle.kz_laws_machine.proofs.Migration.{plain_keeps_state, uncommitted_stays, commit_migrates}
use Rattle.kz_laws_machine.proofs.trees.migration_state.Goals as goal

pub returns-clause-plain : goal.returns-clause-plain
returns-clause-plain c = plain_keeps_state

pub returns-clause-commit : goal.returns-clause-commit
returns-clause-commit c = commit_migrates

pub returns-clause-uncommitted : goal.returns-clause-uncommitted
returns-clause-uncommitted c = uncommitted_stays
