use Rattle.kz_laws_machine.proofs.Standing.{claim_has_migration, write_keeps_migration, client_keeps_migration, sessions_keep_migration}
use Rattle.kz_laws_machine.proofs.trees.migration_stays.Goals as goal

pub returns-clause-claim : goal.returns-clause-claim
returns-clause-claim c = claim_has_migration

pub returns-clause-write : goal.returns-clause-write
returns-clause-write c = write_keeps_migration

pub returns-clause-client : goal.returns-clause-client
returns-clause-client c = client_keeps_migration

pub returns-clause-session : goal.returns-clause-session
returns-clause-session c = sessions_keep_migration
