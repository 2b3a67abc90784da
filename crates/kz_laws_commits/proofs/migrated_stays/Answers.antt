use Rattle.kz_laws_commits.proofs.After.{step_same, migrated_stays}
use Rattle.kz_laws_commits.proofs.migrated_stays.Goals as goal

pub returns-clause-step : goal.returns-clause-step
returns-clause-step c = step_same

pub returns-clause-event : goal.returns-clause-event
returns-clause-event c = migrated_stays
