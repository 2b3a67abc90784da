use Rattle.kz_laws_commits.proofs.Steps.{step_copies}
use Rattle.kz_laws_commits.proofs.Own.{commit_translates}
use Rattle.kz_laws_commits.proofs.Events.{event_copies, run_copies}
use Rattle.kz_laws_commits.proofs.commits_translate.Goals as goal

pub returns-clause-step : goal.returns-clause-step
returns-clause-step c = step_copies

pub returns-clause-commit : goal.returns-clause-commit
returns-clause-commit c = commit_translates

pub returns-clause-event : goal.returns-clause-event
returns-clause-event c = event_copies

pub returns-clause-run : goal.returns-clause-run
returns-clause-run c = run_copies
