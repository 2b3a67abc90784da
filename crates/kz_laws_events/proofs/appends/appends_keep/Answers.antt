use Rattle.kz_laws_events.proofs.StepCases.{begin_step, append_step}
use Rattle.kz_laws_events.proofs.Committed.{commit_agrees}
use Rattle.kz_laws_events.proofs.appends.appends_keep.Goals as goal

pub returns-clause-begin : goal.returns-clause-begin
returns-clause-begin c = begin_step

pub returns-clause-append : goal.returns-clause-append
returns-clause-append c = append_step

pub returns-clause-commit : goal.returns-clause-commit
returns-clause-commit c = commit_agrees
