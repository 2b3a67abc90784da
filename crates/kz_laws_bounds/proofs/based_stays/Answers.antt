use Rattle.kz_laws_bounds.proofs.BasedEvents.{event_based, opened_based, run_based}
use Rattle.kz_laws_bounds.proofs.based_stays.Goals as goal

pub returns-clause-event : goal.returns-clause-event
returns-clause-event c = event_based

pub returns-clause-opened : goal.returns-clause-opened
returns-clause-opened c = opened_based

pub returns-clause-run : goal.returns-clause-run
returns-clause-run c = run_based
