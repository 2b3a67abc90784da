use Rattle.kz_laws_rest.proofs.Clients.{event_leaves, step_kept, none_claims}
use Rattle.kz_laws_rest.proofs.clients_keep_step.Goals as goal

pub returns-clause-held : goal.returns-clause-held
returns-clause-held c = event_leaves

pub returns-clause-step : goal.returns-clause-step
returns-clause-step c = step_kept

pub returns-clause-unclaimed : goal.returns-clause-unclaimed
returns-clause-unclaimed c = none_claims
