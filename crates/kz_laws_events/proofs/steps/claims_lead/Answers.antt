use Rattle.kz_laws_events.proofs.Claiming.{claim_leads}
use Rattle.kz_laws_events.proofs.steps.claims_lead.Goals as goal

pub returns : goal.returns
returns c = claim_leads
