use Rattle.kz_laws_exits.proofs.Again.{early_claim, claim_after_reset}
use Rattle.kz_laws_exits.proofs.claims_begin_anew.Goals as goal

pub returns-clause-early : goal.returns-clause-early
returns-clause-early c = early_claim

pub returns-clause-reset : goal.returns-clause-reset
returns-clause-reset c = claim_after_reset
