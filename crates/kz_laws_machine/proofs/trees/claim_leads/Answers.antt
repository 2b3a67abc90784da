use Rattle.kz_laws_machine.proofs.Claim.{claim_gives_version, claim_shows}
use Rattle.kz_laws_machine.proofs.Beside.{claim_leaves, claim_records}
use Rattle.kz_laws_machine.proofs.trees.claim_leads.Goals as goal

pub returns-clause-version : goal.returns-clause-version
returns-clause-version c = claim_gives_version

pub returns-clause-shown : goal.returns-clause-shown
returns-clause-shown c = claim_shows

pub returns-clause-area : goal.returns-clause-area
returns-clause-area c = claim_leaves

pub returns-clause-none : goal.returns-clause-none
returns-clause-none c = claim_records
