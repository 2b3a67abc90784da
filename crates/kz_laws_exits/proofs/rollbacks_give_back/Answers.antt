use Rattle.kz_laws_exits.proofs.GivenBack.{rollback_gives_back, rollback_goes_on}
use Rattle.kz_laws_exits.proofs.NoCode.{rollback_meets_no_code}
use Rattle.kz_laws_exits.proofs.Again.{rollback_resumes, rollback_repeats}
use Rattle.kz_laws_exits.proofs.rollbacks_give_back.Goals as goal

pub returns-clause-done : goal.returns-clause-done
returns-clause-done c = rollback_gives_back

pub returns-clause-resumed : goal.returns-clause-resumed
returns-clause-resumed c = rollback_goes_on

pub returns-clause-resumed_elsewhere : goal.returns-clause-resumed_elsewhere
returns-clause-resumed_elsewhere c = rollback_resumes

pub returns-clause-repeated : goal.returns-clause-repeated
returns-clause-repeated c = rollback_repeats

pub returns-clause-taken : goal.returns-clause-taken
returns-clause-taken c = rollback_meets_no_code
