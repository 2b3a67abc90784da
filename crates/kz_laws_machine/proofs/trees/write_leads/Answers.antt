use Rattle.kz_laws_machine.proofs.Multi.{multi_ran, shape_kept, write_keeps_shape, area_after_write, remaining_after_write, write_keeps_version, last_write}
use Rattle.kz_laws_machine.proofs.Claim.{write_keeps_shown}
use Rattle.kz_laws_machine.proofs.Later.{not_last_unclosed}
use Rattle.kz_laws_machine.proofs.Beside.{write_keeps_recorded}
use Rattle.kz_laws_machine.proofs.trees.write_leads.Goals as goal

pub returns-clause-applies : goal.returns-clause-applies
returns-clause-applies c = area_after_write

pub returns-clause-leaves : goal.returns-clause-leaves
returns-clause-leaves c = remaining_after_write

pub returns-clause-claim : goal.returns-clause-claim
returns-clause-claim c = write_keeps_version

pub returns-clause-last : goal.returns-clause-last
returns-clause-last c = last_write

pub returns-clause-shown : goal.returns-clause-shown
returns-clause-shown c = write_keeps_shown

pub returns-clause-earlier : goal.returns-clause-earlier
returns-clause-earlier c = λ t new i claim target shape more is. (
  write_keeps_recorded t new i claim target more is,
  not_last_unclosed t new i claim target shape (shape_kept t new _ (multi_ran t new _ is) (write_keeps_shape t i claim target) shape) more is,
)
