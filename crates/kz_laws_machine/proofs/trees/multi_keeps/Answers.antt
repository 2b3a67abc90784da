use Rattle.kz_laws_machine.proofs.Multi.{multi_ran, shape_kept, outside_left, write_keeps_shape}
use Rattle.kz_laws_machine.proofs.Claim.{claim_keeps_shape}
use Rattle.kz_laws_machine.proofs.trees.multi_keeps.Goals as goal

pub returns-clause-shape : goal.returns-clause-shape
returns-clause-shape c = λ t new ops is keeps shape. let m = multi_ran t new ops is in (m.zxid, shape_kept t new ops m keeps shape)

pub returns-clause-area : goal.returns-clause-area
returns-clause-area c = outside_left

pub returns-clause-claim : goal.returns-clause-claim
returns-clause-claim c = claim_keeps_shape

pub returns-clause-write : goal.returns-clause-write
returns-clause-write c = write_keeps_shape
