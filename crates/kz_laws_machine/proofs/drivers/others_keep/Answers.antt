use Rattle.kz_laws_machine.proofs.Claimed.{others_claimed}
use Rattle.kz_laws_machine.proofs.Written.{one_current, others_written}
use Rattle.kz_laws_machine.proofs.DriverUnchanged.{others_unchanged}
use Rattle.kz_laws_machine.proofs.Longer.{others_longer, others_committed}
use Rattle.kz_laws_machine.proofs.drivers.others_keep.Goals as goal

pub returns-clause-claim : goal.returns-clause-claim
returns-clause-claim c = others_claimed

pub returns-clause-current : goal.returns-clause-current
returns-clause-current c = one_current

pub returns-clause-write : goal.returns-clause-write
returns-clause-write c = others_written

pub returns-clause-unchanged : goal.returns-clause-unchanged
returns-clause-unchanged c = others_unchanged

pub returns-clause-batch : goal.returns-clause-batch
returns-clause-batch c = others_longer

pub returns-clause-commit : goal.returns-clause-commit
returns-clause-commit c = others_committed
