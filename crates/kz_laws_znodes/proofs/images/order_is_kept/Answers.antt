use Rattle.kz_laws_znodes.proofs.Steps.{applied_keeps, all_applied_keeps}
use Rattle.kz_laws_znodes.proofs.images.order_is_kept.Goals as goal

pub returns-clause-applied : goal.returns-clause-applied
returns-clause-applied c = applied_keeps

pub returns-clause-all_applied : goal.returns-clause-all_applied
returns-clause-all_applied c = all_applied_keeps
