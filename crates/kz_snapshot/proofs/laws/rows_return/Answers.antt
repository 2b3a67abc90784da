use Rattle.kz_laws_znodes.proofs.Batches.{batches_return}
use Rattle.kz_snapshot.proofs.laws.rows_return.Goals as goal

pub returns : goal.returns
returns c = batches_return c.args.image.now c.is_held.ensures.order c.is_held.ensures.writable c.args._epoch
