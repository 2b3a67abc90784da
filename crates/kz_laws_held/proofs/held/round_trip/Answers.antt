use Rattle.kz_laws_znodes.proofs.Returns.{returns as all_returns}
use Rattle.kz_laws_held.proofs.held.round_trip.Goals as goal

pub returns : goal.returns
returns c = all_returns c.args.i.now c.is_held.ensures.order c.is_held.ensures.writable c.requires
