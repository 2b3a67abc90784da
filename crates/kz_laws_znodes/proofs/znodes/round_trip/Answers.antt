use Rattle.kz_laws_znodes.proofs.Returns.{returns as all_returns}
use Rattle.kz_laws_znodes.proofs.znodes.round_trip.Goals as goal

pub returns : goal.returns
returns c = all_returns
