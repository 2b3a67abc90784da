use Rattle.kz_laws_held.proofs.Alike.{one_rendering}
use Rattle.kz_laws_held.proofs.held.one_rendering.Goals as goal

pub returns : goal.returns
returns c = one_rendering c.args.one.now c.args.other.now c.round_trip.ensures c.round_trip-2.ensures c.requires.rendering
