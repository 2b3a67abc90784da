use Rattle.kz_laws_znodes.proofs.DeltaAlike.{covered}
use Rattle.kz_laws_znodes.proofs.delta.keys_cover_renderings.Goals as goal

pub returns : goal.returns
returns c = λ old new oo wo on wn ks same. covered old new oo wo on wn ks same
