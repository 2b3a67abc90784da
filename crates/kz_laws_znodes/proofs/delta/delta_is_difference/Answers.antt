use Rattle.kz_laws_znodes.proofs.DeltaAlike.{delta_of_paths}
use Rattle.kz_laws_znodes.proofs.delta.delta_is_difference.Goals as goal

pub returns : goal.returns
returns c = λ old new oo wo on wn ks same paths rises within. delta_of_paths old new oo wo on wn ks same paths rises within
