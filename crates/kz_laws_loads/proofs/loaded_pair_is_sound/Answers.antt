use Rattle.kz_laws_loads.proofs.Pairs.{loaded_pair}
use Rattle.kz_laws_loads.proofs.loaded_pair_is_sound.Goals as goal

pub returns : goal.returns
returns c = loaded_pair
