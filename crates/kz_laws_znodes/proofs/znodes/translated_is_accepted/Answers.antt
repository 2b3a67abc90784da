use Rattle.kz_laws_znodes.proofs.WholeZnodes.{translated_is_accepted}
use Rattle.kz_laws_znodes.proofs.znodes.translated_is_accepted.Goals as goal

pub returns : goal.returns
returns c = translated_is_accepted
