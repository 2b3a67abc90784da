use Rattle.kz_laws_znodes.proofs.Suffice.{touched_cover}
use Rattle.kz_laws_znodes.proofs.delta.touched_cover.Goals as goal

pub returns : goal.returns
returns c = touched_cover
