use Rattle.kz_laws_znodes.proofs.Suffice.{touched_suffices}
use Rattle.kz_laws_znodes.proofs.delta.touched_suffices.Goals as goal

pub returns : goal.returns
returns c = touched_suffices
