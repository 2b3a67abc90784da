use Rattle.kz_laws_znodes.proofs.AlikeImages.{alike_are_one}
use Rattle.kz_laws_znodes.proofs.images.look_ups_tell_all.Goals as goal

pub returns : goal.returns
returns c = alike_are_one
