use Rattle.std.proofs.Common.{subst}
use Rattle.kz_laws_znodes.specs.Writable.{IsHeld}
use Rattle.kz_image.proofs.image.Image.is_held.Goals as goal

pub returns : goal.returns
returns c = subst IsHeld c.self.view_is c.self.invariant
