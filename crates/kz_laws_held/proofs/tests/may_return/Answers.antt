use Rattle.std.proofs.Common.{sym, ◌∙◌, subst}
use Rattle.kz_laws_znodes.specs.RoundTrip.{MayReturn}
use Rattle.kz_laws_held.proofs.tests.may_return.Goals as goal

pub returns : goal.returns
returns c = subst MayReturn (sym (c.requires ∙ c.worked_is_made.ensures)) c.worked_metadata.ensures.returns
