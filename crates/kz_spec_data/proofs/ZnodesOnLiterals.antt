-- What a proof unfolds to compute the definitions of this crate on a literal.
use Rattle.std.specs.Prelude.{⊤}
use Rattle.kz_spec_data.proofs.BodiesOnLiterals.{bodies_on_literals}
use Rattle.kz_spec_data.proofs.StoresOnLiterals.{stores_on_literals}
use Rattle.kz_spec_data.specs.Rendering.{render}
use Rattle.kz_spec_data.specs.Translation.{translate}
use Rattle.kz_spec_data.specs.Difference.{diff}

unfoldable pub znodes_on_literals : ⊤
unfolding bodies_on_literals stores_on_literals render translate diff
znodes_on_literals = tt
