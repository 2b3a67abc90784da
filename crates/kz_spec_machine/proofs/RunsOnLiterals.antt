-- What a proof unfolds to compute the definitions of this crate on a literal.
use Rattle.std.specs.Prelude.{⊤}
use Rattle.kz_spec_data.proofs.LinesOnLiterals.{lines_on_literals}
use Rattle.kz_spec_machine.proofs.MachineOnLiterals.{machine_on_literals}
use Rattle.kz_spec_machine.specs.Output.{outcome, progress_of}
use Rattle.kz_spec_machine.specs.Moments.{moments, turn_moments}

unfoldable pub runs_on_literals : ⊤
unfolding lines_on_literals machine_on_literals outcome progress_of moments turn_moments
runs_on_literals = tt
