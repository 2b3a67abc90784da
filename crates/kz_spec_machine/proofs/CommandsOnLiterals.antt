-- What a proof unfolds to compute the definitions of this crate on a literal.
use Rattle.std.specs.Prelude.{⊤}
use Rattle.kz_types.proofs.OnLiterals.{values_on_literals}
use Rattle.kz_spec_data.proofs.FilesOnLiterals.{files_on_literals}
use Rattle.kz_spec_machine.proofs.MachineOnLiterals.{machine_on_literals}
use Rattle.kz_spec_machine.proofs.DumpsOnLiterals.{dumps_on_literals}

unfoldable pub commands_on_literals : ⊤
unfolding values_on_literals files_on_literals machine_on_literals dumps_on_literals
commands_on_literals = tt
