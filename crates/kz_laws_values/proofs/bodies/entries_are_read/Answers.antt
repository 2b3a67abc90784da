use Rattle.kz_laws_values.proofs.Entries.{entries_are_read}
use Rattle.kz_laws_values.proofs.bodies.entries_are_read.Goals as goal

pub returns : goal.returns
returns c = entries_are_read
