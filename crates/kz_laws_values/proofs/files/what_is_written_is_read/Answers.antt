use Rattle.kz_laws_values.proofs.Fronts.{frame_is_read, seal_is_read}
use Rattle.kz_laws_values.proofs.files.what_is_written_is_read.Goals as goal

pub returns-clause-frame : goal.returns-clause-frame
returns-clause-frame c = frame_is_read

pub returns-clause-seal : goal.returns-clause-seal
returns-clause-seal c = seal_is_read
