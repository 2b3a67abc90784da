use Rattle.kz_laws_values.proofs.Names.{name_is_read, part_is_written}
use Rattle.kz_laws_values.proofs.paths.names_are_restored.Goals as goal

pub returns-clause-read : goal.returns-clause-read
returns-clause-read c = name_is_read

pub returns-clause-written : goal.returns-clause-written
returns-clause-written c = part_is_written
