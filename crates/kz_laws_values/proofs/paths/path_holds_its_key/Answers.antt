use Rattle.kz_laws_values.proofs.Keys.{path_holds}
use Rattle.kz_laws_values.proofs.paths.path_holds_its_key.Goals as goal

pub returns : goal.returns
returns c = path_holds
