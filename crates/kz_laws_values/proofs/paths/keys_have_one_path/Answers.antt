use Rattle.kz_laws_values.proofs.Keys.{one_key}
use Rattle.kz_laws_values.proofs.paths.keys_have_one_path.Goals as goal

pub returns : goal.returns
returns c = one_key
