use Rattle.kz_laws_values.proofs.Keys.{path_holds}
use Rattle.kz_laws_values.proofs.held_paths.held_key_has_its_path.Goals as goal

pub returns : goal.returns
returns c = path_holds c.args.entity.now c.requires c.key.ensures
