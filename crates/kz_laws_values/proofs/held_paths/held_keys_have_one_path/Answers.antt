use Rattle.kz_laws_values.proofs.Keys.{one_key}
use Rattle.kz_laws_values.proofs.held_paths.held_keys_have_one_path.Goals as goal

pub returns : goal.returns
returns c = one_key c.args.one.now c.args.other.now c.requires.one c.key.ensures c.requires.other c.key-2.ensures
