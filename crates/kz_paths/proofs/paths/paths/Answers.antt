use Rattle.kz_types.specs.PathRule.{is_path}
use Rattle.kz_paths.proofs.Tables.{all_lent}
use Rattle.kz_paths.proofs.paths.paths.Goals as goal

pub path-requires : goal.path-requires
path-requires c = all_lent is_path c.args.texts.now c.loop-text.text-index _ c.requires c.loop-text-test.true
