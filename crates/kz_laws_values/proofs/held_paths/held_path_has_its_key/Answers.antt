use Rattle.kz_types.proofs.KeyLemmas.{path_of_key_of}
use Rattle.kz_laws_values.proofs.Texts.{key_good}
use Rattle.kz_laws_values.proofs.held_paths.held_path_has_its_key.Goals as goal

pub returns-clause-path : goal.returns-clause-path
returns-clause-path c = λ entity holds. path_of_key_of c.args.path.now entity c.rule.ensures holds

pub returns-clause-legal : goal.returns-clause-legal
returns-clause-legal c = λ entity holds. (key_good c.args.path.now entity c.rule.ensures holds).0
