use Rattle.kz_types.proofs.KeyLemmas.{path_of_key_of}
use Rattle.kz_laws_values.proofs.Texts.{key_good}
use Rattle.kz_laws_values.proofs.paths.key_has_its_path.Goals as goal

pub returns-clause-path : goal.returns-clause-path
returns-clause-path c = path_of_key_of

pub returns-clause-legal : goal.returns-clause-legal
returns-clause-legal c = λ path key rule holds. (key_good path key rule holds).0

pub returns-clause-texts : goal.returns-clause-texts
returns-clause-texts c = λ path key rule holds. (key_good path key rule holds).1
