use Rattle.kz_path.proofs.KeyParts.{belongs}
use Rattle.kz_path.proofs.keys.key_of.Goals as goal

pub returns-clause-path : goal.returns-clause-path
returns-clause-path c = belongs c.args.path.now c.key_of_path.result (rw c.bytes-rule.ensures.value at c.bytes-rule.ensures.rule) c.key_of_path.ensures
