use Rattle.kz_laws_machine.proofs.Keeps.{translated_keep, bare_keeps, others_keep}
use Rattle.kz_laws_machine.proofs.limits.limits_keep.Goals as goal

pub returns-clause-translated : goal.returns-clause-translated
returns-clause-translated c = translated_keep

pub returns-clause-bare : goal.returns-clause-bare
returns-clause-bare c = bare_keeps

pub returns-clause-others : goal.returns-clause-others
returns-clause-others c = others_keep
