use Rattle.kz_laws_znodes.proofs.Operations.{difference_is_made, chunk_leaves_rest}
use Rattle.kz_laws_znodes.proofs.znodes.chunk_leaves_rest.Goals as goal

pub returns-clause-whole : goal.returns-clause-whole
returns-clause-whole c = difference_is_made

pub returns-clause-rest : goal.returns-clause-rest
returns-clause-rest c = chunk_leaves_rest
