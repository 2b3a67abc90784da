use Rattle.kz_laws_znodes.proofs.WholeLookups.{rendered_data}
use Rattle.kz_laws_znodes.proofs.lookups.rendered_where_read.Goals as goal

pub returns : goal.returns
returns c = λ i o read path rule. rendered_data i o read path rule
