use Rattle.kz_laws_znodes.proofs.WholeLookups.{keys_read, rendered_data}
use Rattle.kz_laws_znodes.proofs.lookups.rendered_at.Goals as goal

pub returns : goal.returns
returns c = λ i o w path rule. rendered_data i o (keys_read i w) path rule
