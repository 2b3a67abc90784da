use Rattle.kz_types.proofs.Lookup.{same_items}
use Rattle.kz_types.proofs.ordered.same_items.Goals as goal

pub returns : goal.returns
returns g c = λ cmp key o. same_items o key
