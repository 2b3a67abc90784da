use Rattle.kz_types.proofs.Lookup.{Rises-put, Rises-without}
use Rattle.kz_types.proofs.Puts.{Rises-all_put}
use Rattle.kz_types.proofs.ordered.order_is_kept.Goals as goal

pub returns-clause-put : goal.returns-clause-put
returns-clause-put g c = λ cmp key o. Rises-put o key

pub returns-clause-without : goal.returns-clause-without
returns-clause-without g c = λ cmp key o. Rises-without o key

pub returns-clause-all_put : goal.returns-clause-all_put
returns-clause-all_put g c = λ cmp key o. Rises-all_put o key
