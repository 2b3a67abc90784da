use Rattle.kz_types.proofs.Append.{find-append, Rises-append, put_last}
use Rattle.kz_types.proofs.ordered.joined_lists.Goals as goal

pub returns-clause-found : goal.returns-clause-found
returns-clause-found g c = find-append

pub returns-clause-rises : goal.returns-clause-rises
returns-clause-rises g c = λ cmp key o. Rises-append o key

pub returns-clause-put_last : goal.returns-clause-put_last
returns-clause-put_last g c = λ cmp key o. put_last o key
