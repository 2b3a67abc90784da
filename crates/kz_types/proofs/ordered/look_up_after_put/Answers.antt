use Rattle.kz_types.proofs.Lookup.{find-put_same, find-put_other}
use Rattle.kz_types.proofs.Puts.{find-all_put}
use Rattle.kz_types.proofs.ordered.look_up_after_put.Goals as goal

pub returns-clause-found : goal.returns-clause-found
returns-clause-found g c = λ cmp key o. find-put_same o key

pub returns-clause-others : goal.returns-clause-others
returns-clause-others g c = λ cmp key o. find-put_other o key

pub returns-clause-of_many : goal.returns-clause-of_many
returns-clause-of_many g c = λ cmp key o. find-all_put o key
