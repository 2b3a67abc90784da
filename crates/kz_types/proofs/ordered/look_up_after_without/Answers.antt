use Rattle.kz_types.proofs.Lookup.{find-without_same, find-without_other}
use Rattle.kz_types.proofs.ordered.look_up_after_without.Goals as goal

pub returns-clause-gone : goal.returns-clause-gone
returns-clause-gone g c = λ cmp key o. find-without_same o key

pub returns-clause-others : goal.returns-clause-others
returns-clause-others g c = λ cmp key o. find-without_other o key
