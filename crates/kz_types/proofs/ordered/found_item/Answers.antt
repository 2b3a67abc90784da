use Rattle.kz_types.proofs.Lookup.{key_of_found, found_is_contained, contained_is_found, find_below_first}
use Rattle.kz_types.proofs.ordered.found_item.Goals as goal

pub returns-clause-key : goal.returns-clause-key
returns-clause-key g c = λ cmp key o k xs y e. (found_is_contained o key k xs y e, key_of_found o key k xs y e)

pub returns-clause-each : goal.returns-clause-each
returns-clause-each g c = λ cmp key o. contained_is_found o key

pub returns-clause-below : goal.returns-clause-below
returns-clause-below g c = λ cmp key o. find_below_first o key
