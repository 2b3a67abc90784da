use Rattle.std.proofs.Common.{sym, subst, Ok, Err}
use Rattle.kz_types.specs.Spot.{IsSpot}
use Rattle.kz_types.proofs.Spot.{find_by_spot, find_by_gap, put_by_spot, put_by_gap, without_by_spot, without_by_gap, spot_from_binary_search}
use Rattle.kz_types.proofs.ordered.place_of_key.Goals as goal

pub returns-clause-item : goal.returns-clause-item
returns-clause-item g c = λ cmp key o k xs i h s.
    (λ d. find_by_spot o key k xs i d h s, without_by_spot o key k xs i h s, λ x e. put_by_spot o key x xs i h (subst (λ q. IsSpot cmp key q xs (Ok i)) (sym e) s))

pub returns-clause-gap : goal.returns-clause-gap
returns-clause-gap g c = λ cmp key o k xs i s.
    (find_by_gap o key k xs i s, without_by_gap o key k xs i s, λ x e. put_by_gap o key x xs i (subst (λ q. IsSpot cmp key q xs (Err i)) (sym e) s))

pub returns-clause-searched : goal.returns-clause-searched
returns-clause-searched g c = λ cmp key o. spot_from_binary_search o key
