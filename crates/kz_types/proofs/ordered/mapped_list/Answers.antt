use Rattle.kz_types.proofs.Maps.{find-map, Rises-map}
use Rattle.kz_types.proofs.ordered.mapped_list.Goals as goal

pub returns-clause-found : goal.returns-clause-found
returns-clause-found g c = find-map

pub returns-clause-rises : goal.returns-clause-rises
returns-clause-rises g c = Rises-map
