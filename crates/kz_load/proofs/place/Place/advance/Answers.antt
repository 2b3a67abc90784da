use Rattle.std.proofs.lemmas.Result.{IfErr-weaker}
use Rattle.kz_load.proofs.Steps.{first_stops, later_stops}
use Rattle.kz_load.proofs.place.Place.advance.Goals as goal

pub returns-in-Err-clause-stop : goal.returns-in-Err-clause-stop
returns-in-Err-clause-stop c = first_stops c.args.self.now c.args.text.now c.in-Ok.said c.in-Err.stop c.in-Start.is c.in-Ok.ensures.ok c.in-Err.ensures.stop

pub returns-in-After-clause-stop : goal.returns-in-After-clause-stop
returns-in-After-clause-stop c = IfErr-weaker c.next.result _ _ (λ why h. later_stops c.args.self.now c.in-After.part c.args.text.now c.in-Ok.said why c.in-After.is c.in-Ok.ensures.ok h) c.next.ensures.stop
