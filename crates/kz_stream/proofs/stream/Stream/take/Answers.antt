use Rattle.std.proofs.Common.{◌∷◌}
use Rattle.kz_stream.specs.Pending.{outcome_to_come, state_of}
use Rattle.kz_stream.proofs.Quiet.{ends_part}
use Rattle.kz_stream.proofs.Runs.{each_stop}
use Rattle.kz_stream.proofs.stream.Stream.take.Goals as goal

pub returns-clause-stop : goal.returns-clause-stop
returns-clause-stop g c =
    let world = g.M.Machine.world in
    let old = state_of world c.args.self.now in
    let new = state_of world c.step.new.self in
    each_stop c.print.result _ _
    (λ s h. (h.0, h.1, λ sound rest. h.2 new.place.world (outcome_to_come old (c.args.byte ∷ rest)) (outcome_to_come new rest) ((c.in-Ok.ensures.takes sound).0.begins rest), λ sound up rest. c.in-Ok.ensures.stop sound up rest h.0 h.3))
    c.print.ensures.stop

pub returns-clause-disks : goal.returns-clause-disks
returns-clause-disks g c = λ sound up. ends_part c.in-Ok.printed.next c.print.result _ _ c.print.ensures.why (c.in-Ok.ensures.disks sound up)
