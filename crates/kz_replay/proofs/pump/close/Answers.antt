use Rattle.std.proofs.Common.{[], sym, subst}
use Rattle.kz_types.specs.declared.outside.Status.{Status}
use Rattle.kz_spec_machine.specs.Endings.{EndsAs}
use Rattle.kz_stream.specs.Pending.{state_of, outcome_to_come}
use Rattle.kz_stream.proofs.Statuses.{Stops-EndsAs}
use Rattle.kz_replay.specs.Disks.{RunDisks}
use Rattle.kz_replay.proofs.Ends.{on_ok, on_err, part_ok, part_err, stop_end, sink_status}
use Rattle.kz_replay.proofs.pump.close.Goals as goal

pub returns-in-Ok-clause-output : goal.returns-in-Ok-clause-output
returns-in-Ok-clause-output g c =
    let h = on_ok c.finish-ended.result.0 c.in-Ok.field-0 c.in-Ok.is c.finish-ended.ensures.ok in
    (h.0, h.1, λ sound lines. h.2 sound, h.3)

pub returns-in-Ok-clause-disks : goal.returns-in-Ok-clause-disks
returns-in-Ok-clause-disks g c = λ sound up. part_ok c.finish-ended.result.0 c.in-Ok.field-0 c.in-Ok.is _ _ (c.finish-ended.ensures.disks sound up)

pub returns-in-Err-clause-output : goal.returns-in-Err-clause-output
returns-in-Err-clause-output g c =
    let h = on_err c.finish-ended.result.0 c.in-Err.stop c.in-Err.is _ c.finish-ended.ensures.stop in
    let o = outcome_to_come (state_of g.M.Machine.world c.args.stream) [] in
    let w = g.M.Machine.world c.finish-ended.result.1 in
    (h.0, h.1, λ sound lines. subst (λ (s : Status). EndsAs o lines h.0 w s) (sym c.stop_status.ensures) (Stops-EndsAs o lines h.0 w c.in-Err.stop (h.2 sound)), h.3)

pub returns-in-Err-clause-disks : goal.returns-in-Err-clause-disks
returns-in-Err-clause-disks g c = λ sound up.
    let old = g.M.Machine.disks c.args.stream.place.machine in
    let new = g.M.Machine.disks c.finish-ended.result.1 in
    subst (λ (s : Status). RunDisks s old new) (sym c.stop_status.ensures) (stop_end c.in-Err.stop old new (part_err c.finish-ended.result.0 c.in-Err.stop c.in-Err.is old new (c.finish-ended.ensures.disks sound up)))

pub returns-in-Err-clause-sink : goal.returns-in-Err-clause-sink
returns-in-Err-clause-sink g c = sink_status c.finish-ended.result.0 c.in-Err.stop c.stop_status.result _ _ _ _ c.in-Err.is c.stop_status.ensures c.finish-ended.ensures.sink
