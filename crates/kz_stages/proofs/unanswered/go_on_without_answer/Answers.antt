use Rattle.std.proofs.Common.{ap}
use Rattle.kz_spec_machine.specs.Driver.{remaining_at, request_at}
use Rattle.kz_stages.specs.declared.row.Stage.{Stage}
use Rattle.kz_stages.specs.Rows.{driver_of, stage_of}
use Rattle.kz_stages.proofs.Losses.{write_lost}
use Rattle.kz_stages.proofs.unanswered.go_on_without_answer.Goals as goal

pub returns-in-WriteResync-clause-driver : goal.returns-in-WriteResync-clause-driver
returns-in-WriteResync-clause-driver c = λ s now asked.
    let d = driver_of c.args.row.now in
    let target = c.in-WriteResync.remaining.target in
    write_lost (request_at s now d d.stage) d.claim (remaining_at s.tree s.log target.offset) target d (driver_of c.begin_again-in-WriteResync.new.row)
    (ap (λ (x : Stage). request_at s now d (stage_of x)) c.in-WriteResync.is) c.begin_again-in-WriteResync.ensures.driver asked

pub returns-in-WriteDelta-clause-driver : goal.returns-in-WriteDelta-clause-driver
returns-in-WriteDelta-clause-driver c = λ s now asked.
    let d = driver_of c.args.row.now in
    let target = c.in-WriteDelta.remaining.target in
    write_lost (request_at s now d d.stage) d.claim (remaining_at s.tree s.log target.offset) target d (driver_of c.begin_again-in-WriteDelta.new.row)
    (ap (λ (x : Stage). request_at s now d (stage_of x)) c.in-WriteDelta.is) c.begin_again-in-WriteDelta.ensures.driver asked
