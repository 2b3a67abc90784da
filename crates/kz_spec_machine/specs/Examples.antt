-- Worked events and answers that the laws by example share.
use Rattle.std.specs.Prelude.{ℕ, pos, List, [], ◌∷◌, Some, codes}
use Rattle.kz_types.specs.declared.machine.Event.{Event}
use Rattle.kz_types.specs.declared.machine.Event.TheVariants as event
use Rattle.kz_types.specs.declared.machine.Answer.{Answer}
use Rattle.kz_types.specs.declared.machine.Answer.TheVariants as answer
use Rattle.kz_types.specs.declared.machine.Reply.TheVariants as reply
use Rattle.kz_types.specs.declared.machine.DriverState.TheVariants as state
use Rattle.kz_types.specs.declared.record.MetaRecord.{MetaRecord}
use Rattle.kz_types.specs.declared.record.MetaRecord.TheVariants as meta

-- the member `a` of broker 1's configuration is `1`
abbrev pub one_member : MetaRecord
one_member = meta.Config (record { resource_type = pos 4; resource_name = codes "1"; name = codes "a"; value = Some (codes "1") })

-- one controller is declared, started, elected and makes a turn
abbrev pub migration_events : List Event
migration_events = event.Quorum (pos 3000 ∷ []) ∷ event.Start (pos 3000) ∷ event.Elect (pos 3000) (pos 0) ∷ event.Turn (pos 3000) (pos 0) ∷ []

abbrev pub migration_answers : List Answer
migration_answers = answer.Done ∷ answer.Done ∷ answer.Elected (pos 1) (pos 1)
    ∷ answer.Turn (reply.Moved state.WaitForBrokers ∷ reply.Looked ∷ reply.Moved state.BecomeController ∷ reply.Looked
    ∷ reply.Claimed (pos 1) ∷ reply.Read 0 ∷ reply.Appended (pos 2) ∷ reply.Appended (pos 4) ∷ reply.Looked ∷ reply.Read 0
    ∷ reply.Recorded (pos 4) ∷ reply.Moved state.DualWrite ∷ reply.Idle ∷ [])
    ∷ []

-- two controllers are declared and started; the first migrates, and the second takes over
abbrev pub failover_events : List Event
failover_events = event.Quorum (pos 1 ∷ pos 2 ∷ []) ∷ event.Start (pos 1) ∷ event.Start (pos 2) ∷ event.Elect (pos 1) (pos 0) ∷ event.Turn (pos 1) (pos 0) ∷ event.Elect (pos 2) (pos 0) ∷ event.Turn (pos 2) (pos 0) ∷ []

abbrev pub failover_answers : List Answer
failover_answers = answer.Done ∷ answer.Done ∷ answer.Done ∷ answer.Elected (pos 1) (pos 1)
    ∷ answer.Turn (reply.Moved state.WaitForBrokers ∷ reply.Looked ∷ reply.Moved state.BecomeController ∷ reply.Looked
    ∷ reply.Claimed (pos 1) ∷ reply.Read 0 ∷ reply.Appended (pos 2) ∷ reply.Appended (pos 4) ∷ reply.Looked ∷ reply.Read 0
    ∷ reply.Recorded (pos 4) ∷ reply.Moved state.DualWrite ∷ reply.Idle ∷ [])
    ∷ answer.Elected (pos 2) (pos 5)
    ∷ answer.Turn (reply.Moved state.BecomeController ∷ reply.Looked ∷ reply.Claimed (pos 2) ∷ reply.Looked ∷ reply.Read 17
    ∷ reply.Recorded (pos 5) ∷ reply.Moved state.DualWrite ∷ reply.Idle ∷ [])
    ∷ []
