use Rattle.std.proofs.Common.{rules, refl, sym, ap, ◌∙◌, subst, w32, w64, to_z, of_z, List}
use Rattle.std.proofs.lemmas.Int.{to_z-of_z}
use mir.Val.{SFits}
use Rattle.kz_types.specs.declared.machine.Event.{Event}
use Rattle.kz_types.specs.declared.machine.Event.TheVariants as event
use Rattle.kz_types.specs.declared.record.MetaRecord.{MetaRecord}
use Rattle.kz_types.specs.declared.tree.Op.{Op}
use Rattle.kz_spec_machine.specs.Machine.{event_pairs}
use Rattle.kz_world_parts.specs.Disks.{payloads_of}
use Rattle.kz_world_parts.specs.EventDisks.{disks_in, ResultDisks}
use Rattle.kz_world_parts.specs.Worlds.{world_of_parts, world_of}
use Rattle.kz_world_parts.proofs.EventStops.{still_failure, event_later}
use Rattle.kz_world.proofs.machine.happen.Goals as goal

pub returns-in_err-declare-in-Quorum-clause-stop : goal.returns-in_err-declare-in-Quorum-clause-stop
returns-in_err-declare-in-Quorum-clause-stop g c = λ sound.
    let p = c.args.parts.now in
    let q = c.declare.new.parts in
    let world = world_of g.T.ZTree.tree g.L.MetaLog.log in
    let disks = disks_in g.T.ZTree.disk g.L.MetaLog.disk in
    let tree_left = g.T.ZTree.left q.tree.inner in
    let log_left = g.L.MetaLog.left q.log.inner in
    event_later (world p) (world p) (event.Quorum c.in-Quorum.ids) c.args.event.now c.from_residual.result (disks (world_of_parts p)) (disks (world_of_parts p)) tree_left log_left refl refl (sym c.in-Quorum.is)
    (still_failure (world p) (world q) (event_pairs (world p) (event.Quorum c.in-Quorum.ids)) c.from_residual.result (disks (world_of_parts p)) (disks (world_of_parts q)) tree_left log_left c.in_err-declare-in-Quorum.ensures.err c.declare.ensures.disks
    (record { tree = g.met.T.ZTree.settled q.tree.inner; log = g.met.L.MetaLog.settled q.log.inner }))

pub returns-in_err-start-in-Start-clause-stop : goal.returns-in_err-start-in-Start-clause-stop
returns-in_err-start-in-Start-clause-stop g c = λ sound.
    let p = c.args.parts.now in
    let q = c.start.new.parts in
    let world = world_of g.T.ZTree.tree g.L.MetaLog.log in
    let disks = disks_in g.T.ZTree.disk g.L.MetaLog.disk in
    let tree_left = g.T.ZTree.left q.tree.inner in
    let log_left = g.L.MetaLog.left q.log.inner in
    event_later (world p) (world p) (event.Start c.in-Start.controller) c.args.event.now c.from_residual-in_err-start-in-Start.result (disks (world_of_parts p)) (disks (world_of_parts p)) tree_left log_left refl refl (sym c.in-Start.is)
    (still_failure (world p) (world q) (event_pairs (world p) (event.Start c.in-Start.controller)) c.from_residual-in_err-start-in-Start.result (disks (world_of_parts p)) (disks (world_of_parts q)) tree_left log_left c.in_err-start-in-Start.ensures.err c.start.ensures.disks
    (record { tree = g.met.T.ZTree.settled q.tree.inner; log = g.met.L.MetaLog.settled q.log.inner }))

pub returns-in-Elect-clause-stop : goal.returns-in-Elect-clause-stop
returns-in-Elect-clause-stop g c = λ sound.
    let p = c.args.parts.now in
    let q = c.elect.new.parts in
    let w = world_of g.T.ZTree.tree g.L.MetaLog.log p in
    let disks = disks_in g.T.ZTree.disk g.L.MetaLog.disk (world_of_parts p) in
    let controller_fits : SFits w32 c.in-Elect.controller = search rules in
    let now_fits : SFits w64 c.in-Elect.now = search rules in
    event_later w w (event.Elect (to_z w32 (of_z w32 c.in-Elect.controller)) (to_z w64 (of_z w64 c.in-Elect.now))) c.args.event.now c.elect.result disks disks (g.T.ZTree.left q.tree.inner) (g.L.MetaLog.left q.log.inner) refl refl
    (ap (λ x. event.Elect x (to_z w64 (of_z w64 c.in-Elect.now))) (to_z-of_z w32 c.in-Elect.controller controller_fits) ∙ ap (λ x. event.Elect c.in-Elect.controller x) (to_z-of_z w64 c.in-Elect.now now_fits) ∙ sym c.in-Elect.is)
    c.elect.ensures.stop

pub returns-in-Step-clause-stop : goal.returns-in-Step-clause-stop
returns-in-Step-clause-stop g c = λ sound.
    let p = c.args.parts.now in
    let q = c.step_of.new.parts in
    let w = world_of g.T.ZTree.tree g.L.MetaLog.log p in
    let disks = disks_in g.T.ZTree.disk g.L.MetaLog.disk (world_of_parts p) in
    let controller_fits : SFits w32 c.in-Step.controller = search rules in
    let now_fits : SFits w64 c.in-Step.now = search rules in
    event_later w w (event.Step (to_z w32 (of_z w32 c.in-Step.controller)) (to_z w64 (of_z w64 c.in-Step.now)) c.in-Step.plan) c.args.event.now c.step_of.result disks disks (g.T.ZTree.left q.tree.inner) (g.L.MetaLog.left q.log.inner) refl refl
    (ap (λ x. event.Step x (to_z w64 (of_z w64 c.in-Step.now)) c.in-Step.plan) (to_z-of_z w32 c.in-Step.controller controller_fits) ∙ ap (λ x. event.Step c.in-Step.controller x c.in-Step.plan) (to_z-of_z w64 c.in-Step.now now_fits) ∙ sym c.in-Step.is)
    (c.step_of.ensures.stop sound)

pub returns-in-Turn-clause-stop : goal.returns-in-Turn-clause-stop
returns-in-Turn-clause-stop g c = λ sound.
    let p = c.args.parts.now in
    let q = c.turn_of.new.parts in
    let w = world_of g.T.ZTree.tree g.L.MetaLog.log p in
    let disks = disks_in g.T.ZTree.disk g.L.MetaLog.disk (world_of_parts p) in
    let controller_fits : SFits w32 c.in-Turn.controller = search rules in
    let now_fits : SFits w64 c.in-Turn.now = search rules in
    event_later w w (event.Turn (to_z w32 (of_z w32 c.in-Turn.controller)) (to_z w64 (of_z w64 c.in-Turn.now))) c.args.event.now c.turn_of.result disks disks (g.T.ZTree.left q.tree.inner) (g.L.MetaLog.left q.log.inner) refl refl
    (ap (λ x. event.Turn x (to_z w64 (of_z w64 c.in-Turn.now))) (to_z-of_z w32 c.in-Turn.controller controller_fits) ∙ ap (λ x. event.Turn c.in-Turn.controller x) (to_z-of_z w64 c.in-Turn.now now_fits) ∙ sym c.in-Turn.is)
    (c.turn_of.ensures.stop sound)

pub returns-in-Change-clause-stop : goal.returns-in-Change-clause-stop
returns-in-Change-clause-stop g c = λ sound.
    let p = c.args.parts.now in
    let q = c.change.new.parts in
    let w = world_of g.T.ZTree.tree g.L.MetaLog.log p in
    let disks = disks_in g.T.ZTree.disk g.L.MetaLog.disk (world_of_parts p) in
    let controller_fits : SFits w32 c.in-Change.controller = search rules in
    let now_fits : SFits w64 c.in-Change.now = search rules in
    event_later w w (event.Change (to_z w32 (of_z w32 c.in-Change.controller)) c.as_slice.result.now (to_z w64 (of_z w64 c.in-Change.now))) c.args.event.now c.change.result disks disks (g.T.ZTree.left q.tree.inner) (g.L.MetaLog.left q.log.inner) refl refl
    (ap (λ x. event.Change x c.as_slice.result.now (to_z w64 (of_z w64 c.in-Change.now))) (to_z-of_z w32 c.in-Change.controller controller_fits) ∙ ap (λ (x : List MetaRecord). event.Change c.in-Change.controller x (to_z w64 (of_z w64 c.in-Change.now))) (c.as_slice.ensures) ∙ ap (λ x. event.Change c.in-Change.controller c.in-Change.records x) (to_z-of_z w64 c.in-Change.now now_fits) ∙ sym c.in-Change.is)
    c.change.ensures.stop

pub returns-in-Register-clause-stop : goal.returns-in-Register-clause-stop
returns-in-Register-clause-stop g c = λ sound.
    let p = c.args.parts.now in
    let q = c.register.new.parts in
    let w = world_of g.T.ZTree.tree g.L.MetaLog.log p in
    let disks = disks_in g.T.ZTree.disk g.L.MetaLog.disk (world_of_parts p) in
    let controller_fits : SFits w32 c.in-Register.controller = search rules in
    let broker_fits : SFits w32 c.in-Register.broker = search rules in
    let now_fits : SFits w64 c.in-Register.now = search rules in
    event_later w w (event.Register (to_z w32 (of_z w32 c.in-Register.controller)) (to_z w32 (of_z w32 c.in-Register.broker)) c.in-Register.migrating (to_z w64 (of_z w64 c.in-Register.now))) c.args.event.now c.register.result disks disks (g.T.ZTree.left q.tree.inner) (g.L.MetaLog.left q.log.inner) refl refl
    (ap (λ x. event.Register x (to_z w32 (of_z w32 c.in-Register.broker)) c.in-Register.migrating (to_z w64 (of_z w64 c.in-Register.now))) (to_z-of_z w32 c.in-Register.controller controller_fits) ∙ ap (λ x. event.Register c.in-Register.controller x c.in-Register.migrating (to_z w64 (of_z w64 c.in-Register.now))) (to_z-of_z w32 c.in-Register.broker broker_fits) ∙ ap (λ x. event.Register c.in-Register.controller c.in-Register.broker c.in-Register.migrating x) (to_z-of_z w64 c.in-Register.now now_fits) ∙ sym c.in-Register.is)
    c.register.ensures.stop

pub returns-in-Finalise-clause-disks : goal.returns-in-Finalise-clause-disks
returns-in-Finalise-clause-disks g c = λ sound.
    let w = world_of g.T.ZTree.tree g.L.MetaLog.log c.args.parts.now in
    let disks = disks_in g.T.ZTree.disk g.L.MetaLog.disk in
    let payloads = payloads_of g.T.ZTree.payload_bytes g.L.MetaLog.payload_bytes in
    let controller_fits : SFits w32 c.in-Finalise.controller = search rules in
    let now_fits : SFits w64 c.in-Finalise.now = search rules in
    subst (λ (e : Event). ResultDisks w e payloads c.finalise.result (disks (world_of_parts c.args.parts.now)) (disks (world_of_parts c.finalise.new.parts)))
    (ap (λ x. event.Finalise x (to_z w64 (of_z w64 c.in-Finalise.now))) (to_z-of_z w32 c.in-Finalise.controller controller_fits) ∙ ap (λ x. event.Finalise c.in-Finalise.controller x) (to_z-of_z w64 c.in-Finalise.now now_fits) ∙ sym c.in-Finalise.is)
    c.finalise.ensures.disks

pub returns-in-Finalise-clause-stop : goal.returns-in-Finalise-clause-stop
returns-in-Finalise-clause-stop g c = λ sound.
    let p = c.args.parts.now in
    let q = c.finalise.new.parts in
    let w = world_of g.T.ZTree.tree g.L.MetaLog.log p in
    let disks = disks_in g.T.ZTree.disk g.L.MetaLog.disk (world_of_parts p) in
    let controller_fits : SFits w32 c.in-Finalise.controller = search rules in
    let now_fits : SFits w64 c.in-Finalise.now = search rules in
    event_later w w (event.Finalise (to_z w32 (of_z w32 c.in-Finalise.controller)) (to_z w64 (of_z w64 c.in-Finalise.now))) c.args.event.now c.finalise.result disks disks (g.T.ZTree.left q.tree.inner) (g.L.MetaLog.left q.log.inner) refl refl
    (ap (λ x. event.Finalise x (to_z w64 (of_z w64 c.in-Finalise.now))) (to_z-of_z w32 c.in-Finalise.controller controller_fits) ∙ ap (λ x. event.Finalise c.in-Finalise.controller x) (to_z-of_z w64 c.in-Finalise.now now_fits) ∙ sym c.in-Finalise.is)
    c.finalise.ensures.stop

pub returns-in-Snapshot-clause-stop : goal.returns-in-Snapshot-clause-stop
returns-in-Snapshot-clause-stop g c = λ sound.
    let p = c.args.parts.now in
    let q = c.snapshot.new.parts in
    let w = world_of g.T.ZTree.tree g.L.MetaLog.log p in
    let disks = disks_in g.T.ZTree.disk g.L.MetaLog.disk (world_of_parts p) in
    event_later w w event.Snapshot c.args.event.now c.snapshot.result disks disks (g.T.ZTree.left q.tree.inner) (g.L.MetaLog.left q.log.inner) refl refl
    (sym c.in-Snapshot.is)
    c.snapshot.ensures.stop

pub returns-in-Check-clause-stop : goal.returns-in-Check-clause-stop
returns-in-Check-clause-stop g c = λ sound.
    let p = c.args.parts.now in
    let q = c.compare.new.parts in
    let w = world_of g.T.ZTree.tree g.L.MetaLog.log p in
    let disks = disks_in g.T.ZTree.disk g.L.MetaLog.disk (world_of_parts p) in
    event_later w w (event.Check) c.args.event.now c.compare.result disks disks (g.T.ZTree.left q.tree.inner) (g.L.MetaLog.left q.log.inner) refl refl
    (sym c.in-Check.is)
    c.compare.ensures.stop

pub returns-in-ZkOpen-clause-stop : goal.returns-in-ZkOpen-clause-stop
returns-in-ZkOpen-clause-stop g c = λ sound.
    let p = c.args.parts.now in
    let q = c.open.new.parts in
    let w = world_of g.T.ZTree.tree g.L.MetaLog.log p in
    let disks = disks_in g.T.ZTree.disk g.L.MetaLog.disk (world_of_parts p) in
    let session_fits : SFits w64 c.in-ZkOpen.session = search rules in
    event_later w w (event.ZkOpen (to_z w64 (of_z w64 c.in-ZkOpen.session))) c.args.event.now c.open.result disks disks (g.T.ZTree.left q.tree.inner) (g.L.MetaLog.left q.log.inner) refl refl
    (ap (λ x. event.ZkOpen x) (to_z-of_z w64 c.in-ZkOpen.session session_fits) ∙ sym c.in-ZkOpen.is)
    c.open.ensures.stop

pub returns-in-ZkExpire-clause-stop : goal.returns-in-ZkExpire-clause-stop
returns-in-ZkExpire-clause-stop g c = λ sound.
    let p = c.args.parts.now in
    let q = c.expire.new.parts in
    let w = world_of g.T.ZTree.tree g.L.MetaLog.log p in
    let disks = disks_in g.T.ZTree.disk g.L.MetaLog.disk (world_of_parts p) in
    let session_fits : SFits w64 c.in-ZkExpire.session = search rules in
    event_later w w (event.ZkExpire (to_z w64 (of_z w64 c.in-ZkExpire.session))) c.args.event.now c.expire.result disks disks (g.T.ZTree.left q.tree.inner) (g.L.MetaLog.left q.log.inner) refl refl
    (ap (λ x. event.ZkExpire x) (to_z-of_z w64 c.in-ZkExpire.session session_fits) ∙ sym c.in-ZkExpire.is)
    c.expire.ensures.stop

pub returns-in-Zk-clause-stop : goal.returns-in-Zk-clause-stop
returns-in-Zk-clause-stop g c = λ sound.
    let p = c.args.parts.now in
    let q = c.ask.new.parts in
    let w = world_of g.T.ZTree.tree g.L.MetaLog.log p in
    let disks = disks_in g.T.ZTree.disk g.L.MetaLog.disk (world_of_parts p) in
    event_later w w (event.Zk c.as_slice-in-Zk.result.now) c.args.event.now c.ask.result disks disks (g.T.ZTree.left q.tree.inner) (g.L.MetaLog.left q.log.inner) refl refl
    (ap (λ (x : List Op). event.Zk x) (c.as_slice-in-Zk.ensures) ∙ sym c.in-Zk.is)
    c.ask.ensures.stop
