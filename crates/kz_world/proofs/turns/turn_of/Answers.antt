use Rattle.std.proofs.Common.{◌<◌, length, sym, ap, subst, ◌∙◌, arith, w32, w64, to_z, of_z}
use Rattle.std.specs.Prelude.{slice_get, IfOk}
use Rattle.std.proofs.lemmas.Int.{to_z-of_z}
use Rattle.kz_spec_machine.specs.Machine.{running_refusal, driver_of}
use Rattle.kz_world_parts.specs.Disks.{payloads_of}
use Rattle.kz_world_parts.specs.Pairs.{IsSoundPair}
use Rattle.kz_world_parts.specs.EventDisks.{disks_in, DriverTurnDisks}
use Rattle.kz_world_parts.specs.EventStops.{TurnLeaves}
use Rattle.kz_world_parts.specs.Turns.{IsTurned}
use Rattle.kz_world_parts.specs.Worlds.{world_of_parts, world_of}
use Rattle.kz_world.proofs.Runs.{turn_outcome, turn_disks, turn_stop, turn_refused, turn_of_none}
use Rattle.kz_world.proofs.turns.turn_of.Goals as goal

pub returns-in-Some-clause-ok : goal.returns-in-Some-clause-ok
returns-in-Some-clause-ok g c = λ sound.
    let w = world_of g.T.ZTree.tree g.L.MetaLog.log c.args.parts.now in
    let id_is = to_z-of_z w32 c.args.id c.ranges.id in
    turn_refused w c.args.id c.args.now c.in-Some.refusal (ap (running_refusal w) (sym id_is) ∙ sym c.running_refusal.ensures.refusal ∙ c.in-Some.is) c.in-Some.ensures.no_failure

pub returns-in-Some-place_of-clause-ok : goal.returns-in-Some-place_of-clause-ok
returns-in-Some-place_of-clause-ok g c =
    let w = world_of g.T.ZTree.tree g.L.MetaLog.log c.args.parts.now in
    let ds = c.args.parts.now.drivers.items in
    let at = c.in-Some-place_of.at in
    let id_is = to_z-of_z w32 c.args.id c.ranges.id in
    let now_is = to_z-of_z w64 c.args.now c.ranges.now in
    let runs = ap (running_refusal w) (sym id_is) ∙ sym c.running_refusal.ensures.refusal ∙ c.in_default.is in
    let len = ap length c.deref.ensures.value in
    let here : at < length ds = omega (arith, c.in-Some-place_of.ensures.0, len) in
    let found = ap (λ i. driver_of i ds) (sym id_is) ∙ ap (driver_of (to_z w32 (of_z w32 c.args.id))) (sym c.deref.ensures.value) ∙ c.in-Some-place_of.ensures.1 ∙ ap (λ xs. slice_get xs at) c.deref.ensures.value in
    let new = world_of g.T.ZTree.tree g.L.MetaLog.log c.prepared_turn.new.parts in
    turn_outcome c.prepared_turn.result w c.args.id c.args.now at new runs here found c.requires.time
    (λ d is. subst (λ x. IsSoundPair w.shared x d → IfOk c.prepared_turn.result (IsTurned w x d new)) now_is (c.prepared_turn.ensures.ok d is))

pub returns-in-Some-place_of-clause-disks : goal.returns-in-Some-place_of-clause-disks
returns-in-Some-place_of-clause-disks g c =
    let w = world_of g.T.ZTree.tree g.L.MetaLog.log c.args.parts.now in
    let ds = c.args.parts.now.drivers.items in
    let at = c.in-Some-place_of.at in
    let id_is = to_z-of_z w32 c.args.id c.ranges.id in
    let now_is = to_z-of_z w64 c.args.now c.ranges.now in
    let runs = ap (running_refusal w) (sym id_is) ∙ sym c.running_refusal.ensures.refusal ∙ c.in_default.is in
    let len = ap length c.deref.ensures.value in
    let here : at < length ds = omega (arith, c.in-Some-place_of.ensures.0, len) in
    let found = ap (λ i. driver_of i ds) (sym id_is) ∙ ap (driver_of (to_z w32 (of_z w32 c.args.id))) (sym c.deref.ensures.value) ∙ c.in-Some-place_of.ensures.1 ∙ ap (λ xs. slice_get xs at) c.deref.ensures.value in
    let payloads = payloads_of g.T.ZTree.payload_bytes g.L.MetaLog.payload_bytes in
    let disks = disks_in g.T.ZTree.disk g.L.MetaLog.disk in
    let p = world_of_parts c.args.parts.now in
    let q = world_of_parts c.prepared_turn.new.parts in
    turn_disks c.prepared_turn.result w c.args.id c.args.now at payloads (disks p) (disks q) runs here found c.requires.time
    (λ d is. subst (λ x. IsSoundPair w.shared x d → DriverTurnDisks w x d payloads c.prepared_turn.result (disks p) (disks q)) now_is (c.prepared_turn.ensures.disks d is))

pub returns-in-Some-place_of-clause-stop : goal.returns-in-Some-place_of-clause-stop
returns-in-Some-place_of-clause-stop g c =
    let w = world_of g.T.ZTree.tree g.L.MetaLog.log c.args.parts.now in
    let ds = c.args.parts.now.drivers.items in
    let at = c.in-Some-place_of.at in
    let id_is = to_z-of_z w32 c.args.id c.ranges.id in
    let now_is = to_z-of_z w64 c.args.now c.ranges.now in
    let len = ap length c.deref.ensures.value in
    let here : at < length ds = omega (arith, c.in-Some-place_of.ensures.0, len) in
    let found = ap (λ i. driver_of i ds) (sym id_is) ∙ ap (driver_of (to_z w32 (of_z w32 c.args.id))) (sym c.deref.ensures.value) ∙ c.in-Some-place_of.ensures.1 ∙ ap (λ xs. slice_get xs at) c.deref.ensures.value in
    let p = c.args.parts.now in
    let q = c.prepared_turn.new.parts in
    let old = disks_in g.T.ZTree.disk g.L.MetaLog.disk (world_of_parts p) in
    let left = g.T.ZTree.left q.tree.inner in
    let log_left = g.L.MetaLog.left q.log.inner in
    turn_stop c.prepared_turn.result w c.args.id c.args.now at old left log_left here found c.requires.time
    (λ d is. subst (λ x. IsSoundPair w.shared x d → TurnLeaves w x d c.prepared_turn.result old left log_left) now_is (c.prepared_turn.ensures.stop d is))

pub returns-in-None-clause-ok : goal.returns-in-None-clause-ok
returns-in-None-clause-ok g c = λ sound.
    let w = world_of g.T.ZTree.tree g.L.MetaLog.log c.args.parts.now in
    let ds = c.args.parts.now.drivers.items in
    let id_is = to_z-of_z w32 c.args.id c.ranges.id in
    let runs = ap (running_refusal w) (sym id_is) ∙ sym c.running_refusal.ensures.refusal ∙ c.in_default.is in
    let none = ap (λ i. driver_of i ds) (sym id_is) ∙ ap (driver_of (to_z w32 (of_z w32 c.args.id))) (sym c.deref.ensures.value) ∙ c.in-None.ensures in
    turn_of_none w c.args.id c.args.now runs none
