use Rattle.std.proofs.Common.{w64}
use Rattle.std.proofs.lemmas.Int.{to_z-of_z}
use Rattle.kz_driver.specs.Disks.{disks_of, payloads_of}
use Rattle.kz_driver.specs.Steps.{shared_over}
use Rattle.kz_world_parts.proofs.SingleStep.{end_by_plan, step_ends, step_leaves}
use Rattle.kz_world_parts.proofs.single_step.step.Goals as goal

pub returns : goal.returns
returns g c =
    let tree_of = g.T.ZTree.tree in
    let log_of = g.L.MetaLog.log in
    let tree_disk = g.T.ZTree.disk in
    let log_disk = g.L.MetaLog.disk in
    let payloads = payloads_of g.T.ZTree.payload_bytes g.L.MetaLog.payload_bytes in
    let ids = c.args.peers.now.declared in
    let running = c.args.peers.now.running in
    let d = c.args.driver.now in
    let e = c.step_beside.new.self in
    let s = shared_over tree_of log_of ids c.args.tree.now c.args.log.now in
    let new = shared_over tree_of log_of ids c.step_beside.new.tree c.step_beside.new.log in
    let end = end_by_plan tree_of log_of tree_disk log_disk g.T.ZTree.left g.L.MetaLog.left payloads ids running c.args.now _ d e c.step_beside.result c.args.plan c.args.tree.now c.plan.new.self c.step_beside.new.tree c.args.log.now c.plan-2.new.self c.step_beside.new.log (to_z-of_z w64 c.args.now c.ranges.now) c.plan.ensures c.plan-2.ensures (record {
      step = c.step_beside.ensures.step;
      failed = c.step_beside.ensures.failed;
      views = c.step_beside.ensures.views;
      disks = c.step_beside.ensures.disks;
      stop = c.step_beside.ensures.stop;
      connections = c.step_beside.ensures.connections;
    }) in
    record {
      ends = step_ends c.args.plan s new running c.args.now d e c.step_beside.result end.step end.failed;
      views = end.views;
      delivers = (end.connections.tree_plan, end.connections.log_plan);
      disks = end.disks.request;
      stop = step_leaves c.args.plan s new running c.args.now d e c.step_beside.result payloads (disks_of (tree_disk c.args.tree.now.inner) (log_disk c.args.log.now.inner)) (disks_of (tree_disk c.step_beside.new.tree.inner) (log_disk c.step_beside.new.log.inner)) (g.T.ZTree.left c.step_beside.new.tree.inner) (g.L.MetaLog.left c.step_beside.new.log.inner)
          end.failed end.disks end.stop (record { tree = g.met.T.ZTree.settled c.step_beside.new.tree.inner; log = g.met.L.MetaLog.settled c.step_beside.new.log.inner });
    }
