use Rattle.std.proofs.Common.{◌≡◌, ◌≤◌, ◌-◌}
use Rattle.kz_types.specs.declared.plan.Plan.TheVariants as plan
use Rattle.kz_driver.specs.Disks.{payloads_of}
use Rattle.kz_world_parts.specs.Starts.{most_from}
use Rattle.kz_world_parts.specs.Bounds.{IsKnown}
use Rattle.kz_world_parts.proofs.Turns.{moment_over, IsTurning}
use Rattle.kz_world_parts.proofs.steps.turn.Given as goal

abbrev pub invariant-steps : goal.invariant-steps
invariant-steps g l = record {
  turning : IsTurning l.done l.replies.items (payloads_of g.T.ZTree.payload_bytes g.L.MetaLog.payload_bytes) l.peers.running l.now
      (moment_over g.T.ZTree.tree g.L.MetaLog.log g.T.ZTree.disk g.L.MetaLog.disk l.peers.declared l.fn.tree l.fn.log l.fn.driver)
      (moment_over g.T.ZTree.tree g.L.MetaLog.log g.T.ZTree.disk g.L.MetaLog.disk l.peers.declared l.tree l.log l.driver);
  within : l.done ≤ most_from l.start l.latest.image;
  known : IsKnown (most_from l.start l.latest.image) l.done l.known;
  tree_plan : l.tree.plan ≡ plan.Deliver;
  log_plan : l.log.plan ≡ plan.Deliver;
}

abbrev pub decreases-steps : goal.decreases-steps
decreases-steps g l = most_from l.start l.latest.image - l.done
