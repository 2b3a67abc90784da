use Rattle.std.proofs.Common.{subst}
use Rattle.kz_spec_machine.specs.Driver.{Driver}
use Rattle.kz_laws_machine.proofs.FenceDrivers.{fenced_driver}
use Rattle.kz_laws_machine.proofs.Replies.{fenced_reply}
use Rattle.kz_stages.specs.Rows.{driver_of}
use Rattle.kz_driver.specs.Steps.{shared_over, LeavesAll, IsFenced}
use Rattle.kz_driver.proofs.Fences.{fenced}
use Rattle.kz_driver.proofs.drive.Driver.step_beside.Goals as goal

pub returns-clause-failed : goal.returns-clause-failed
returns-clause-failed g c =
    let ids = c.args.peers.now.declared in
    let s = shared_over g.T.ZTree.tree g.L.MetaLog.log ids c.args.tree.now c.args.log.now in
    let new = shared_over g.T.ZTree.tree g.L.MetaLog.log ids c.make_step.new.tree c.make_step.new.log in
    subst (λ (d : Driver). LeavesAll c.make_step.result s d new (driver_of c.make_step.new.row)) c.self.view_is c.make_step.ensures.end.failed

pub returns-clause-fenced : goal.returns-clause-fenced
returns-clause-fenced g c =
    let ids = c.args.peers.now.declared in
    let s = shared_over g.T.ZTree.tree g.L.MetaLog.log ids c.args.tree.now c.args.log.now in
    let new = shared_over g.T.ZTree.tree g.L.MetaLog.log ids c.make_step.new.tree c.make_step.new.log in
    let d = driver_of c.self.inside.row in
    let e = driver_of c.make_step.new.row in
    let told = c.make_step.result in
    subst (λ (x : Driver). IsFenced s x told new) c.self.view_is (fenced _ s new _ _ d e told fenced_driver fenced_reply c.make_step.ensures.end.step c.make_step.ensures.end.failed)
