use Rattle.kz_laws_machine.proofs.FenceDrivers.{fenced_driver}
use Rattle.kz_laws_machine.proofs.Replies.{fenced_reply, leader_alone}
use Rattle.kz_laws_machine.proofs.fence.fenced_leaves.Goals as goal

pub returns-clause-driver : goal.returns-clause-driver
returns-clause-driver c = fenced_driver

pub returns-clause-reply : goal.returns-clause-reply
returns-clause-reply c = fenced_reply

pub returns-clause-leader : goal.returns-clause-leader
returns-clause-leader c = leader_alone
