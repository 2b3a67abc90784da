use Rattle.std.proofs.Common.{ℤ, Err, subst}
use Rattle.kz_spec_data.specs.Tree.{multi}
use Rattle.kz_spec_data.specs.Requests.{Multi, IsTaken, ChangesDisk, answer_by, answer_of_tree_fault}
use Rattle.kz_tree.specs.Wires.{arrival_of}
use Rattle.kz_connection.specs.Connections.{Lost, OverConnection}
use Rattle.kz_requests.proofs.Answers.{multi_made}
use Rattle.kz_requests.proofs.tree_requests.multi.Goals as goal

pub returns-in-Err-Lost-clause-disk : goal.returns-in-Err-Lost-clause-disk
returns-in-Err-Lost-clause-disk g c =
    let trees = g.T.ZTree in
    let t = trees.tree c.args.tree.now.inner in
    let ops = c.args.ops.now in
    let old = c.args.tree.now in
    let new = c.multi.new.self in
    let lost = subst (λ fault. OverConnection (ChangesDisk (IsTaken (multi t ops)) (trees.payload_bytes t (Multi ops))) (answer_by answer_of_tree_fault (multi t ops)) old.plan (arrival_of {A = ℤ} (Err fault)) (trees.disk old.inner) (trees.disk new.inner)) c.in-Err-Lost.field-0-is c.in-Err-Lost.ensures.disk in
    subst (λ own. OverConnection (ChangesDisk (IsTaken (multi t ops)) (trees.payload_bytes t (Multi ops))) own old.plan Lost (trees.disk old.inner) (trees.disk new.inner)) (multi_made t ops) lost
