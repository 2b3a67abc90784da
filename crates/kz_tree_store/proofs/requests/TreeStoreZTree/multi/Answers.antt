use Rattle.std.proofs.Common.{refl}
use Rattle.kz_spec_data.specs.Tree.{multi}
use Rattle.kz_tree_store.specs.Stores.{left_of}
use Rattle.kz_tree_store.proofs.Positive.{multi_positive}
use Rattle.kz_tree_store.proofs.Makes.{multi_change, between}
use Rattle.kz_tree_store.proofs.requests.TreeStoreZTree.multi.Goals as goal

pub make-requires-clause-makes : goal.make-requires-clause-makes
make-requires-clause-makes g c = multi_change c.args.self.now.tree c.prepare.new.self c.in-Ok.prepared c.args.ops.now c.in-Ok-multi_txn.txn c.prepare.ensures.same c.in-Ok.ensures.ok c.in-Ok-multi_txn.ensures.txn

pub make-requires-clause-positive : goal.make-requires-clause-positive
make-requires-clause-positive g c = multi_positive c.args.self.now.tree c.args.ops.now c.in-Ok.prepared c.args.self.now.positive c.in-Ok.ensures.ok

pub returns-in-Err-Failed-clause-stop : goal.returns-in-Err-Failed-clause-stop
returns-in-Err-Failed-clause-stop g c = λ failed.
    let stop = rw c.in-Err-Failed.field-0-is at c.in-Err-Failed.ensures.stop in
    between c.args.self.now.tree c.prepare.new.self c.in-Ok.prepared (multi c.args.self.now.tree c.args.ops.now) (left_of g.D.Disk.told g.D.Disk.may_leave c.make.new.self) c.prepare.ensures.same c.in-Ok.ensures.ok (stop refl)
