use Rattle.std.proofs.Common.{◌≡◌, Ok, refl, subst, to_z, of_z, w64}
use Rattle.std.proofs.lemmas.Int.{to_z-of_z}
use Rattle.kz_spec_data.specs.Tree.{end_session}
use Rattle.kz_tree_store.specs.Stores.{left_of}
use Rattle.kz_tree_store.proofs.Positive.{end_positive}
use Rattle.kz_tree_store.proofs.Makes.{end_change, between}
use Rattle.kz_tree_store.proofs.requests.TreeStoreZSessions.end_session.Goals as goal

pub make-requires-clause-makes : goal.make-requires-clause-makes
make-requires-clause-makes g c = end_change c.args.self.now.tree c.prepare_end.new.self c.in-Ok.prepared _ c.end_txn-txn.result c.prepare_end.ensures.same c.in-Ok.ensures.ok c.end_txn-txn.ensures.txn

pub make-requires-clause-positive : goal.make-requires-clause-positive
make-requires-clause-positive g c = end_positive c.args.self.now.tree (to_z w64 (of_z w64 c.args.session)) c.in-Ok.prepared c.args.self.now.positive c.in-Ok.ensures.ok

pub returns-in-Err-Failed-clause-stop : goal.returns-in-Err-Failed-clause-stop
returns-in-Err-Failed-clause-stop g c = λ failed.
    let stop = rw c.in-Err-Failed.field-0-is at c.in-Err-Failed.ensures.stop in
    let made = subst (λ z. end_session c.args.self.now.tree z ≡ Ok c.in-Ok.prepared) (to_z-of_z w64 c.args.session c.ranges.session) c.in-Ok.ensures.ok in
    between c.args.self.now.tree c.prepare_end.new.self c.in-Ok.prepared (end_session c.args.self.now.tree c.args.session) (left_of g.D.Disk.told g.D.Disk.may_leave c.make.new.self) c.prepare_end.ensures.same made (stop refl)
