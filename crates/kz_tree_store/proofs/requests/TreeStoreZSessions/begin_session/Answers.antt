use Rattle.std.proofs.Common.{◌≡◌, ◌≤ℤ◌, pos, Ok, refl, sym, subst, to_z, of_z, w64}
use Rattle.std.proofs.lemmas.Int.{to_z-of_z}
use Rattle.kz_spec_data.specs.Tree.{begin_session}
use Rattle.kz_tree_store.specs.Stores.{left_of}
use Rattle.kz_tree_store.proofs.Positive.{begin_positive}
use Rattle.kz_tree_store.proofs.Makes.{begin_change, between}
use Rattle.kz_tree_store.proofs.requests.TreeStoreZSessions.begin_session.Goals as goal

pub make-requires-clause-makes : goal.make-requires-clause-makes
make-requires-clause-makes g c = begin_change c.args.self.now.tree c.prepare_begin.new.self c.in-Ok.prepared _ c.begin_txn-txn.result c.prepare_begin.ensures.same c.in-Ok.ensures.ok c.begin_txn-txn.ensures.txn

pub make-requires-clause-positive : goal.make-requires-clause-positive
make-requires-clause-positive g c = begin_positive c.args.self.now.tree (to_z w64 (of_z w64 c.args.session)) c.in-Ok.prepared c.args.self.now.positive (subst (λ z. pos 1 ≤ℤ z) (sym (to_z-of_z w64 c.args.session c.ranges.session)) c.requires) c.in-Ok.ensures.ok

pub returns-in-Err-Failed-clause-stop : goal.returns-in-Err-Failed-clause-stop
returns-in-Err-Failed-clause-stop g c = λ failed.
    let stop = rw c.in-Err-Failed.field-0-is at c.in-Err-Failed.ensures.stop in
    let made = subst (λ z. begin_session c.args.self.now.tree z ≡ Ok c.in-Ok.prepared) (to_z-of_z w64 c.args.session c.ranges.session) c.in-Ok.ensures.ok in
    between c.args.self.now.tree c.prepare_begin.new.self c.in-Ok.prepared (begin_session c.args.self.now.tree c.args.session) (left_of g.D.Disk.told g.D.Disk.may_leave c.make.new.self) c.prepare_begin.ensures.same made (stop refl)
