use Rattle.std.proofs.Common.{◌≡◌, Some, Err, refl, sym, ap, ◌∙◌, subst}
use Rattle.kz_types.specs.declared.fault.TreeFault.TheVariants as tree_fault
use Rattle.kz_spec_data.specs.Tree.{Tree}
use Rattle.kz_tree_store.specs.Opened.{Known}
use Rattle.kz_tree_store.specs.Stores.{left_of}
use Rattle.kz_tree_store.specs.LoadCalls.{last_of, LeftByLoad}
use Rattle.kz_tree_store.proofs.LoadStops.{failed_of, only_left, left_as}
use Rattle.kz_tree_store.proofs.store.TreeStore.load_checked.Goals as goal

pub returns-in-Err-clause-stop : goal.returns-in-Err-clause-stop
returns-in-Err-clause-stop g c = λ device.
    let s = c.args.self.now in
    let check = c.args.check in
    let is : c.load_fault.result ≡ tree_fault.Device = cc in
    only_left (Some (last_of check)) check.rows s.tree (left_of g.D.Disk.told g.D.Disk.may_leave c.write_rows.new.self) (c.in-Err.ensures.stop (ap Err (failed_of c.in-Err.fault (sym c.load_fault.ensures ∙ is))))

pub returns-in-Err-write_end-clause-stop : goal.returns-in-Err-write_end-clause-stop
returns-in-Err-write_end-clause-stop g c = λ device.
    let s = c.args.self.now in
    let mid = c.write_rows.new.self in
    let left = left_of g.D.Disk.told g.D.Disk.may_leave c.write_end.new.self in
    let is : c.load_fault-in-Err-write_end.result ≡ tree_fault.Device = cc in
    let stop = c.in-Err-write_end.ensures.stop (ap Err (failed_of c.in-Err-write_end.fault (sym c.load_fault-in-Err-write_end.ensures ∙ is))) in
    subst (λ (t : Tree). LeftByLoad (Some (last_of t)) t.rows s.tree left) c.into_tree.ensures.tree
    (left_as (Some (last_of c.into_tree.result)) c.into_tree.result.rows c.into_tree.result.rows s.tree mid.tree left refl (ap (λ (k : Known). k.tree) c.write_rows.ensures.same) stop)
