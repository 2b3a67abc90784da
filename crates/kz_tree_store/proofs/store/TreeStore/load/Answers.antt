use Rattle.std.proofs.Common.{◌≡◌, ◌++◌, Some, Err, sym, ap, ◌∙◌, subst}
use Rattle.kz_types.specs.declared.fault.TreeFault.TheVariants as tree_fault
use Rattle.kz_tree_store.specs.Opened.{Known}
use Rattle.kz_tree_store.specs.Stores.{left_of}
use Rattle.kz_tree_store.specs.LoadCalls.{rows_so_far, LeftByLoad}
use Rattle.kz_tree_store.proofs.LoadStops.{failed_of, only_left, left_as}
use Rattle.kz_tree_store.proofs.store.TreeStore.load.Goals as goal

pub returns-in-Err-clause-stop : goal.returns-in-Err-clause-stop
returns-in-Err-clause-stop g c = λ device.
    let s = c.args.self.now in
    let is : c.load_fault.result ≡ tree_fault.Device = cc in
    only_left c.args.last (rows_so_far s.loaded ++ c.args.rows.now) s.tree (left_of g.D.Disk.told g.D.Disk.may_leave c.load_rows.new.self) (c.in-Err.ensures.stop (ap Err (failed_of c.in-Err.fault (sym c.load_fault.ensures ∙ is))))

pub returns-clause-stop : goal.returns-clause-stop
returns-clause-stop g c = λ device.
    let s = c.args.self.now in
    let mid = c.load_rows.new.self in
    let all = rows_so_far s.loaded ++ c.args.rows.now in
    let left = left_of g.D.Disk.told g.D.Disk.may_leave c.end_load.new.self in
    let is : c.load_fault-in-Err-end_load.result ≡ tree_fault.Device = cc in
    let stop = c.in-Err-end_load.ensures.stop (ap Err (failed_of c.in-Err-end_load.fault (sym c.load_fault-in-Err-end_load.ensures ∙ is))) in
    subst (λ l. LeftByLoad l all s.tree left) (sym c.in-Some.is)
    (left_as (Some c.in-Some.last) all (rows_so_far mid.loaded) s.tree mid.tree left (ap (λ (k : Known). rows_so_far k.loaded) c.in-Ok.ensures.ok) (ap (λ (k : Known). k.tree) c.in-Ok.ensures.ok) stop)
