use Rattle.std.proofs.Common.{subst, sym}
use Rattle.kz_tree_store.specs.Stores.{store_disk, held_tree}
use Rattle.kz_commands.specs.Outside.{outside}
use Rattle.kz_load.specs.Leaves.{LeavesNewOrLoaded}
use Rattle.kz_load.specs.LoadsTrees.{LoadsTree, IsUnopenedStatus}
use Rattle.kz_load.proofs.LoadedTrees.{unopened_loads, opened_loads}
use Rattle.kz_load.proofs.Left.{unopened_left, opened_left}
use Rattle.kz_load.proofs.command.load_tree.Goals as goal

pub returns-in-Err-clause-loads : goal.returns-in-Err-clause-loads
returns-in-Err-clause-loads g c =
    unopened_loads (outside g.S.Source.left g.S.Source.faults g.S.Source.last_failed c.args.input.now) (outside g.D.Disk.told g.D.Disk.faults g.D.Disk.last_failed c.args.tree)
    (outside g.D.Disk.told g.D.Disk.faults g.D.Disk.last_failed c.in-Err.refused.1) c.in-Err.refused.0 c.in-Err.ensures.refused

pub returns-clause-loads : goal.returns-clause-loads
returns-clause-loads g c =
    let input = outside g.S.Source.left g.S.Source.faults g.S.Source.last_failed c.args.input.now in
    let input_now = outside g.S.Source.left g.S.Source.faults g.S.Source.last_failed c.fill-status.new.input in
    let tree = outside g.D.Disk.told g.D.Disk.faults g.D.Disk.last_failed c.args.tree in
    let tree_mid = outside g.D.Disk.told g.D.Disk.faults g.D.Disk.last_failed (store_disk c.in-Ok.store) in
    subst (λ d. LoadsTree input input_now tree (outside g.D.Disk.told g.D.Disk.faults g.D.Disk.last_failed d) c.fill-status.result) (sym c.into_disk_at_exit.ensures)
    (opened_loads c.in-Ok.store input input_now tree tree_mid (outside g.D.Disk.told g.D.Disk.faults g.D.Disk.last_failed (store_disk c.fill-status.new.store)) c.fill-status.result c.in-Ok.ensures.opened c.in-Ok.ensures.calm c.fill-status.ensures.fills)

pub returns-in-Err-clause-left : goal.returns-in-Err-clause-left
returns-in-Err-clause-left g c =
    unopened_left (g.S.Source.left c.args.input.now) (g.D.Disk.told c.args.tree) (g.D.Disk.told c.in-Err.refused.1) (g.D.Disk.may_leave c.args.tree) (g.D.Disk.may_leave c.in-Err.refused.1) c.in-Err.ensures.left

pub returns-in-Err-clause-settled : goal.returns-in-Err-clause-settled
returns-in-Err-clause-settled g c = λ is. absurd (subst IsUnopenedStatus is c.in-Err.ensures.refused.told)

pub returns-clause-left : goal.returns-clause-left
returns-clause-left g c =
    subst (λ d. LeavesNewOrLoaded (g.S.Source.left c.args.input.now) (g.D.Disk.told c.args.tree) (g.D.Disk.may_leave c.args.tree) (g.D.Disk.told d) (g.D.Disk.may_leave d)) (sym c.into_disk_at_exit.ensures)
    (opened_left (g.S.Source.left c.args.input.now) (g.D.Disk.told c.args.tree) (g.D.Disk.told (store_disk c.fill-status.new.store)) (g.D.Disk.may_leave c.args.tree) (g.D.Disk.may_leave (store_disk c.fill-status.new.store)) (held_tree c.in-Ok.store) c.in-Ok.ensures.opened.tree c.fill-status.ensures.left)
