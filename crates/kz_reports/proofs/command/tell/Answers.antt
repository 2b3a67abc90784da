use Rattle.std.proofs.Common.{sym, subst}
use Rattle.kz_spec_data.specs.TreeFile.{tree_of}
use Rattle.kz_spec_data.specs.LogFile.{log_of}
use Rattle.kz_tree_store.specs.Stores as trees
use Rattle.kz_log_store.specs.Stores as logs
use Rattle.kz_commands.specs.Outside.{outside}
use Rattle.kz_commands.specs.Stops.{StandsAtStop}
use Rattle.kz_commands.proofs.Disks.{of_both}
use Rattle.kz_reports.specs.Reports.{defined_report}
use Rattle.kz_reports.specs.Tells.{Tells}
use Rattle.kz_reports.proofs.Telling.{unopened_tells, opened_stores_tell}
use Rattle.kz_reports.proofs.command.tell.Goals as goal

pub returns-in-Err-clause-tells : goal.returns-in-Err-clause-tells
returns-in-Err-clause-tells g c =
    unopened_tells (defined_report c.args.report) (outside g.K.Sink.taken g.K.Sink.faults g.K.Sink.last_failed c.args.out.now)
    (outside g.D.Disk.told g.D.Disk.faults g.D.Disk.last_failed c.args.tree) (outside g.D.Disk.told g.D.Disk.faults g.D.Disk.last_failed c.in-Err.refused.1)
    (outside g.E.Disk.told g.E.Disk.faults g.E.Disk.last_failed c.args.log) (outside g.E.Disk.told g.E.Disk.faults g.E.Disk.last_failed c.in-Err.refused.2) c.in-Err.refused.0 c.in-Err.ensures.refused

pub returns-clause-tells : goal.returns-clause-tells
returns-clause-tells g c =
    let t = c.in-Ok.stores.0 in
    let l = c.in-Ok.stores.1 in
    let tree = outside g.D.Disk.told g.D.Disk.faults g.D.Disk.last_failed in
    let log = outside g.E.Disk.told g.E.Disk.faults g.E.Disk.last_failed in
    let out = outside g.K.Sink.taken g.K.Sink.faults g.K.Sink.last_failed c.args.out.now in
    let out_now = outside g.K.Sink.taken g.K.Sink.faults g.K.Sink.last_failed c.told-ended.new.out in
    of_both (λ d e. Tells (defined_report c.args.report) out out_now (tree c.args.tree) (tree d) (log c.args.log) (log e) c.status_of-status.result)
    (trees.store_disk t) c.into_disk_at_exit.result (logs.store_disk l) c.into_disk_at_exit-2.result c.into_disk_at_exit.ensures c.into_disk_at_exit-2.ensures
    (subst (λ s. Tells (defined_report c.args.report) out out_now (tree c.args.tree) (tree (trees.store_disk t)) (log c.args.log) (log (logs.store_disk l)) s) (sym c.status_of-status.ensures)
    (opened_stores_tell (defined_report c.args.report) t l c.told-ended.result out out_now (tree c.args.tree) (tree (trees.store_disk t)) (log c.args.log) (log (logs.store_disk l))
    c.in-Ok.ensures.opened c.told-ended.ensures.printed c.told-ended.ensures.sink))

pub returns-clause-tree_stop : goal.returns-clause-tree_stop
returns-clause-tree_stop g c =
    subst (λ d. StandsAtStop tree_of (g.D.Disk.told c.args.tree) (g.D.Disk.may_leave c.args.tree) (g.D.Disk.syncs c.args.tree) (g.D.Disk.syncs d) (g.D.Disk.may_leave d)) (sym c.into_disk_at_exit.ensures) c.in-Ok.ensures.tree_stop

pub returns-clause-log_stop : goal.returns-clause-log_stop
returns-clause-log_stop g c =
    subst (λ d. StandsAtStop log_of (g.E.Disk.told c.args.log) (g.E.Disk.may_leave c.args.log) (g.E.Disk.syncs c.args.log) (g.E.Disk.syncs d) (g.E.Disk.may_leave d)) (sym c.into_disk_at_exit-2.ensures) c.in-Ok.ensures.log_stop
