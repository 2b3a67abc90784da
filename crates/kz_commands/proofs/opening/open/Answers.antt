use Rattle.std.proofs.Common.{ap, sym, ◌∙◌, subst}
use Rattle.kz_spec_data.specs.Frames.{tree_letter, log_letter}
use Rattle.kz_spec_data.specs.TreeFile.{tree_of, tree_of_stored, stored_in}
use Rattle.kz_spec_data.specs.LogFile.{log_in}
use Rattle.kz_tree_store.specs.Stores as trees
use Rattle.kz_log_store.specs.Stores as logs
use Rattle.kz_commands.specs.Stops.{StandsAtStop}
use Rattle.kz_commands.specs.Outside.{outside}
use Rattle.kz_commands.specs.Opening.{AreUnopened}
use Rattle.kz_commands.proofs.Disks.{settled}
use Rattle.kz_commands.proofs.Opened.{log_unopened}
use Rattle.kz_commands.proofs.opening.open.Goals as goal

pub returns-in-Ok-attach-clause-tree_stop : goal.returns-in-Ok-attach-clause-tree_stop
returns-in-Ok-attach-clause-tree_stop g c =
    let s = c.in-Ok.tree in
    let now = trees.store_disk s in
    let opened = c.in-Ok.ensures.opened in
    settled (λ j. tree_of_stored (stored_in j)) tree_letter (g.D.Disk.told c.args.tree) (g.D.Disk.told now) (g.D.Disk.may_leave c.args.tree) (g.D.Disk.may_leave now) (g.D.Disk.syncs c.args.tree) (g.D.Disk.syncs now) opened.same
    (s.journal.settled (sym s.down_is ∙ opened.up))

pub returns-in-Ok-attach-clause-log_stop : goal.returns-in-Ok-attach-clause-log_stop
returns-in-Ok-attach-clause-log_stop g c =
    let s = c.in-Ok-attach.log in
    let now = logs.store_disk s in
    let opened = c.in-Ok-attach.ensures.opened in
    settled log_in log_letter (g.E.Disk.told c.args.log) (g.E.Disk.told now) (g.E.Disk.may_leave c.args.log) (g.E.Disk.may_leave now) (g.E.Disk.syncs c.args.log) (g.E.Disk.syncs now) opened.same
    (s.journal.settled (sym s.down_is ∙ opened.up))

pub returns-in-Err-attach-clause-tree_stop : goal.returns-in-Err-attach-clause-tree_stop
returns-in-Err-attach-clause-tree_stop g c =
    let s = c.in-Ok.tree in
    let now = trees.store_disk s in
    let opened = c.in-Ok.ensures.opened in
    subst (λ d. StandsAtStop tree_of (g.D.Disk.told c.args.tree) (g.D.Disk.may_leave c.args.tree) (g.D.Disk.syncs c.args.tree) (g.D.Disk.syncs d) (g.D.Disk.may_leave d)) (sym c.into_disk.ensures)
    (settled (λ j. tree_of_stored (stored_in j)) tree_letter (g.D.Disk.told c.args.tree) (g.D.Disk.told now) (g.D.Disk.may_leave c.args.tree) (g.D.Disk.may_leave now) (g.D.Disk.syncs c.args.tree) (g.D.Disk.syncs now) opened.same
    (s.journal.settled (sym s.down_is ∙ opened.up)))

pub returns-in-Err-attach-clause-refused : goal.returns-in-Err-attach-clause-refused
returns-in-Err-attach-clause-refused g c =
    let s = c.in-Ok.tree in
    let opened = c.in-Ok.ensures.opened in
    let tree = outside g.D.Disk.told g.D.Disk.faults g.D.Disk.last_failed c.args.tree in
    let tree_open = outside g.D.Disk.told g.D.Disk.faults g.D.Disk.last_failed (trees.store_disk s) in
    let log = outside g.E.Disk.told g.E.Disk.faults g.E.Disk.last_failed c.args.log in
    let log_now = outside g.E.Disk.told g.E.Disk.faults g.E.Disk.last_failed c.in-Err-attach.log in
    subst (λ d. AreUnopened tree (outside g.D.Disk.told g.D.Disk.faults g.D.Disk.last_failed d) log log_now c.log_status.result) (sym c.into_disk.ensures)
    (subst (λ r. AreUnopened tree tree_open log log_now r) (sym c.log_status.ensures)
    (log_unopened c.in-Err-attach.fault tree tree_open log log_now (trees.held_tree s) (g.E.Disk.last_failed c.in-Err-attach.log) opened.same opened.tree c.in-Ok.ensures.calm c.in-Err-attach.ensures.refused c.in-Err-attach.ensures.cause))

pub returns-in-Err-attach-clause-log_stop : goal.returns-in-Err-attach-clause-log_stop
returns-in-Err-attach-clause-log_stop g c = λ begun file told few bytes may. ap log_in (c.in-Err-attach.ensures.stop begun file told few bytes may)
