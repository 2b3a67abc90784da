use Rattle.std.proofs.Common.{sym, subst}
use Rattle.kz_types.specs.declared.outside.Status.TheVariants as status
use Rattle.kz_spec_data.specs.TreeFile.{tree_of}
use Rattle.kz_spec_data.specs.LogFile.{log_of}
use Rattle.kz_spec_machine.specs.Upgrade.{Upgrades}
use Rattle.kz_tree_store.specs.Stores as trees
use Rattle.kz_log_store.specs.Stores as logs
use Rattle.kz_commands.specs.Outside.{outside}
use Rattle.kz_commands.specs.Stops.{StandsAtStop}
use Rattle.kz_commands.specs.Makes.{MakesFiles}
use Rattle.kz_commands.proofs.Disks.{of_both}
use Rattle.kz_commands.proofs.Sealed.{unopened, are_open, tree_unsealed, log_unsealed, both_sealed, tree_left, log_left}
use Rattle.kz_commands.proofs.sealing.upgrade.Goals as goal

pub returns-in-Err-clause-made : goal.returns-in-Err-clause-made
returns-in-Err-clause-made g c =
    unopened (outside g.D.Disk.told g.D.Disk.faults g.D.Disk.last_failed c.args.tree) (outside g.D.Disk.told g.D.Disk.faults g.D.Disk.last_failed c.in-Err.refused.1)
    (outside g.E.Disk.told g.E.Disk.faults g.E.Disk.last_failed c.args.log) (outside g.E.Disk.told g.E.Disk.faults g.E.Disk.last_failed c.in-Err.refused.2) c.in-Err.refused.0 c.in-Err.ensures.refused

pub returns-in-Err-seal_tree-clause-made : goal.returns-in-Err-seal_tree-clause-made
returns-in-Err-seal_tree-clause-made g c =
    let t = c.in-Ok.stores.0 in
    let l = c.in-Ok.stores.1 in
    let tree = outside g.D.Disk.told g.D.Disk.faults g.D.Disk.last_failed c.args.tree in
    let tree_open = outside g.D.Disk.told g.D.Disk.faults g.D.Disk.last_failed (trees.store_disk t) in
    let tree_now = outside g.D.Disk.told g.D.Disk.faults g.D.Disk.last_failed (trees.store_disk c.seal_tree.new.tree) in
    let log = outside g.E.Disk.told g.E.Disk.faults g.E.Disk.last_failed c.args.log in
    let log_open = outside g.E.Disk.told g.E.Disk.faults g.E.Disk.last_failed (logs.store_disk l) in
    of_both (λ d e. MakesFiles Upgrades tree (outside g.D.Disk.told g.D.Disk.faults g.D.Disk.last_failed d) log (outside g.E.Disk.told g.E.Disk.faults g.E.Disk.last_failed e) c.tree_seal_status.result)
    (trees.store_disk c.seal_tree.new.tree) c.into_disk.result (logs.store_disk l) c.into_disk-in-Err-seal_tree.result c.into_disk.ensures c.into_disk-in-Err-seal_tree.ensures
    (subst (λ s. MakesFiles Upgrades tree tree_now log log_open s) (sym c.tree_seal_status.ensures)
    (tree_unsealed c.in-Err-seal_tree.fault tree tree_open tree_now log log_open (are_open t l tree tree_open log log_open c.in-Ok.ensures.opened) c.in-Err-seal_tree.ensures.sealed c.in-Err-seal_tree.ensures.cause))

pub returns-in-Err-seal_tree-clause-tree_stop : goal.returns-in-Err-seal_tree-clause-tree_stop
returns-in-Err-seal_tree-clause-tree_stop g c =
    let t = c.in-Ok.stores.0 in
    let now = trees.store_disk c.seal_tree.new.tree in
    let opened = c.in-Ok.ensures.opened.tree_opened in
    subst (λ d. StandsAtStop tree_of (g.D.Disk.told c.args.tree) (g.D.Disk.may_leave c.args.tree) (g.D.Disk.syncs c.args.tree) (g.D.Disk.syncs d) (g.D.Disk.may_leave d)) (sym c.into_disk.ensures)
    (tree_left (trees.held_tree t) (g.D.Disk.told c.args.tree) (g.D.Disk.told (trees.store_disk t)) (g.D.Disk.told now) (g.D.Disk.may_leave c.args.tree) (g.D.Disk.may_leave now) (g.D.Disk.syncs c.args.tree) (g.D.Disk.syncs now)
    opened.told c.seal_tree.ensures.told opened.tree c.seal_tree.ensures.stop)

pub returns-in-Ok-seal_log-clause-made : goal.returns-in-Ok-seal_log-clause-made
returns-in-Ok-seal_log-clause-made g c =
    let t = c.in-Ok.stores.0 in
    let l = c.in-Ok.stores.1 in
    let tree = outside g.D.Disk.told g.D.Disk.faults g.D.Disk.last_failed c.args.tree in
    let tree_open = outside g.D.Disk.told g.D.Disk.faults g.D.Disk.last_failed (trees.store_disk t) in
    let tree_now = outside g.D.Disk.told g.D.Disk.faults g.D.Disk.last_failed (trees.store_disk c.seal_tree.new.tree) in
    let log = outside g.E.Disk.told g.E.Disk.faults g.E.Disk.last_failed c.args.log in
    let log_open = outside g.E.Disk.told g.E.Disk.faults g.E.Disk.last_failed (logs.store_disk l) in
    let log_now = outside g.E.Disk.told g.E.Disk.faults g.E.Disk.last_failed (logs.store_disk c.seal_log.new.log) in
    of_both (λ d e. MakesFiles Upgrades tree (outside g.D.Disk.told g.D.Disk.faults g.D.Disk.last_failed d) log (outside g.E.Disk.told g.E.Disk.faults g.E.Disk.last_failed e) status.Done)
    (trees.store_disk c.seal_tree.new.tree) c.into_disk-in-Ok-seal_log.result (logs.store_disk c.seal_log.new.log) c.into_disk-in-Ok-seal_log-2.result c.into_disk-in-Ok-seal_log.ensures c.into_disk-in-Ok-seal_log-2.ensures
    (both_sealed tree tree_open tree_now log log_open log_now (are_open t l tree tree_open log log_open c.in-Ok.ensures.opened) c.in-Ok-seal_tree.ensures.sealed c.in-Ok-seal_tree.ensures.cause c.in-Ok-seal_log.ensures.sealed c.in-Ok-seal_log.ensures.cause)

pub returns-in-Ok-seal_log-clause-tree_stop : goal.returns-in-Ok-seal_log-clause-tree_stop
returns-in-Ok-seal_log-clause-tree_stop g c =
    let t = c.in-Ok.stores.0 in
    let now = trees.store_disk c.seal_tree.new.tree in
    let opened = c.in-Ok.ensures.opened.tree_opened in
    subst (λ d. StandsAtStop tree_of (g.D.Disk.told c.args.tree) (g.D.Disk.may_leave c.args.tree) (g.D.Disk.syncs c.args.tree) (g.D.Disk.syncs d) (g.D.Disk.may_leave d)) (sym c.into_disk-in-Ok-seal_log.ensures)
    (tree_left (trees.held_tree t) (g.D.Disk.told c.args.tree) (g.D.Disk.told (trees.store_disk t)) (g.D.Disk.told now) (g.D.Disk.may_leave c.args.tree) (g.D.Disk.may_leave now) (g.D.Disk.syncs c.args.tree) (g.D.Disk.syncs now)
    opened.told c.seal_tree.ensures.told opened.tree c.seal_tree.ensures.stop)

pub returns-in-Ok-seal_log-clause-log_stop : goal.returns-in-Ok-seal_log-clause-log_stop
returns-in-Ok-seal_log-clause-log_stop g c =
    let l = c.in-Ok.stores.1 in
    let now = logs.store_disk c.seal_log.new.log in
    let opened = c.in-Ok.ensures.opened.log_opened in
    subst (λ e. StandsAtStop log_of (g.E.Disk.told c.args.log) (g.E.Disk.may_leave c.args.log) (g.E.Disk.syncs c.args.log) (g.E.Disk.syncs e) (g.E.Disk.may_leave e)) (sym c.into_disk-in-Ok-seal_log-2.ensures)
    (log_left (logs.held_log l) (g.E.Disk.told c.args.log) (g.E.Disk.told (logs.store_disk l)) (g.E.Disk.told now) (g.E.Disk.may_leave c.args.log) (g.E.Disk.may_leave now) (g.E.Disk.syncs c.args.log) (g.E.Disk.syncs now)
    opened.told c.seal_log.ensures.told (λ file is. (opened.log file is).log) c.seal_log.ensures.stop)

pub returns-in-Err-seal_log-clause-made : goal.returns-in-Err-seal_log-clause-made
returns-in-Err-seal_log-clause-made g c =
    let t = c.in-Ok.stores.0 in
    let l = c.in-Ok.stores.1 in
    let tree = outside g.D.Disk.told g.D.Disk.faults g.D.Disk.last_failed c.args.tree in
    let tree_open = outside g.D.Disk.told g.D.Disk.faults g.D.Disk.last_failed (trees.store_disk t) in
    let tree_now = outside g.D.Disk.told g.D.Disk.faults g.D.Disk.last_failed (trees.store_disk c.seal_tree.new.tree) in
    let log = outside g.E.Disk.told g.E.Disk.faults g.E.Disk.last_failed c.args.log in
    let log_open = outside g.E.Disk.told g.E.Disk.faults g.E.Disk.last_failed (logs.store_disk l) in
    let log_now = outside g.E.Disk.told g.E.Disk.faults g.E.Disk.last_failed (logs.store_disk c.seal_log.new.log) in
    of_both (λ d e. MakesFiles Upgrades tree (outside g.D.Disk.told g.D.Disk.faults g.D.Disk.last_failed d) log (outside g.E.Disk.told g.E.Disk.faults g.E.Disk.last_failed e) c.log_seal_status.result)
    (trees.store_disk c.seal_tree.new.tree) c.into_disk-in-Err-seal_log.result (logs.store_disk c.seal_log.new.log) c.into_disk-in-Err-seal_log-2.result c.into_disk-in-Err-seal_log.ensures c.into_disk-in-Err-seal_log-2.ensures
    (subst (λ s. MakesFiles Upgrades tree tree_now log log_now s) (sym c.log_seal_status.ensures)
    (log_unsealed c.in-Err-seal_log.fault tree tree_open tree_now log log_open log_now (are_open t l tree tree_open log log_open c.in-Ok.ensures.opened) c.in-Ok-seal_tree.ensures.sealed c.in-Ok-seal_tree.ensures.cause
    c.in-Err-seal_log.ensures.sealed c.in-Err-seal_log.ensures.cause))

pub returns-in-Err-seal_log-clause-tree_stop : goal.returns-in-Err-seal_log-clause-tree_stop
returns-in-Err-seal_log-clause-tree_stop g c =
    let t = c.in-Ok.stores.0 in
    let now = trees.store_disk c.seal_tree.new.tree in
    let opened = c.in-Ok.ensures.opened.tree_opened in
    subst (λ d. StandsAtStop tree_of (g.D.Disk.told c.args.tree) (g.D.Disk.may_leave c.args.tree) (g.D.Disk.syncs c.args.tree) (g.D.Disk.syncs d) (g.D.Disk.may_leave d)) (sym c.into_disk-in-Err-seal_log.ensures)
    (tree_left (trees.held_tree t) (g.D.Disk.told c.args.tree) (g.D.Disk.told (trees.store_disk t)) (g.D.Disk.told now) (g.D.Disk.may_leave c.args.tree) (g.D.Disk.may_leave now) (g.D.Disk.syncs c.args.tree) (g.D.Disk.syncs now)
    opened.told c.seal_tree.ensures.told opened.tree c.seal_tree.ensures.stop)

pub returns-in-Err-seal_log-clause-log_stop : goal.returns-in-Err-seal_log-clause-log_stop
returns-in-Err-seal_log-clause-log_stop g c =
    let l = c.in-Ok.stores.1 in
    let now = logs.store_disk c.seal_log.new.log in
    let opened = c.in-Ok.ensures.opened.log_opened in
    subst (λ e. StandsAtStop log_of (g.E.Disk.told c.args.log) (g.E.Disk.may_leave c.args.log) (g.E.Disk.syncs c.args.log) (g.E.Disk.syncs e) (g.E.Disk.may_leave e)) (sym c.into_disk-in-Err-seal_log-2.ensures)
    (log_left (logs.held_log l) (g.E.Disk.told c.args.log) (g.E.Disk.told (logs.store_disk l)) (g.E.Disk.told now) (g.E.Disk.may_leave c.args.log) (g.E.Disk.may_leave now) (g.E.Disk.syncs c.args.log) (g.E.Disk.syncs now)
    opened.told c.seal_log.ensures.told (λ file is. (opened.log file is).log) c.seal_log.ensures.stop)
