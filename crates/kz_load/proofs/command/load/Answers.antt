use Rattle.std.proofs.Common.{refl, subst}
use Rattle.kz_spec_machine.specs.Init.{Inits}
use Rattle.kz_commands.specs.Outside.{outside}
use Rattle.kz_commands.specs.Makes.{MakesFiles}
use Rattle.kz_commands.specs.Stops.{contents}
use Rattle.kz_load.proofs.LoadedTrees.{refused_loads, made_loads}
use Rattle.kz_load.proofs.Left.{unmade_stops, made_stops}
use Rattle.kz_load.proofs.command.load.Goals as goal

pub returns-in-Done-clause-loads : goal.returns-in-Done-clause-loads
returns-in-Done-clause-loads g c =
    let input = outside g.S.Source.left g.S.Source.faults g.S.Source.last_failed c.args.input.now in
    let input_now = outside g.S.Source.left g.S.Source.faults g.S.Source.last_failed c.load_tree-status.new.input in
    let tree = outside g.D.Disk.told g.D.Disk.faults g.D.Disk.last_failed c.args.tree in
    let tree_mid = outside g.D.Disk.told g.D.Disk.faults g.D.Disk.last_failed c.init-made.result.1 in
    let tree_now = outside g.D.Disk.told g.D.Disk.faults g.D.Disk.last_failed c.load_tree-status.result.1 in
    let log = outside g.E.Disk.told g.E.Disk.faults g.E.Disk.last_failed c.args.log in
    let log_now = outside g.E.Disk.told g.E.Disk.faults g.E.Disk.last_failed c.init-made.result.2 in
    made_loads input input_now tree tree_mid tree_now log log_now c.load_tree-status.result.0
    (subst (λ s. MakesFiles Inits tree tree_mid log log_now s) c.in-Done.is c.init-made.ensures.made) (c.init-made.ensures.told c.in-Done.is) c.load_tree-status.ensures.loads

pub returns-in_default-clause-loads : goal.returns-in_default-clause-loads
returns-in_default-clause-loads g c =
    refused_loads (outside g.S.Source.left g.S.Source.faults g.S.Source.last_failed c.args.input.now)
    (outside g.D.Disk.told g.D.Disk.faults g.D.Disk.last_failed c.args.tree) (outside g.D.Disk.told g.D.Disk.faults g.D.Disk.last_failed c.init-made.result.1)
    (outside g.E.Disk.told g.E.Disk.faults g.E.Disk.last_failed c.args.log) (outside g.E.Disk.told g.E.Disk.faults g.E.Disk.last_failed c.init-made.result.2) c.init-made.result.0
    c.in_default.not-Done c.init-made.ensures.unread c.init-made.ensures.made

pub returns-in-Done-clause-stop : goal.returns-in-Done-clause-stop
returns-in-Done-clause-stop g c =
    let tree_of_contents = contents g.D.Disk.told g.D.Disk.may_leave g.D.Disk.syncs in
    let log_of_contents = contents g.E.Disk.told g.E.Disk.may_leave g.E.Disk.syncs in
    made_stops (g.S.Source.left c.args.input.now) (tree_of_contents c.args.tree) (tree_of_contents c.init-made.result.1) (tree_of_contents c.load_tree-status.result.1) (log_of_contents c.args.log) (log_of_contents c.init-made.result.2) c.load_tree-status.result.0
    (outside g.D.Disk.told g.D.Disk.faults g.D.Disk.last_failed c.args.tree) (outside g.D.Disk.told g.D.Disk.faults g.D.Disk.last_failed c.init-made.result.1)
    (outside g.E.Disk.told g.E.Disk.faults g.E.Disk.last_failed c.args.log) (outside g.E.Disk.told g.E.Disk.faults g.E.Disk.last_failed c.init-made.result.2) refl refl refl refl
    (subst (λ s. MakesFiles Inits (outside g.D.Disk.told g.D.Disk.faults g.D.Disk.last_failed c.args.tree) (outside g.D.Disk.told g.D.Disk.faults g.D.Disk.last_failed c.init-made.result.1) (outside g.E.Disk.told g.E.Disk.faults g.E.Disk.last_failed c.args.log) (outside g.E.Disk.told g.E.Disk.faults g.E.Disk.last_failed c.init-made.result.2) s) c.in-Done.is c.init-made.ensures.made)
    (c.init-made.ensures.told c.in-Done.is) (c.init-made.ensures.grown c.in-Done.is) (c.init-made.ensures.settled c.in-Done.is) c.load_tree-status.ensures.left c.load_tree-status.ensures.settled

pub returns-in_default-clause-stop : goal.returns-in_default-clause-stop
returns-in_default-clause-stop g c =
    unmade_stops (g.S.Source.left c.args.input.now) (contents g.D.Disk.told g.D.Disk.may_leave g.D.Disk.syncs c.args.tree) (contents g.D.Disk.told g.D.Disk.may_leave g.D.Disk.syncs c.init-made.result.1)
    (contents g.E.Disk.told g.E.Disk.may_leave g.E.Disk.syncs c.args.log) (contents g.E.Disk.told g.E.Disk.may_leave g.E.Disk.syncs c.init-made.result.2) c.init-made.result.0 c.in_default.not-Done c.init-made.ensures.tree_left c.init-made.ensures.log_left
