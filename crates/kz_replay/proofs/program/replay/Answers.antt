use Rattle.std.proofs.Common.{ℕ, List, IfSome, is_some, sym, ap, ◌∙◌, subst}
use Rattle.std.specs.Io.KnownBytes.{Appends, Consumes}
use Rattle.kz_spec_machine.specs.Sound.{Sound}
use Rattle.kz_spec_machine.specs.Endings.{EndsAs}
use Rattle.kz_world.specs.Disks.{disks_of}
use Rattle.kz_world.specs.TurnStops.{AreUp}
use Rattle.kz_world.specs.Worlds.{plain_world}
use Rattle.kz_world.specs.EventDisks.{disks_in}
use Rattle.kz_tree_store.specs.Opened.{LeavesTree}
use Rattle.kz_tree_store.specs.Stores as trees
use Rattle.kz_log_store.specs.Opened.{LeavesLog}
use Rattle.kz_log_store.specs.Stores as logs
use Rattle.kz_spec_machine.specs.Moments.{LeavesMoment}
use Rattle.kz_stream.specs.Pending.{state_of, outcome_to_come, moments_to_come, pending_lines}
use Rattle.kz_commands.specs.Outside.{outside}
use Rattle.kz_replay.specs.Disks.{RunDisks}
use Rattle.kz_commands.specs.Stops.{contents}
use Rattle.kz_replay.specs.Stops.{ReplayStops}
use Rattle.kz_replay.proofs.Replaying.{Told, not_opened, opened, unopened_stops, opened_stops, tree_stands, log_stands_for}
use Rattle.kz_replay.proofs.program.replay.Goals as goal

pub returns-in-Err-clause-replays : goal.returns-in-Err-clause-replays
returns-in-Err-clause-replays g c =
    not_opened (outside g.S.Source.left g.S.Source.faults g.S.Source.last_failed c.args.input.now) (outside g.K.Sink.taken g.K.Sink.faults g.K.Sink.last_failed c.args.out.now)
    (outside g.D.Disk.told g.D.Disk.faults g.D.Disk.last_failed c.args.tree) (outside g.D.Disk.told g.D.Disk.faults g.D.Disk.last_failed c.in-Err.refused.1)
    (outside g.E.Disk.told g.E.Disk.faults g.E.Disk.last_failed c.args.log) (outside g.E.Disk.told g.E.Disk.faults g.E.Disk.last_failed c.in-Err.refused.2) c.in-Err.refused.0 c.in-Err.ensures.refused

pub returns-clause-replays : goal.returns-clause-replays
returns-clause-replays g c =
    let source = outside g.S.Source.left g.S.Source.faults g.S.Source.last_failed in
    let sink = outside g.K.Sink.taken g.K.Sink.faults g.K.Sink.last_failed in
    let tree_disk = outside g.D.Disk.told g.D.Disk.faults g.D.Disk.last_failed in
    let log_disk = outside g.E.Disk.told g.E.Disk.faults g.E.Disk.last_failed in
    let first_tree = c.in-Ok.stores.0 in
    let first_log = c.in-Ok.stores.1 in
    let last = c.pump-status.result.1.world in
    let result = c.pump-status.result.0 in
    let world = plain_world (λ t. trees.held_tree t) (λ l. logs.held_log l) in
    let disks = disks_in (λ t. trees.store_state g.D.Disk.faults t) (λ l. logs.store_state g.E.Disk.faults l) in
    let tree_is = c.into_disk_at_exit.ensures ∙ ap (λ t. trees.store_disk t) c.into_parts-tree.ensures.tree in
    let log_is = c.into_disk_at_exit-2.ensures ∙ ap (λ l. logs.store_disk l) c.into_parts-tree.ensures.log in
    let is = c.in-Ok.ensures.opened in
    let made = c.pump-status.ensures in
    let script_is = g.S.Source.left c.args.input.now in
    let input = source c.args.input.now in
    let input_now = source c.pump-status.new.input in
    let out = sink c.args.out.now in
    let out_now = sink c.pump-status.new.out in
    let tree_left = contents g.D.Disk.told g.D.Disk.may_leave g.D.Disk.syncs (trees.store_disk last.tree) in
    let log_left = contents g.E.Disk.told g.E.Disk.may_leave g.E.Disk.syncs (logs.store_disk last.log) in
    opened (trees.held_tree first_tree) (logs.held_log first_log) (world last) (disks_of (trees.store_state g.D.Disk.faults first_tree) (logs.store_state g.E.Disk.faults first_log)) (disks last)
    input input_now out out_now
    (tree_disk c.args.tree) (tree_disk c.into_disk_at_exit.result) (log_disk c.args.log) (log_disk c.into_disk_at_exit-2.result)
    (contents g.D.Disk.told g.D.Disk.may_leave g.D.Disk.syncs (trees.store_disk last.tree)) (contents g.E.Disk.told g.E.Disk.may_leave g.E.Disk.syncs (logs.store_disk last.log)) result
    (record {
      tree_stood = is.tree_opened.tree;
      log_stood = λ file told. (is.log_opened.log file told).log;
      up = record { tree = sym first_tree.down_is ∙ is.tree_opened.up; log = sym first_log.down_is ∙ is.log_opened.up };
      faults = record {
        tree_before = is.tree_calm;
        tree_after = sym (ap g.D.Disk.faults tree_is);
        log_before = is.log_calm;
        log_after = sym (ap g.E.Disk.faults log_is);
      };
      standing = λ up t l is_t is_l. record {
        tree_is = tree_stands (trees.held_tree last.tree) (g.D.Disk.told (trees.store_disk last.tree)) (g.D.Disk.may_leave (trees.store_disk last.tree)) (made.settled up).0
            (λ file told. g.met.D.Disk.may_stay (trees.store_disk last.tree) file told) t (sym (ap g.D.Disk.told tree_is) ∙ is_t);
        log_is = log_stands_for (logs.held_log last.log) (g.E.Disk.told (logs.store_disk last.log)) (g.E.Disk.may_leave (logs.store_disk last.log)) (made.settled up).1
            (λ file told. g.met.E.Disk.may_stay (logs.store_disk last.log) file told) l (sym (ap g.E.Disk.told log_is) ∙ is_l);
      };
      tree_stays = λ t is_t. let is = sym (ap g.D.Disk.told tree_is) ∙ is_t in (ap is_some is, g.met.D.Disk.may_stay (trees.store_disk last.tree) t is);
      log_stays = λ l is_l. let is = sym (ap g.E.Disk.told log_is) ∙ is_l in (ap is_some is, g.met.E.Disk.may_stay (logs.store_disk last.log) l is);
      output = subst (λ w. Sound (world w) → IfSome script_is (Told (world w) input input_now out out_now (world last) result (disks w) tree_left log_left)) c.new-world.ensures
          (subst (λ s. Sound (world s.place.machine.world) → IfSome script_is (λ script. (taken : List ℕ) × (sent : List ℕ) × Consumes script_is (g.S.Source.left c.pump-status.new.input) taken
          × Appends (g.K.Sink.taken c.args.out.now) (g.K.Sink.taken c.pump-status.new.out) sent
          × EndsAs (outcome_to_come (state_of (λ r. world r.world) s) script) (pending_lines (state_of (λ r. world r.world) s) taken) sent (world last) result
          × (AreUp (disks s.place.machine.world) → LeavesMoment (moments_to_come (state_of (λ r. world r.world) s) script) sent (LeavesTree tree_left.told tree_left.leaves) (LeavesLog log_left.told log_left.leaves)))) c.new.ensures made.output);
      disks = subst (λ w. Sound (world w) → AreUp (disks w) → RunDisks result (disks w) (disks last)) c.new-world.ensures
          (subst (λ s. Sound (world s.place.machine.world) → AreUp (disks s.place.machine.world) → RunDisks result (disks s.place.machine.world) (disks last)) c.new.ensures made.disks);
    }) made.whole made.source made.sink

pub returns-in-Err-clause-stop : goal.returns-in-Err-clause-stop
returns-in-Err-clause-stop g c =
    let tree_side = contents g.D.Disk.told g.D.Disk.may_leave g.D.Disk.syncs in
    let log_side = contents g.E.Disk.told g.E.Disk.may_leave g.E.Disk.syncs in
    unopened_stops (g.S.Source.left c.args.input.now) (g.K.Sink.taken c.args.out.now) (tree_side c.args.tree) (tree_side c.in-Err.refused.1) (log_side c.args.log) (log_side c.in-Err.refused.2) c.in-Err.ensures.tree_stop c.in-Err.ensures.log_stop

pub returns-clause-stop : goal.returns-clause-stop
returns-clause-stop g c =
    let source = outside g.S.Source.left g.S.Source.faults g.S.Source.last_failed in
    let sink = outside g.K.Sink.taken g.K.Sink.faults g.K.Sink.last_failed in
    let tree_side = contents g.D.Disk.told g.D.Disk.may_leave g.D.Disk.syncs in
    let log_side = contents g.E.Disk.told g.E.Disk.may_leave g.E.Disk.syncs in
    let first_tree = c.in-Ok.stores.0 in
    let first_log = c.in-Ok.stores.1 in
    let last = c.pump-status.result.1.world in
    let result = c.pump-status.result.0 in
    let world = plain_world (λ t. trees.held_tree t) (λ l. logs.held_log l) in
    let disks = disks_in (λ t. trees.store_state g.D.Disk.faults t) (λ l. logs.store_state g.E.Disk.faults l) in
    let tree_is = c.into_disk_at_exit.ensures ∙ ap (λ t. trees.store_disk t) c.into_parts-tree.ensures.tree in
    let log_is = c.into_disk_at_exit-2.ensures ∙ ap (λ l. logs.store_disk l) c.into_parts-tree.ensures.log in
    let is = c.in-Ok.ensures.opened in
    let script_is = g.S.Source.left c.args.input.now in
    let input = source c.args.input.now in
    let input_now = source c.pump-status.new.input in
    let out = sink c.args.out.now in
    let out_now = sink c.pump-status.new.out in
    let tree_left = tree_side (trees.store_disk last.tree) in
    let log_left = log_side (logs.store_disk last.log) in
    subst (λ d. ReplayStops script_is out.bytes out_now.bytes (tree_side c.args.tree) (tree_side d) (log_side c.args.log) (log_side c.into_disk_at_exit-2.result)) (sym tree_is)
    (subst (λ d. ReplayStops script_is out.bytes out_now.bytes (tree_side c.args.tree) tree_left (log_side c.args.log) (log_side d)) (sym log_is)
    (opened_stops (trees.held_tree first_tree) (logs.held_log first_log) (world last) (disks_of (trees.store_state g.D.Disk.faults first_tree) (logs.store_state g.E.Disk.faults first_log)) input input_now out out_now
    (tree_side c.args.tree) tree_left (log_side c.args.log) log_left result
    is.tree_opened.tree (λ file told. (is.log_opened.log file told).log)
    (record { tree = sym first_tree.down_is ∙ is.tree_opened.up; log = sym first_log.down_is ∙ is.log_opened.up })
    (subst (λ w. Sound (world w) → IfSome script_is (Told (world w) input input_now out out_now (world last) result (disks w) tree_left log_left)) c.new-world.ensures
    (subst (λ s. Sound (world s.place.machine.world) → IfSome script_is (λ script. (taken : List ℕ) × (sent : List ℕ) × Consumes script_is (g.S.Source.left c.pump-status.new.input) taken
    × Appends (g.K.Sink.taken c.args.out.now) (g.K.Sink.taken c.pump-status.new.out) sent
    × EndsAs (outcome_to_come (state_of (λ r. world r.world) s) script) (pending_lines (state_of (λ r. world r.world) s) taken) sent (world last) result
    × (AreUp (disks s.place.machine.world) → LeavesMoment (moments_to_come (state_of (λ r. world r.world) s) script) sent (LeavesTree tree_left.told tree_left.leaves) (LeavesLog log_left.told log_left.leaves)))) c.new.ensures c.pump-status.ensures.output))))
