use mir.Val.{SFits}
use Rattle.std.proofs.Common.{rules, ◌≡◌, sym, subst, w64, to_z, of_z}
use Rattle.std.proofs.lemmas.Int.{to_z-of_z}
use Rattle.kz_types.specs.declared.machine.Reply.{Reply}
use Rattle.kz_stages.specs.Disks.{payloads_of}
use Rattle.kz_stages.specs.Rows.{driver_of}
use Rattle.kz_driver.specs.Steps.{shared_over, plan_over, made_request, StepEnd}
use Rattle.kz_driver.proofs.Ends.{answered_end, fault_end, views_go_on, at_same_time}
use Rattle.kz_driver.proofs.drive.make_step.Goals as goal

pub returns-in-Ok-clause-end : goal.returns-in-Ok-clause-end
returns-in-Ok-clause-end g c =
    let given = to_z w64 (of_z w64 c.args.now) in
    let fits : SFits w64 c.args.now = search rules in
    let same : given ≡ c.args.now = to_z-of_z w64 c.args.now fits in
    let trees = g.T.ZTree in
    let logs = g.L.MetaLog in
    let tree = c.args.tree.now in
    let log = c.args.log.now in
    let ids = c.args.peers.now.declared in
    let running = c.args.peers.now.running in
    let d = driver_of c.args.row.now in
    let made = c.step_row-outcome in
    let e = driver_of made.new.row in
    let payloads = payloads_of trees.payload_bytes logs.payload_bytes in
    at_same_time given c.args.now same trees.tree logs.log trees.disk logs.disk trees.left logs.left payloads ids running _ _ _ tree _ log _
    (answered_end trees.tree logs.log trees.disk logs.disk trees.left logs.left payloads ids running given d e made.result c.in-Ok.reply _ tree made.new.tree c.plan.new.self log made.new.log c.plan-2.new.self c.plan.ensures c.plan-2.ensures made.ensures.facts c.in-Ok.is made.ensures.views)

pub returns-in-Err-clause-end : goal.returns-in-Err-clause-end
returns-in-Err-clause-end g c =
    let given = to_z w64 (of_z w64 c.args.now) in
    let fits : SFits w64 c.args.now = search rules in
    let same : given ≡ c.args.now = to_z-of_z w64 c.args.now fits in
    let trees = g.T.ZTree in
    let logs = g.L.MetaLog in
    let tree = c.args.tree.now in
    let log = c.args.log.now in
    let ids = c.args.peers.now.declared in
    let running = c.args.peers.now.running in
    let d = driver_of c.args.row.now in
    let made = c.step_row-outcome in
    let e = driver_of made.new.row in
    let payloads = payloads_of trees.payload_bytes logs.payload_bytes in
    let went_on = c.after_fault in
    let after = driver_of went_on.new.row in
    let views = views_go_on (logs.log log.inner) (logs.log made.new.log.inner) d.id e after made.ensures.views went_on.ensures.id went_on.ensures.view in
    let new_tree = c.plan.new.self in
    let new_log = c.plan-2.new.self in
    subst (λ (told : Reply). StepEnd trees.tree logs.log trees.disk logs.disk trees.left logs.left payloads ids running c.args.now d after told (plan_over tree log (made_request (shared_over trees.tree logs.log ids tree log) c.args.now d d.stage)) tree new_tree log new_log)
    (sym went_on.ensures.told)
    (at_same_time given c.args.now same trees.tree logs.log trees.disk logs.disk trees.left logs.left payloads ids running _ _ _ tree _ log _
    (fault_end trees.tree logs.log trees.disk logs.disk trees.left logs.left payloads ids running given d e after made.result c.in-Err.fault _ tree made.new.tree new_tree log made.new.log new_log c.plan.ensures c.plan-2.ensures made.ensures.facts c.in-Err.is went_on.ensures.driver views))
