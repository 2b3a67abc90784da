use Rattle.std.proofs.Common.{◌≡◌, ℤ, Option, Err, false, ◌∙◌, sym, ap, subst, w32, w64, to_z, of_z}
use Rattle.std.specs.Prelude.{IfSome}
use Rattle.std.proofs.lemmas.Int.{to_z-of_z}
use Rattle.kz_types.specs.declared.machine.Answer.{Answer}
use Rattle.kz_types.specs.declared.machine.Event.TheVariants as event
use Rattle.kz_spec_machine.specs.Failures.{is_failure}
use Rattle.kz_spec_machine.specs.Machine.{World, leader_refusal, final_records, next, event_pairs}
use Rattle.kz_world_parts.specs.declared.faults.EventFault.TheVariants as event_fault
use Rattle.kz_world_parts.specs.EventDisks.{disks_in}
use Rattle.kz_world_parts.specs.Refusals.{end_refusal}
use Rattle.kz_world_parts.specs.EventStops.{append_pairs}
use Rattle.kz_world_parts.specs.Worlds.{world_of_parts, world_of, world_after_append}
use Rattle.kz_world_parts.proofs.Outcomes.{told_by, unless_none, finalise_refused, finalise_appends, finalise_pairs}
use Rattle.kz_world_parts.proofs.EventStops.{read_failure, still_failure, later_leaves}
use Rattle.kz_world_parts.proofs.Views.{read_keeps}
use Rattle.kz_world.proofs.Unread.{either, unread}
use Rattle.kz_world.proofs.finalisation.finalise.Goals as goal

-- what is asked of the world after the log was read
asked : (w later : World) (id own : ℤ) (told r : Option Answer) → later ≡ w → id ≡ own → told ≡ end_refusal later id → told ≡ r → end_refusal w own ≡ r
asked w later id own told r same id_is is told_is =
    ap (end_refusal w) (sym id_is) ∙ ap (λ (x : World). end_refusal x id) (sym same) ∙ sym is ∙ told_is

pub returns-in-Ok-None-clause-ok : goal.returns-in-Ok-None-clause-ok
returns-in-Ok-None-clause-ok g c =
    let w = world_of g.T.ZTree.tree g.L.MetaLog.log c.args.parts.now in
    let mid = world_of g.T.ZTree.tree g.L.MetaLog.log c.read.new.parts in
    let id = c.args.id in
    let now = to_z w64 (of_z w64 c.args.now) in
    let id_is = to_z-of_z w32 id c.ranges.id in
    let leads = ap (leader_refusal w) (sym id_is) ∙ sym c.leader_refusal.ensures.refusal ∙ c.in_default.is in
    let taken = asked w mid _ id _ _ c.read.ensures.world id_is c.in-Ok-None.ensures.refusal c.in-Ok-None.field-0-is in
    told_by c.append.result (next w (event.Finalise id c.args.now)) (world_after_append mid final_records now) (world_of g.T.ZTree.tree g.L.MetaLog.log c.append.new.parts)
    (ap (λ n. next w (event.Finalise id n)) (sym (to_z-of_z w64 c.args.now c.ranges.now)) ∙ finalise_appends w id now leads taken ∙ ap (λ (x : World). world_after_append x final_records now) (sym c.read.ensures.world)) c.append.ensures.ok

pub returns-in-Ok-Some-clause-ok : goal.returns-in-Ok-Some-clause-ok
returns-in-Ok-Some-clause-ok g c =
    let w = world_of g.T.ZTree.tree g.L.MetaLog.log c.args.parts.now in
    let mid = world_of g.T.ZTree.tree g.L.MetaLog.log c.read.new.parts in
    let id = c.args.id in
    let refusal = c.in-Ok-Some.refusal in
    let id_is = to_z-of_z w32 id c.ranges.id in
    let leads = ap (leader_refusal w) (sym id_is) ∙ sym c.leader_refusal.ensures.refusal ∙ c.in_default.is in
    let refused = asked w mid _ id _ _ c.read.ensures.world id_is c.in-Ok-Some.ensures.refusal c.in-Ok-Some.field-0-is in (
      finalise_refused w id c.args.now refusal leads refused ∙ ap (λ (x : World). (x, refusal)) (sym c.read.ensures.world),
      subst (λ (o : Option Answer). IfSome o (λ a. is_failure a ≡ false)) c.in-Ok-Some.field-0-is c.in-Ok-Some.ensures.no_failure,
    )

pub returns-in-Err-clause-disks : goal.returns-in-Err-clause-disks
returns-in-Err-clause-disks g c =
    let p = c.args.parts.now in
    let w = world_of g.T.ZTree.tree g.L.MetaLog.log p in
    let leads = ap (leader_refusal w) (sym (to_z-of_z w32 c.args.id c.ranges.id)) ∙ sym c.leader_refusal.ensures.refusal ∙ c.in_default.is in
    let reads = c.in-Err.ensures.disks in
    unless_none (leader_refusal w c.args.id) _ _ leads
    (either (end_refusal w c.args.id) _ _ (unread _ _ c.in-Err.fault (g.L.MetaLog.disk p.log.inner) (g.L.MetaLog.disk c.read.new.parts.log.inner) reads.0, reads.1) reads)

pub returns-in-Err-end_refusal-clause-disks : goal.returns-in-Err-end_refusal-clause-disks
returns-in-Err-end_refusal-clause-disks g c =
    let w = world_of g.T.ZTree.tree g.L.MetaLog.log c.args.parts.now in
    let leads = ap (leader_refusal w) (sym (to_z-of_z w32 c.args.id c.ranges.id)) ∙ sym c.leader_refusal.ensures.refusal ∙ c.in_default.is in
    let reads = c.in-Ok.ensures.disks in
    unless_none (leader_refusal w c.args.id) _ _ leads (either (end_refusal w c.args.id) _ _ (reads.0.1, reads.1) (reads.0.1, reads.1))

pub returns-in-Err-clause-stop : goal.returns-in-Err-clause-stop
returns-in-Err-clause-stop g c =
    let p = c.args.parts.now in
    let q = c.read.new.parts in
    let world = world_of g.T.ZTree.tree g.L.MetaLog.log in
    let disks = disks_in g.T.ZTree.disk g.L.MetaLog.disk in
    read_failure (world p) (world q) (event_pairs (world p) (event.Finalise c.args.id c.args.now)) (Err c.in-Err.fault) (disks (world_of_parts p)) (disks (world_of_parts q)) (g.T.ZTree.left q.tree.inner) (g.L.MetaLog.left q.log.inner) tt c.read.ensures.world c.in-Err.ensures.disks
    (record { tree = g.met.T.ZTree.settled q.tree.inner; log = g.met.L.MetaLog.settled q.log.inner })

pub returns-in-Err-end_refusal-clause-stop : goal.returns-in-Err-end_refusal-clause-stop
returns-in-Err-end_refusal-clause-stop g c =
    let p = c.args.parts.now in
    let q = c.read.new.parts in
    let world = world_of g.T.ZTree.tree g.L.MetaLog.log in
    let disks = disks_in g.T.ZTree.disk g.L.MetaLog.disk in
    let same = read_keeps (disks (world_of_parts p)) (disks (world_of_parts q)) c.in-Ok.ensures.disks.0.1 c.in-Ok.ensures.disks.1 in
    still_failure (world p) (world q) (event_pairs (world p) (event.Finalise c.args.id c.args.now)) (Err event_fault.NoMemory) (disks (world_of_parts p)) (disks (world_of_parts q)) (g.T.ZTree.left q.tree.inner) (g.L.MetaLog.left q.log.inner) c.read.ensures.world same
    (record { tree = g.met.T.ZTree.settled q.tree.inner; log = g.met.L.MetaLog.settled q.log.inner })

pub returns-in-Ok-None-clause-stop : goal.returns-in-Ok-None-clause-stop
returns-in-Ok-None-clause-stop g c =
    let world = world_of g.T.ZTree.tree g.L.MetaLog.log in
    let disks = disks_in g.T.ZTree.disk g.L.MetaLog.disk in
    let p = c.args.parts.now in
    let q = c.read.new.parts in
    let later = c.append.new.parts in
    let w = world p in
    let id = c.args.id in
    let n = to_z w64 (of_z w64 c.args.now) in
    let id_is = to_z-of_z w32 id c.ranges.id in
    let leads = ap (leader_refusal w) (sym id_is) ∙ sym c.leader_refusal.ensures.refusal ∙ c.in_default.is in
    let taken = asked w (world q) _ id _ _ c.read.ensures.world id_is c.in-Ok-None.ensures.refusal c.in-Ok-None.field-0-is in
    let same = read_keeps (disks (world_of_parts p)) (disks (world_of_parts q)) c.in-Ok.ensures.disks.0.1 c.in-Ok.ensures.disks.1 in
    let pairs = ap (λ (x : World). append_pairs x final_records n) c.read.ensures.world ∙ ap (append_pairs w final_records) (to_z-of_z w64 c.args.now c.ranges.now) ∙ finalise_pairs w id c.args.now leads taken in
    later_leaves w (world q) (append_pairs (world q) final_records n) (event_pairs w (event.Finalise id c.args.now)) c.append.result (disks (world_of_parts p)) (disks (world_of_parts q)) (g.T.ZTree.left later.tree.inner) (g.L.MetaLog.left later.log.inner) c.read.ensures.world same pairs c.append.ensures.stop
