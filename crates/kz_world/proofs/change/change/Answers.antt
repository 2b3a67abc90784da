use Rattle.std.proofs.Common.{◌≡◌, ℤ, List, Option, Some, None, Result, Ok, Err, false, rules, ◌∙◌, sym, ap, subst, w32, w64, to_z, of_z}
use Rattle.std.specs.Prelude.{IfOk, IfErr}
use Rattle.std.proofs.lemmas.Int.{to_z-of_z}
use mir.Val.{SFits}
use Rattle.kz_types.specs.declared.machine.Answer.{Answer}
use Rattle.kz_types.specs.declared.machine.Event.TheVariants as event
use Rattle.kz_types.specs.declared.record.MetaRecord.{MetaRecord}
use Rattle.kz_spec_data.specs.Image.{Image, all_applied}
use Rattle.kz_spec_data.specs.Log.{Log, image_of}
use Rattle.kz_spec_machine.specs.Failures.{is_failure}
use Rattle.kz_spec_machine.specs.Machine.{World, leader_refusal, next, event_pairs}
use Rattle.kz_world_parts.specs.declared.faults.EventFault.TheVariants as event_fault
use Rattle.kz_world_parts.specs.EventDisks.{disks_in}
use Rattle.kz_world_parts.specs.Refusals.{records_refusal}
use Rattle.kz_world_parts.specs.EventStops.{append_pairs}
use Rattle.kz_world_parts.specs.Worlds.{world_of_parts, world_of, world_after_append}
use Rattle.kz_world_parts.proofs.Outcomes.{told_by, change_refused, change_appends, change_pairs}
use Rattle.kz_world_parts.proofs.EventStops.{read_failure, still_failure, later_leaves}
use Rattle.kz_world_parts.proofs.Views.{read_keeps}
use Rattle.kz_world.proofs.change.change.Goals as goal

-- what is asked of the records, with the epoch and the metadata that are told
asked : (l : Log) (records : List MetaRecord) (epoch : ℤ) (image : Image) (r : Option Answer) → epoch ≡ l.epoch → image ≡ image_of l → records_refusal epoch image records ≡ r
    → records_refusal l.epoch (image_of l) records ≡ r
asked l records epoch image r epoch_is image_is is =
    ap (λ e. records_refusal e (image_of l) records) (sym epoch_is) ∙ ap (λ i. records_refusal epoch i records) (sym image_is) ∙ is

-- nothing refuses the records, and this is the metadata with them
abbrev IsAccepted : ℤ → Image → List MetaRecord → Image → Type 0
IsAccepted epoch image records made = (records_refusal epoch image records ≡ None) × (made ≡ all_applied epoch records image)

pub returns-in-Ok-Ok-clause-ok : goal.returns-in-Ok-Ok-clause-ok
returns-in-Ok-Ok-clause-ok g c =
    let w = world_of g.T.ZTree.tree g.L.MetaLog.log c.args.parts.now in
    let l = w.shared.log in
    let id = c.args.id in
    let records = c.args.records.now in
    let now = to_z w64 (of_z w64 c.args.now) in
    let fits : SFits w32 c.epoch.result = search rules in
    let epoch_is = to_z-of_z w32 c.epoch.result fits ∙ c.epoch.ensures ∙ ap (λ x. (g.L.MetaLog.log x).epoch) c.inner.ensures ∙ ap (λ (m : Log). m.epoch) c.read.ensures.same in
    let leads = ap (leader_refusal w) (sym (to_z-of_z w32 id c.ranges.id)) ∙ sym c.leader_refusal.ensures.refusal ∙ c.in_default.is in
    let may = subst (λ (x : Result Image Answer). IfOk x (IsAccepted (to_z w32 (of_z w32 c.epoch.result)) c.read.new.parts.view.image records)) c.in-Ok-Ok.field-0-is c.in-Ok-Ok.ensures.accepted in
    let taken = asked l records _ _ _ epoch_is c.in-Ok.ensures.image may.0 in
    told_by c.append_judged.result (next w (event.Change id records c.args.now)) (world_after_append (world_of g.T.ZTree.tree g.L.MetaLog.log c.read.new.parts) records now) (world_of g.T.ZTree.tree g.L.MetaLog.log c.append_judged.new.parts)
    (ap (λ n. next w (event.Change id records n)) (sym (to_z-of_z w64 c.args.now c.ranges.now)) ∙ change_appends w id now records leads taken ∙ ap (λ (x : World). world_after_append x records now) (sym c.read.ensures.world)) c.append_judged.ensures.ok

pub returns-in-Ok-Err-clause-ok : goal.returns-in-Ok-Err-clause-ok
returns-in-Ok-Err-clause-ok g c =
    let w = world_of g.T.ZTree.tree g.L.MetaLog.log c.args.parts.now in
    let l = w.shared.log in
    let id = c.args.id in
    let records = c.args.records.now in
    let refusal = c.in-Ok-Err.refusal in
    let fits : SFits w32 c.epoch.result = search rules in
    let epoch_is = to_z-of_z w32 c.epoch.result fits ∙ c.epoch.ensures ∙ ap (λ x. (g.L.MetaLog.log x).epoch) c.inner.ensures ∙ ap (λ (m : Log). m.epoch) c.read.ensures.same in
    let leads = ap (leader_refusal w) (sym (to_z-of_z w32 id c.ranges.id)) ∙ sym c.leader_refusal.ensures.refusal ∙ c.in_default.is in
    let why = subst (λ (x : Result Image Answer). IfErr x (λ a. records_refusal (to_z w32 (of_z w32 c.epoch.result)) c.read.new.parts.view.image records ≡ Some a)) c.in-Ok-Err.field-0-is c.in-Ok-Err.ensures.refusal in
    let refused = asked l records _ _ _ epoch_is c.in-Ok.ensures.image why in (
      change_refused w id c.args.now records refusal leads refused ∙ ap (λ (x : World). (x, refusal)) (sym c.read.ensures.world),
      subst (λ (x : Result Image Answer). IfErr x (λ a. is_failure a ≡ false)) c.in-Ok-Err.field-0-is c.in-Ok-Err.ensures.no_failure,
    )

pub returns-in-Err-clause-stop : goal.returns-in-Err-clause-stop
returns-in-Err-clause-stop g c =
    let p = c.args.parts.now in
    let q = c.read.new.parts in
    let world = world_of g.T.ZTree.tree g.L.MetaLog.log in
    let disks = disks_in g.T.ZTree.disk g.L.MetaLog.disk in
    read_failure (world p) (world q) (event_pairs (world p) (event.Change c.args.id c.args.records.now c.args.now)) (Err c.in-Err.fault) (disks (world_of_parts p)) (disks (world_of_parts q)) (g.T.ZTree.left q.tree.inner) (g.L.MetaLog.left q.log.inner) tt c.read.ensures.world c.in-Err.ensures.disks
    (record { tree = g.met.T.ZTree.settled q.tree.inner; log = g.met.L.MetaLog.settled q.log.inner })

pub returns-in-Err-records_refusal-clause-stop : goal.returns-in-Err-records_refusal-clause-stop
returns-in-Err-records_refusal-clause-stop g c =
    let p = c.args.parts.now in
    let q = c.read.new.parts in
    let world = world_of g.T.ZTree.tree g.L.MetaLog.log in
    let disks = disks_in g.T.ZTree.disk g.L.MetaLog.disk in
    let same = read_keeps (disks (world_of_parts p)) (disks (world_of_parts q)) c.in-Ok.ensures.disks.0.1 c.in-Ok.ensures.disks.1 in
    still_failure (world p) (world q) (event_pairs (world p) (event.Change c.args.id c.args.records.now c.args.now)) (Err event_fault.NoMemory) (disks (world_of_parts p)) (disks (world_of_parts q)) (g.T.ZTree.left q.tree.inner) (g.L.MetaLog.left q.log.inner) c.read.ensures.world same
    (record { tree = g.met.T.ZTree.settled q.tree.inner; log = g.met.L.MetaLog.settled q.log.inner })

pub returns-in-Ok-Ok-clause-stop : goal.returns-in-Ok-Ok-clause-stop
returns-in-Ok-Ok-clause-stop g c =
    let world = world_of g.T.ZTree.tree g.L.MetaLog.log in
    let disks = disks_in g.T.ZTree.disk g.L.MetaLog.disk in
    let p = c.args.parts.now in
    let q = c.read.new.parts in
    let later = c.append_judged.new.parts in
    let w = world p in
    let id = c.args.id in
    let records = c.args.records.now in
    let n = to_z w64 (of_z w64 c.args.now) in
    let fits : SFits w32 c.epoch.result = search rules in
    let epoch_is = to_z-of_z w32 c.epoch.result fits ∙ c.epoch.ensures ∙ ap (λ x. (g.L.MetaLog.log x).epoch) c.inner.ensures ∙ ap (λ (m : Log). m.epoch) c.read.ensures.same in
    let leads = ap (leader_refusal w) (sym (to_z-of_z w32 id c.ranges.id)) ∙ sym c.leader_refusal.ensures.refusal ∙ c.in_default.is in
    let may = subst (λ (x : Result Image Answer). IfOk x (IsAccepted (to_z w32 (of_z w32 c.epoch.result)) q.view.image records)) c.in-Ok-Ok.field-0-is c.in-Ok-Ok.ensures.accepted in
    let taken = asked w.shared.log records _ _ _ epoch_is c.in-Ok.ensures.image may.0 in
    let same = read_keeps (disks (world_of_parts p)) (disks (world_of_parts q)) c.in-Ok.ensures.disks.0.1 c.in-Ok.ensures.disks.1 in
    let pairs = ap (λ (x : World). append_pairs x records n) c.read.ensures.world ∙ ap (append_pairs w records) (to_z-of_z w64 c.args.now c.ranges.now) ∙ change_pairs w id c.args.now records leads taken in
    later_leaves w (world q) (append_pairs (world q) records n) (event_pairs w (event.Change id records c.args.now)) c.append_judged.result (disks (world_of_parts p)) (disks (world_of_parts q)) (g.T.ZTree.left later.tree.inner) (g.L.MetaLog.left later.log.inner) c.read.ensures.world same pairs c.append_judged.ensures.stop
