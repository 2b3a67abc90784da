use Rattle.std.proofs.Common.{◌≡◌, Err, rules, ap, subst, ◌∙◌, w32, w64, to_z, of_z}
use Rattle.std.proofs.lemmas.Int.{to_z-of_z}
use mir.Val.{SFits}
use Rattle.kz_types.specs.declared.machine.Answer.{Answer}
use Rattle.kz_world_parts.specs.EventDisks.{disks_in}
use Rattle.kz_world_parts.specs.EventStops.{FailureLeaves, append_pairs}
use Rattle.kz_world_parts.specs.Worlds.{world_of, world_of_parts, IsAppended}
use Rattle.kz_world_parts.proofs.Appended.{taken_from, kept_with}
use Rattle.kz_world_parts.proofs.appending.append_judged.Goals as goal

pub returns-in-Ok-Appended-clause-kept : goal.returns-in-Ok-Appended-clause-kept
returns-in-Ok-Appended-clause-kept g c =
    let log = g.L.MetaLog.log in
    let p = c.args.parts.now in
    let q = c.append.new.parts in
    let l = log p.log.inner in
    let records = c.args.records.now in
    let now = to_z w64 (of_z w64 c.args.now) in
    let offset = c.in-Ok-Appended.offset in
    let epoch_fits : SFits w32 c.epoch-epoch.result = search rules in
    let end_fits : SFits w64 offset = search rules in
    let led = to_z-of_z w32 c.epoch-epoch.result epoch_fits ∙ c.epoch-epoch.ensures ∙ ap (λ s. (log s).epoch) c.inner.ensures in
    let has = subst (λ (a : Answer). IsAppended l records now (log q.log.inner) a) c.in-Ok-Appended.field-0-is c.in-Ok-Appended.ensures.appended in
    let end = to_z-of_z w64 offset end_fits ∙ has.1 in
    kept_with q.tree.plan q.log.plan (log q.log.inner) q.view c.take_appended.new.view q.drivers.items
    (taken_from l (log q.log.inner) p.view _ _ now records c.args.made (g.met.L.MetaLog.is_log p.log.inner) c.requires.kept.own c.requires.end c.requires.accepted c.requires.made has.0 end led
    q.view c.take_appended.new.view c.append.ensures.view c.take_appended.ensures.none c.take_appended.ensures.open)
    c.append.ensures.kept

pub returns-in-Err-clause-stop : goal.returns-in-Err-clause-stop
returns-in-Err-clause-stop g c =
    let p = c.args.parts.now in
    let q = c.append.new.parts in
    let w = world_of g.T.ZTree.tree g.L.MetaLog.log p in
    subst (λ n. FailureLeaves w (append_pairs w c.args.records.now n) (Err c.in-Err.fault) (disks_in g.T.ZTree.disk g.L.MetaLog.disk (world_of_parts p)) (g.T.ZTree.left q.tree.inner) (g.L.MetaLog.left q.log.inner))
    (to_z-of_z w64 c.args.now c.ranges.now) c.in-Err.ensures.stop
