use Rattle.std.proofs.Common.{◌≡◌, sym, ap, subst, ◌∙◌, false, List, w32}
use Rattle.std.proofs.lemmas.Int.{to_z-of_z}
use Rattle.kz_spec_data.specs.Log.{IsViewOf}
use Rattle.kz_spec_machine.specs.Driver.{Driver, new_driver}
use Rattle.kz_spec_machine.specs.Machine.{is_running, start_refusal}
use Rattle.kz_world_parts.specs.Worlds.{world_of, IsKept}
use Rattle.kz_log.proofs.Views.{new_is_view}
use Rattle.kz_world_parts.proofs.Outcomes.{starts}
use Rattle.kz_world_parts.proofs.Views.{kept_started}
use Rattle.kz_world_parts.proofs.members.start.Goals as goal

pub returns-in_ok-push-in-None-clause-kept : goal.returns-in_ok-push-in-None-clause-kept
returns-in_ok-push-in-None-clause-kept g c =
    let p = c.args.parts.now in
    let l = g.L.MetaLog.log p.log.inner in
    let w = world_of g.T.ZTree.tree g.L.MetaLog.log p in
    let ds = p.drivers.items in
    let id_is = to_z-of_z w32 c.args.id c.ranges.id in
    let none = starts w c.args.id (ap (start_refusal w) (sym id_is) ∙ sym c.start_refusal.ensures.refusal ∙ c.in-None.is) in
    let new_is = c.new.ensures ∙ ap new_driver id_is in
    let free : is_running c.new.result.id ds ≡ false = ap (λ (d : Driver). is_running d.id ds) new_is ∙ none in
    let view : IsViewOf l c.new.result.view = subst (λ (d : Driver). IsViewOf l d.view) (sym new_is) (new_is_view l (g.met.L.MetaLog.is_log p.log.inner)) in
    subst (λ (xs : List Driver). IsKept p.tree.plan p.log.plan l p.view xs) (sym c.in_ok-push-in-None.ensures.items) (kept_started p.tree.plan p.log.plan l p.view ds c.new.result c.requires view free)
