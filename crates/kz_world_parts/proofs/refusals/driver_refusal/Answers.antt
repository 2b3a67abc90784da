use Rattle.std.proofs.Common.{rules, ◌<◌, length, ◌∙◌, sym, ap, arith, w32, to_z, of_z}
use Rattle.std.specs.Prelude.{slice_get}
use Rattle.std.proofs.lemmas.Int.{to_z-of_z}
use mir.Val.{SFits}
use Rattle.kz_spec_machine.specs.Machine.{epoch_refusal, driver_refusal, driver_of}
use Rattle.kz_world_parts.proofs.Listings.{get_here}
use Rattle.kz_world_parts.proofs.refusals.driver_refusal.Goals as goal

pub returns-in-Some-clause-refusal : goal.returns-in-Some-clause-refusal
returns-in-Some-clause-refusal g c =
    let ds = c.args.parts.now.drivers.items in
    let l = g.L.MetaLog.log c.args.parts.now.log.inner in
    let d = c.index.result.now in
    let at = c.in-Some.at in
    let fits : SFits w32 c.epoch.result = search rules in
    let len = ap length c.deref.ensures.value in
    let here : at < length ds = omega (arith, c.in-Some.ensures.0, len) in
    let found = ap (λ i. driver_of i ds) (sym (to_z-of_z w32 c.args.id c.ranges.id)) ∙ ap (driver_of (to_z w32 (of_z w32 c.args.id))) (sym c.deref.ensures.value) ∙ c.in-Some.ensures.1
    ∙ ap (λ xs. slice_get xs at) c.deref.ensures.value ∙ get_here ds at d here c.index.ensures in
    c.epoch_refusal.ensures.refusal ∙ ap (λ e. epoch_refusal e c.epoch-in-Some.result) (to_z-of_z w32 c.epoch.result fits ∙ c.epoch.ensures ∙ ap (λ x. (g.L.MetaLog.log x).epoch) c.inner.ensures)
    ∙ ap (epoch_refusal l.epoch) c.epoch-in-Some.ensures.epoch
    ∙ ap (driver_refusal l.epoch) (sym found)
