use Rattle.std.proofs.Common.{◌<◌, length, ◌∙◌, sym, ap, arith, w32, to_z, of_z}
use Rattle.std.specs.Prelude.{slice_get}
use Rattle.std.proofs.lemmas.Int.{to_z-of_z}
use Rattle.kz_types.specs.declared.machine.Answer.TheVariants as answer
use Rattle.kz_types.specs.declared.machine.DriverState.{DriverState}
use Rattle.kz_spec_machine.specs.Machine.{driver_of, dual_write_refusal, is_dual_write, unless}
use Rattle.kz_world_parts.proofs.Listings.{get_here}
use Rattle.kz_world.proofs.finalisation.dual_write_refusal.Goals as goal

pub returns-in-Some-clause-refusal : goal.returns-in-Some-clause-refusal
returns-in-Some-clause-refusal g c =
    let ds = c.args.parts.now.drivers.items in
    let d = c.index.result.now in
    let at = c.in-Some.at in
    let len = ap length c.deref.ensures.value in
    let here : at < length ds = omega (arith, c.in-Some.ensures.0, len) in
    let found = ap (λ i. driver_of i ds) (sym (to_z-of_z w32 c.args.id c.ranges.id)) ∙ ap (driver_of (to_z w32 (of_z w32 c.args.id))) (sym c.deref.ensures.value) ∙ c.in-Some.ensures.1
    ∙ ap (λ xs. slice_get xs at) c.deref.ensures.value ∙ get_here ds at d here c.index.ensures in
    c.state_refusal.ensures.refusal ∙ ap (λ (s : DriverState). unless (is_dual_write s) (answer.NotDualWrite s)) c.state.ensures ∙ ap dual_write_refusal (sym found)
