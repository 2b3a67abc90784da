use Rattle.std.proofs.Common.{◌∙◌, ap, w32, rules}
use Rattle.std.proofs.lemmas.Int.{to_z-of_z}
use mir.Val.{SFits}
use Rattle.kz_spec_machine.specs.Driver.{less_of}
use Rattle.kz_world_parts.proofs.Listings.{least_more}
use Rattle.kz_world_parts.proofs.drivers.least_running.Goals as goal

pub loop-done-preserved : goal.loop-done-preserved
loop-done-preserved c =
    let fits : SFits w32 c.id.result = search rules in
    c.less_of-least.ensures ∙ ap (λ i. less_of i c.loop-done.least) (to_z-of_z w32 c.id.result fits ∙ c.id.ensures)
    ∙ least_more c.args.drivers.now c.loop-done.done c.index-drivers-count.result c.loop-done.least c.loop-done-test.true c.index-drivers-count.is c.loop-done.invariant
