use Rattle.std.proofs.Common.{◌-◌, Bool, cond, pos, w32, length, get_or, rules, ap, ◌∙◌}
use Rattle.std.proofs.lemmas.Int.{to_z-of_z}
use mir.Val.{SFits}
use Rattle.kz_spec_machine.specs.Driver.{is_migrating, less_of}
use Rattle.kz_ready.proofs.Leasts.{least_more}
use Rattle.kz_ready.proofs.missing.missing_broker.Goals as goal

pub loop-done-preserved : goal.loop-done-preserved
loop-done-preserved c =
    let xs = c.args.ids.now in
    let before = c.loop-done.least in
    let x = get_or xs (length xs - 1 - c.loop-done.done) (pos 0) in
    let fits : SFits w32 x = search rules in
    c.least_with-least.ensures ∙ ap (λ (b : Bool). cond b before (less_of x before)) (c.is_migrating.ensures ∙ ap (is_migrating c.args.image.now) (to_z-of_z w32 x fits))
    ∙ least_more (is_migrating c.args.image.now) xs c.loop-done.done before c.loop-done-test.true c.loop-done.invariant
