use Rattle.std.proofs.Common.{◌-◌, Bool, cond, pos, length, get_or, ap, ◌∙◌}
use Rattle.kz_spec_machine.specs.Driver.{is_one_of, less_of}
use Rattle.kz_ready.proofs.Leasts.{least_more}
use Rattle.kz_ready.proofs.missing.missing_controller.Goals as goal

pub loop-done-preserved : goal.loop-done-preserved
loop-done-preserved c =
    let xs = c.args.declared.now in
    let before = c.loop-done.least in
    let x = get_or xs (length xs - 1 - c.loop-done.done) (pos 0) in
    c.least_with-least.ensures ∙ ap (λ (b : Bool). cond b before (less_of x before)) c.contains.ensures.value
    ∙ least_more (is_one_of c.args.running.now) xs c.loop-done.done before c.loop-done-test.true c.loop-done.invariant
