use Rattle.std.proofs.Common.{sym, ◌∙◌, ap, arith, w64, to_z, map, ◌≤ℤ◌}
use Rattle.std.proofs.lemmas.Int.{ints, to_z-of_z}
use Rattle.kz_spec_data.specs.Log.{image_at}
use Rattle.kz_spec_data.specs.Rendering.{render}
use Rattle.kz_verdict.specs.Agreement.{marked_by, marked_here}
use Rattle.kz_verdict.proofs.Agreements.{end_here, end_later}
use Rattle.kz_verdict.proofs.comparison.mark_end.Goals as goal

pub returns : goal.returns
returns c = λ ends paths before.
    let end_is = to_z-of_z w64 c.args.end c.ranges.end in
    let late : c.args.offset ≤ℤ c.args.end = omega (arith, ints, c.if-end-offset.false) in
    c.mark_each.ensures ∙ ap (λ e. map (marked_by e c.args.area.now c.deref.result.now) c.args.found.now.items) end_is
    ∙ end_later c.args.area.now c.deref.result.now c.args.log.now c.args.offset c.args.end ends paths c.args.found.now.items late
    (c.deref.ensures.value ∙ c.in_ok-rendering.ensures.znodes ∙ ap (λ e. render (image_at c.args.log.now e)) end_is) before

pub returns-then-end-offset-2 : goal.returns-then-end-offset-2
returns-then-end-offset-2 c = λ ends paths before.
    let end_is = to_z-of_z w64 c.args.end c.ranges.end in
    let is = sym end_is ∙ ap (to_z w64) c.if-end-offset-2.true ∙ to_z-of_z w64 c.args.offset c.ranges.offset in
    c.mark_each_here.ensures ∙ ap (λ e. map (marked_here e) c.args.found.now.items) end_is
    ∙ end_here c.args.area.now c.args.log.now c.args.offset c.args.end ends paths c.args.found.now.items is before
