use Rattle.std.proofs.Common.{◌∙◌, ap, sym, subst, w32, arith}
use Rattle.std.proofs.lemmas.Int.{to_z-of_z}
use Rattle.kz_spec_data.specs.Log.{IsLog, record_count}
use Rattle.kz_log.proofs.Batches.{record_count-push}
use Rattle.kz_log.proofs.Pushing.{popped_is}
use Rattle.kz_log.proofs.rows.LogRows.pop.Goals as goal

pub invariant_of-self : goal.invariant_of-self
invariant_of-self c =
    let epoch = to_z-of_z w32 c.args.epoch c.ranges.epoch in
    let was = c.requires in
    let rest = c.in-Some.ensures.items in
    let made = popped_is was.before _ was.batch c.in-Some.row _ c.pop.new.self.items (was.epoch_is ∙ sym epoch) (c.self.view_is ∙ was.is) rest in
    let count = c.self.invariant.1 in
    let fewer = ap record_count rest ∙ record_count-push c.pop.new.self.items c.in-Some.row in
    let len = c.len.ensures in
    (subst IsLog (sym made) was.log, omega (arith, count, fewer, len))
