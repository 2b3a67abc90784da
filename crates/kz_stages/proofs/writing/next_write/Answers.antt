use Rattle.std.proofs.Common.{◌∙◌, true, false, refl, to_z-of_z}
use Rattle.std.proofs.lemmas.Result.{IfOk-weaker}
use Rattle.kz_stages.proofs.Writings.{written_ops}
use Rattle.kz_stages.proofs.writing.next_write.Goals as goal

pub returns-then-is_last : goal.returns-then-is_last
returns-then-is_last c =
    let r = c.args.remaining.now in
    IfOk-weaker c.write_ops.result _ _ (λ made is. is ∙ written_ops c.args.claim r _ c.next.result.now true c.target-target.result (to_z-of_z c.ranges.claim) c.next.ensures c.if-is_last.ensures c.target-target.ensures) c.write_ops.ensures

pub returns-else-is_last : goal.returns-else-is_last
returns-else-is_last c =
    let r = c.args.remaining.now in
    IfOk-weaker c.write_ops-else-is_last.result _ _ (λ made is. is ∙ written_ops c.args.claim r _ c.next-else-is_last.result.now false r.target (to_z-of_z c.ranges.claim) c.next-else-is_last.ensures c.if-is_last.ensures refl) c.write_ops-else-is_last.ensures
