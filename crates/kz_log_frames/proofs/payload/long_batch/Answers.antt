use Rattle.std.proofs.Common.{◌∙◌, ap, length, map, arith}
use Rattle.std.proofs.lemmas.Result.{IfOk-weaker}
use Rattle.kz_log_frames.specs.Payloads.{IsPayloadOf}
use Rattle.kz_log_frames.proofs.Payloads.{zeros_for}
use Rattle.kz_log_frames.proofs.payload.long_batch.Goals as goal

pub returns : goal.returns
returns c =
    let b = c.args.row.now in
    let count = ap length c.deref.ensures.value ∙ c.in_ok-many.ensures in
    let many = c.requires.many in
    IfOk-weaker c.with_kind.result _ (λ payload. IsPayloadOf b payload.items)
    (λ made h. zeros_for b (map (λ v. v.items) c.args.values.now) made.items c.deref.result.now c.requires.values h (count ∙ c.requires.size b.first b.epoch b.time) (omega (arith, count, many)))
    c.with_kind.ensures
