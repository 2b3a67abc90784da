use Rattle.std.proofs.lemmas.Result.{IfOk-weaker}
use Rattle.kz_log_frames.specs.Payloads.{IsValueOf}
use Rattle.kz_log_frames.proofs.Payloads.{value_of_zeros}
use Rattle.kz_log_frames.proofs.payload.long_value.Goals as goal

pub returns : goal.returns
returns c =
    IfOk-weaker c.zeros.result _ (λ value. IsValueOf c.args.item.now value.items)
    (λ made h. value_of_zeros c.args.item.now made.items c.args.size c.requires.size h c.requires.many)
    c.zeros.ensures
