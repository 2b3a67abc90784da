use Rattle.std.proofs.Common.{arith}
use Rattle.std.proofs.lemmas.Result.{IfOk-weaker}
use Rattle.kz_log_frames.specs.Payloads.{IsValueOf}
use Rattle.kz_log_frames.proofs.FewBytes.{lengths_fit}
use Rattle.kz_log_frames.proofs.Payloads.{value_written}
use Rattle.kz_log_frames.proofs.payload.short_value.Goals as goal

pub held_record_is_spelled-requires : goal.held_record_is_spelled-requires
held_record_is_spelled-requires c = let few = c.requires in lengths_fit c.args.item.now (omega (arith, few))

pub write_value-requires : goal.write_value-requires
write_value-requires c = let few = c.requires in lengths_fit c.args.item.now (omega (arith, few))

pub returns : goal.returns
returns c =
    IfOk-weaker c.write_value.result _ (λ value. IsValueOf c.args.item.now value.items)
    (λ made h. value_written c.args.item.now made.items h c.held_record_is_spelled.ensures.accepted)
    c.write_value.ensures
