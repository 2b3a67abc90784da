use Rattle.std.proofs.Common.{◌≡◌, ◌+◌, ◌*◌, ◌^◌, refl, arith}
use Rattle.kz_laws_values.proofs.QuotaScales.{grows, in_parts}
use Rattle.kz_body_parts.proofs.quota_texts.raised.Goals as goal

pub returns-then-raised-ge-MOST_MILLIONTHS : goal.returns-then-raised-ge-MOST_MILLIONTHS
returns-then-raised-ge-MOST_MILLIONTHS c = omega (arith, grows c.args.number c.loop.counter c.args.power (omega arith))

pub loop-preserved : goal.loop-preserved
loop-preserved c =
    let next : c.args.number * 10 ^ c.loop.counter * 10 ^ 1 ≡ c.args.number * 10 ^ (c.loop.counter + 1) = in_parts c.args.number c.loop.counter 1 (c.loop.counter + 1) refl in
    record {
      value = omega (arith, c.loop.invariant.value, next);
      small = omega arith;
    }
