use Rattle.std.proofs.Common.{◌≡◌, ◌*◌, ◌^◌, ◌<◌}
use Rattle.kz_body_parts.proofs.quota_texts.raised.Given as goal

abbrev pub invariant-loop : goal.invariant-loop
invariant-loop l = record { value : l.raised ≡ l.number * 10 ^ l.counter; small : l.raised < 10 ^ 26 }
