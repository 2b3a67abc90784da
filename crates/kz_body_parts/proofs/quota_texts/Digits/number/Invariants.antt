use Rattle.std.proofs.Common.{◌≡◌, min, take}
use Rattle.kz_types.specs.Numbers.{number_of}
use Rattle.kz_body_parts.proofs.quota_texts.Digits.number.Given as goal

abbrev pub invariant-loop-at : goal.invariant-loop-at
invariant-loop-at l = l.number ≡ min (number_of (take l.at l.self-inside.text.now)) 100000000000000000000
