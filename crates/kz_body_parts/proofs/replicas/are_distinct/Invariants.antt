use Rattle.std.proofs.Common.{◌≡◌, drop}
use Rattle.kz_types.specs.Numbers.{are_distinct}
use Rattle.kz_body_parts.proofs.replicas.are_distinct.Given as goal

abbrev pub invariant-loop-at : goal.invariant-loop-at
invariant-loop-at l = are_distinct l.ids ≡ are_distinct (drop l.at l.ids)
