use Rattle.std.proofs.Common.{◌≤◌}
use Rattle.kz_types.proofs.NumberLemmas.{AtPlace}
use Rattle.kz_types.proofs.number.digits_up_to.Given as goal

abbrev pub invariant-loop-at : goal.invariant-loop-at
invariant-loop-at l = record { place : AtPlace l.text l.number l.at; fits : l.number ≤ l.most }
