use Rattle.std.proofs.Common.{◌+◌, ◌≤◌, ◌++◌, [], length, take}
use Rattle.kz_laws_values.proofs.QuotaScales.{IsSignificant}
use Rattle.kz_body_parts.proofs.quota_texts.Significant.of.Given as goal

abbrev pub invariant-loop-at : goal.invariant-loop-at
invariant-loop-at l = record {
  small : l.significant.number ≤ 10000000000000000000000000;
  few : l.significant.zeros ≤ l.at;
  is : IsSignificant ([] ++ take l.at l.whole-inside.text.now) l.significant.number l.significant.zeros;
}

abbrev pub invariant-loop-at-2 : goal.invariant-loop-at-2
invariant-loop-at-2 l = record {
  small : l.significant.number ≤ 10000000000000000000000000;
  few : l.significant.zeros ≤ length l.whole + l.at;
  is : IsSignificant (l.whole ++ take l.at l.decimals-inside.text.now) l.significant.number l.significant.zeros;
}
