use Rattle.std.proofs.Common.{◌≡◌, ◌+◌}
use Rattle.std.specs.Io.Iter.{split_known_bytes, split_byte}
use Rattle.kz_cases.proofs.Runs.{Progress}
use Rattle.kz_cases.proofs.table.judge_table.Given as goal

abbrev pub invariant-loop-number : goal.invariant-loop-number
invariant-loop-number g l =
    Progress (g.R.Read.remaining l.fn.table) (split_known_bytes g.R.Read.remaining l.lines) (g.W.Write.contents l.fn.out) (g.W.Write.contents l.out) l.passed l.failed
    × (l.passed + l.failed + 1 ≡ l.number)
    × (split_byte l.lines ≡ 10)
