use Rattle.std.proofs.Common.{arith}
use Rattle.kz_bytes.proofs.Facts.{limit_least}
use Rattle.kz_bytes.proofs.groups.+read_groups.Goals as goal

pub returns-then-byte-lt128-clause-bound : goal.returns-then-byte-lt128-clause-bound
returns-then-byte-lt128-clause-bound t c =
    let least = limit_least c.args.more c.args.last c.if-more-eq0.false c.requires.some in
    omega arith
