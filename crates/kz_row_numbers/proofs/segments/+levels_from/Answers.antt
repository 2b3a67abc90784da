use Rattle.std.proofs.Common.{◌≡◌, length, ap, arith}
use Rattle.kz_row_numbers.specs.Levels.{pairs}
use Rattle.kz_row_numbers.proofs.LevelLemmas.{length-pairs}
use Rattle.kz_row_numbers.proofs.segments.+levels_from.Goals as goal

pub levels_from-requires : goal.levels_from-requires
levels_from-requires t c =
    let lengths : length c.in_ok-above.above ≡ length (pairs c.args.level) = ap length c.in_ok-above.ensures in
    let half = length-pairs c.args.level in
    (omega (arith, c.decreases, lengths, half.most, c.len.ensures, c.if-len-le1.false), tt)
