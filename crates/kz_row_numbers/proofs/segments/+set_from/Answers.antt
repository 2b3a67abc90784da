use Rattle.std.proofs.Common.{◌≡◌, ◌<◌, ◌/◌, length, get_or, set, arith, rules}
use Rattle.kz_row_numbers.specs.Joins.{no_numbers}
use Rattle.kz_row_numbers.specs.Levels.{pairs}
use Rattle.kz_row_numbers.proofs.LevelLemmas.{place_above, levels_set}
use Rattle.kz_row_numbers.proofs.segments.+set_from.Goals as goal

pub set_from-requires : goal.set_from-requires
set_from-requires t c =
    let more : 0 < length c.in-Some.above.now = search rules in
    (omega (arith, c.decreases, c.in-Some.ensures.cases.1), place_above c.args.levels.now c.in-Some.above.now c.in-Some.level.now c.args.place c.requires.levels c.in-Some.ensures.cases.0 more c.requires.within)

pub returns-clause-levels : goal.returns-clause-levels
returns-clause-levels t c =
    let more : 0 < length c.in-Some.above.now = search rules in
    let pair : c.pair-pair.result ≡ get_or (pairs (set c.in-Some.level.now c.args.place c.args.numbers)) (c.args.place / 2) no_numbers = rw c.set.ensures at c.pair-pair.ensures in
    rw c.set.ensures
    (levels_set c.args.levels.now c.in-Some.above.now c.set_from.new.levels c.in-Some.level.now c.args.place c.args.numbers c.pair-pair.result c.requires.levels c.in-Some.ensures.cases.0 more c.requires.within pair
    c.set_from.ensures.lowest c.set_from.ensures.levels)
