use Rattle.std.proofs.Common.{◌≡◌, ◌<◌, length, ◌∙◌, arith, rules, to_z-of_z}
use Rattle.kz_row_numbers.specs.Joins.{is_later}
use Rattle.kz_row_numbers.proofs.Joining.{later_joined}
use Rattle.kz_row_numbers.proofs.LevelLemmas.{first_alone, some_above, within_pair, first_above}
use Rattle.kz_row_numbers.proofs.segments.+place_of_later.Goals as goal

pub returns-then-is_empty : goal.returns-then-is_empty
returns-then-is_empty t c =
    let none : length c.in-Some.above.now ≡ 0 = search rules in
    first_alone (is_later c.args.zxid) (later_joined c.args.zxid) c.args.levels.now c.in-Some.above.now c.in-Some.level.now c.requires.levels c.in-Some.ensures.cases.0 none c.requires.some

pub place_of_later-requires : goal.place_of_later-requires
place_of_later-requires t c =
    let more : 0 < length c.in-Some.above.now = search rules in
    rw (to_z-of_z c.ranges.zxid) (
      omega (arith, c.decreases, c.in-Some.ensures.cases.1),
      some_above (is_later c.args.zxid) (later_joined c.args.zxid) c.args.levels.now c.in-Some.above.now c.in-Some.level.now c.requires.levels c.in-Some.ensures.cases.0 more c.requires.some,
    )

pub later_of_pair-requires : goal.later_of_pair-requires
later_of_pair-requires t c =
    let more : 0 < length c.in-Some.above.now = search rules in
    within_pair (is_later c.args.zxid) (later_joined c.args.zxid) c.args.levels.now c.in-Some.above.now c.in-Some.level.now c.place_of_later.result c.requires.levels c.in-Some.ensures.cases.0 more c.requires.some
    (rw (to_z-of_z c.ranges.zxid) at c.place_of_later.ensures)

pub returns : goal.returns
returns t c =
    let more : 0 < length c.in-Some.above.now = search rules in
    (rw (to_z-of_z c.ranges.zxid) at c.later_of_pair.ensures)
    ∙ first_above (is_later c.args.zxid) (later_joined c.args.zxid) c.args.levels.now c.in-Some.above.now c.in-Some.level.now c.place_of_later.result c.requires.levels c.in-Some.ensures.cases.0 more c.requires.some
    (rw (to_z-of_z c.ranges.zxid) at c.place_of_later.ensures)
