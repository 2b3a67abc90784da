use Rattle.std.proofs.Common.{◌≡◌, ◌+◌, ◌<◌, ◌≤◌, ◌∷◌, ◌++◌, [], length, take, get_or, ◌∙◌, arith}
use Rattle.std.proofs.lemmas.List.{take_more, take_all}
use Rattle.kz_row_numbers.specs.Joins.{no_numbers}
use Rattle.kz_row_numbers.specs.Levels.{pairs}
use Rattle.kz_row_numbers.proofs.LevelLemmas.{length-pairs}
use Rattle.kz_row_numbers.proofs.level.Level.above.Goals as goal

pub loop-place-preserved : goal.loop-place-preserved
loop-place-preserved c =
    let half = length-pairs c.args.self.now in
    let within : c.loop-place.place < length (pairs c.args.self.now) = omega (arith, half.least, c.len.ensures, c.div_ceil-count.ensures, c.loop-place-test.true) in
    let more : take (c.loop-place.place + 1) (pairs c.args.self.now) ≡ take c.loop-place.place (pairs c.args.self.now) ++ get_or (pairs c.args.self.now) c.loop-place.place no_numbers ∷ [] = take_more (pairs c.args.self.now) c.loop-place.place no_numbers within in
    cc (c.in_ok-push.ensures.items, c.pair.ensures, c.loop-place.invariant, more)

pub returns : goal.returns
returns c =
    let half = length-pairs c.args.self.now in
    let all : length (pairs c.args.self.now) ≤ c.loop-place.place = omega (arith, half.most, c.len.ensures, c.div_ceil-count.ensures, c.loop-place-test.false) in
    c.loop-place.invariant ∙ take_all c.loop-place.place (pairs c.args.self.now) all
