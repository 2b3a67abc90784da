use Rattle.std.proofs.Common.{ap, ◌∙◌}
use Rattle.kz_row_numbers.specs.Joins.{joined}
use Rattle.kz_row_parts.specs.Numbered.{numbers_of_row}
use Rattle.kz_row_parts.proofs.Numbering.{numbers_more}
use Rattle.kz_row_parts.proofs.numbers.numbers_of.Goals as goal

pub loop-row-preserved : goal.loop-row-preserved
loop-row-preserved c =
    let one = c.numbers_of_row.ensures ∙ ap numbers_of_row c.get.ensures in
    numbers_more c.args.rows.now c.loop-row.row-index c.row-item.result c.loop-row.numbers c.join-numbers.result c.loop-row-test.true c.row-item.is c.loop-row.invariant (c.join-numbers.ensures ∙ ap (joined c.loop-row.numbers) one)
