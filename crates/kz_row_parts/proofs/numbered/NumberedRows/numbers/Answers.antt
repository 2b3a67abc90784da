use Rattle.std.proofs.Common.{ap, ◌∙◌}
use Rattle.kz_row_numbers.specs.Joins.{all_joined}
use Rattle.kz_row_parts.specs.Numbered.{numbers_of}
use Rattle.kz_row_parts.proofs.Numbering.{numbers_of_all}
use Rattle.kz_row_parts.proofs.numbered.NumberedRows.numbers.Goals as goal

pub returns : goal.returns
returns c = c.whole.ensures ∙ ap all_joined c.self.invariant.numbers ∙ numbers_of_all c.self.inside.blocks.items ∙ ap numbers_of c.self.view_is
