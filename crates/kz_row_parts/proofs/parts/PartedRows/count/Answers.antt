use Rattle.std.proofs.Common.{ap, ◌∙◌, length, min, ◌^◌, ◌-◌}
use Rattle.kz_row_numbers.specs.Joins.{all_joined}
use Rattle.kz_row_parts.proofs.Numbering.{rows_of_all}
use Rattle.kz_row_parts.proofs.parts.PartedRows.count.Goals as goal

pub returns : goal.returns
returns c =
    ap (λ n. n.rows) c.whole.ensures ∙ ap (λ ns. (all_joined ns).rows) c.self.invariant.numbers ∙ rows_of_all c.self.inside.parts.items ∙ ap (λ rows. min (length rows) (2 ^ 64 - 1)) c.self.view_is
