use Rattle.std.proofs.Common.{◌∙◌, ap}
use Rattle.serde_json.specs.Written.{has_float}
use Rattle.kz_dump.proofs.PlainLines.{row_no_float}
use Rattle.kz_dump.proofs.lines.row_line.Goals as goal

pub value_line-requires : goal.value_line-requires
value_line-requires c = ap has_float c.in_ok-value.ensures ∙ row_no_float c.args.row.now
