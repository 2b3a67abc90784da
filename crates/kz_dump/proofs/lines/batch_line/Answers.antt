use Rattle.std.proofs.Common.{◌∙◌, ap}
use Rattle.serde_json.specs.Written.{has_float}
use Rattle.kz_dump.proofs.PlainLines.{batch_no_float}
use Rattle.kz_dump.proofs.lines.batch_line.Goals as goal

pub value_line-requires : goal.value_line-requires
value_line-requires c = ap has_float c.in_ok-value.ensures ∙ batch_no_float c.args.batch.now
