use Rattle.std.proofs.Common.{◌∙◌, ap}
use Rattle.serde_json.specs.Written.{has_float}
use Rattle.kz_dump.proofs.PlainLines.{log_head_no_float}
use Rattle.kz_dump.proofs.lines.log_head.Goals as goal

pub value_line-requires : goal.value_line-requires
value_line-requires c = ap has_float c.in_ok-value.ensures ∙ search log_head_no_float
