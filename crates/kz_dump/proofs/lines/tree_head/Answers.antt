use Rattle.std.proofs.Common.{◌∙◌, ap}
use Rattle.serde_json.specs.Written.{has_float}
use Rattle.kz_dump.proofs.PlainLines.{tree_head_no_float}
use Rattle.kz_dump.proofs.lines.tree_head.Goals as goal

pub value_line-requires : goal.value_line-requires
value_line-requires c = ap has_float c.in_ok-value.ensures ∙ search tree_head_no_float
