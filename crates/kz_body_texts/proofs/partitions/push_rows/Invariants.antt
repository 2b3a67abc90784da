use Rattle.std.proofs.Common.{◌≡◌, ◌++◌, drop, string_bytes}
use Rattle.serde_json.specs.Data.{object}
use Rattle.serde_json.specs.Written.{compact_text, members_text}
use Rattle.kz_body_texts.specs.Texts.{in_order}
use Rattle.kz_body_texts.proofs.partitions.push_rows.Given as goal

abbrev pub invariant-loop-row : goal.invariant-loop-row
invariant-loop-row l = string_bytes l.text ++ members_text l.later (in_order (drop l.row-index l.rows)) ≡ string_bytes l.fn.text ++ compact_text (object (in_order l.rows))
