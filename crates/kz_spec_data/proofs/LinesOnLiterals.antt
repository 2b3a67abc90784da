-- What a proof unfolds to compute the definitions of this crate on a literal.
use Rattle.std.specs.Prelude.{⊤}
use Rattle.serde_json.proofs.OnLiterals.{serde_json_on_literals}
use Rattle.kz_types.proofs.OnLiterals.{values_on_literals}
use Rattle.kz_spec_data.proofs.QuotasOnLiterals.{quotas_on_literals}
use Rattle.kz_spec_data.specs.Ops.{op_of}
use Rattle.kz_spec_data.specs.Members.{with_tagged_whole, with_tagged_ints, with_tagged_text}
use Rattle.kz_spec_data.specs.TopicRecords.{partition_with}
use Rattle.kz_spec_data.specs.RecordLines.{log_forms, user_forms, topic_forms, record_of}
use Rattle.kz_spec_data.specs.Events.{line_event}
use Rattle.kz_spec_data.specs.WrittenRecords.{record_data}
use Rattle.kz_spec_data.specs.Written.{written_event}
use Rattle.kz_spec_data.specs.Replies.{reply_lines, summary_line}

unfoldable pub lines_on_literals : ⊤
unfolding serde_json_on_literals values_on_literals quotas_on_literals op_of with_tagged_whole with_tagged_ints with_tagged_text partition_with log_forms user_forms topic_forms record_of line_event record_data written_event reply_lines summary_line
lines_on_literals = tt
