use Rattle.std.proofs.Common.{◌≡◌, ◌-◌}
use Rattle.kz_spec_data.specs.Forms.{tags_at}
use Rattle.kz_spec_data.specs.Records.{partition_tags}
use Rattle.kz_codec_read.proofs.tags.recovery_tags.Given as goal

abbrev pub invariant-loop : goal.invariant-loop
invariant-loop l = tags_at partition_tags.take (l.count - l.counter) l.least l.recovery.state l.reader ≡ tags_at partition_tags.take l.count 0 partition_tags.default l.fn.reader
