use Rattle.std.proofs.Common.{◌≡◌, ◌-◌}
use Rattle.kz_spec_data.specs.Forms.{tags_at}
use Rattle.kz_spec_data.specs.Records.{text_tags}
use Rattle.kz_codec_read.proofs.tags.text_among.Given as goal

abbrev pub invariant-loop : goal.invariant-loop
invariant-loop l = tags_at text_tags.take (l.count - l.counter) l.least l.text l.reader ≡ tags_at text_tags.take l.count 0 text_tags.default l.fn.reader
