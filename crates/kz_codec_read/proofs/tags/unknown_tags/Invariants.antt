use Rattle.std.proofs.Common.{◌≡◌, ◌-◌}
use Rattle.kz_spec_data.specs.Forms.{nothing, tags_at}
use Rattle.kz_codec_read.proofs.tags.unknown_tags.Given as goal

abbrev pub invariant-loop : goal.invariant-loop
invariant-loop l = tags_at nothing.take (l.count - l.counter) l.least tt l.reader ≡ tags_at nothing.take l.count 0 nothing.default l.fn.reader
