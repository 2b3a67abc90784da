use Rattle.std.proofs.Common.{◌≡◌, ◌-◌}
use Rattle.kz_spec_data.specs.Forms.{tags_at}
use Rattle.kz_spec_data.specs.Records.{change_tags}
use Rattle.kz_codec_read.specs.Changes.{parts_of}
use Rattle.kz_codec_read.proofs.tags.parts_among.Given as goal

abbrev pub invariant-loop : goal.invariant-loop
invariant-loop l = tags_at change_tags.take (l.count - l.counter) l.least (parts_of l.parts) l.reader ≡ tags_at change_tags.take l.count 0 change_tags.default l.fn.reader
