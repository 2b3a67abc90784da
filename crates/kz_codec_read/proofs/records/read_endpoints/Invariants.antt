use Rattle.std.proofs.Common.{◌≡◌, ◌-◌}
use Rattle.kz_spec_data.specs.Forms.{items_at}
use Rattle.kz_spec_data.specs.Records.{endpoint}
use Rattle.kz_codec_read.proofs.Loops.{with_front}
use Rattle.kz_codec_read.proofs.records.read_endpoints.Given as goal

abbrev pub invariant-loop : goal.invariant-loop
invariant-loop l = with_front l.items.items (items_at endpoint.read (l.count - l.counter) l.reader) ≡ items_at endpoint.read l.count l.fn.reader
