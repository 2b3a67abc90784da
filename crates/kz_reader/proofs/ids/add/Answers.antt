use Rattle.std.proofs.Common.{◌∙◌}
use Rattle.kz_reader.specs.Seen.{is_among}
use Rattle.kz_reader.proofs.IdSets.{one_more}
use Rattle.kz_reader.proofs.ids.add.Goals as goal

pub returns : goal.returns
returns c = λ other. c.in_ok-insert.ensures.updates.0 other.bytes ∙ one_more c.args.id.bytes other.bytes (is_among c.args.ids.now other)
