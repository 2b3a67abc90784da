use Rattle.kz_laws_lines.proofs.Records.{record_is_read}
use Rattle.kz_laws_lines.proofs.held.held_record_is_read.Goals as goal

pub returns : goal.returns
returns c = record_is_read c.args.r.now c.record.ensures
