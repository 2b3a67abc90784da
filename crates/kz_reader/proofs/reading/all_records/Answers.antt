use Rattle.std.proofs.Common.{◌≤◌, length, subst, sym}
use Rattle.kz_reader.proofs.BodyKinds.{zero_least}
use Rattle.kz_reader.proofs.reading.all_records.Goals as goal

pub loop-reading-init : goal.loop-reading-init
loop-reading-init c = (c.new-reading.ensures.reading c.args.rows.now, subst (λ n. n ≤ length c.args.rows.now) (sym c.new-reading.ensures.done) (zero_least (length c.args.rows.now)))
