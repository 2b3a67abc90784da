use Rattle.kz_crc.proofs.Entries.{one_at}
use Rattle.kz_crc.proofs.tables.after_one.Goals as goal

pub returns : goal.returns
returns c = one_at c.args.byte 0 c.ranges.byte.fits
