use Rattle.kz_crc.proofs.Entries.{seven_at}
use Rattle.kz_crc.proofs.tables.after_seven.Goals as goal

pub returns : goal.returns
returns c = seven_at c.args.byte 0 c.ranges.byte.fits
