use Rattle.kz_crc.proofs.Entries.{six_at}
use Rattle.kz_crc.proofs.tables.after_six.Goals as goal

pub returns : goal.returns
returns c = six_at c.args.byte 0 c.ranges.byte.fits
