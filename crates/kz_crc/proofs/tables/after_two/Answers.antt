use Rattle.kz_crc.proofs.Entries.{two_at}
use Rattle.kz_crc.proofs.tables.after_two.Goals as goal

pub returns : goal.returns
returns c = two_at c.args.byte 0 c.ranges.byte.fits
