use Rattle.kz_crc.proofs.Entries.{four_at}
use Rattle.kz_crc.proofs.tables.after_four.Goals as goal

pub returns : goal.returns
returns c = four_at c.args.byte 0 c.ranges.byte.fits
