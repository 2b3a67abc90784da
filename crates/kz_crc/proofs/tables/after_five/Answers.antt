use Rattle.kz_crc.proofs.Entries.{five_at}
use Rattle.kz_crc.proofs.tables.after_five.Goals as goal

pub returns : goal.returns
returns c = five_at c.args.byte 0 c.ranges.byte.fits
