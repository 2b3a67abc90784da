use Rattle.kz_crc.proofs.Entries.{eight_at}
use Rattle.kz_crc.proofs.tables.after_eight.Goals as goal

pub returns : goal.returns
returns c = eight_at c.args.byte 0 c.ranges.byte.fits
