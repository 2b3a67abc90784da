use Rattle.kz_crc.proofs.Entries.{three_at}
use Rattle.kz_crc.proofs.tables.after_three.Goals as goal

pub returns : goal.returns
returns c = three_at c.args.byte 0 c.ranges.byte.fits
