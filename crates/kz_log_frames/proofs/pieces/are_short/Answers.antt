use Rattle.kz_log_frames.proofs.ShortRecords.{records_short}
use Rattle.kz_log_frames.proofs.pieces.are_short.Goals as goal

pub returns : goal.returns
returns c =
    records_short c.args.batch.now.values c.args.items.now c.records_are_shortest.ensures.read (c.values_are_short.ensures c.args.piece.now c.args.batch.now c.are_bytes.ensures c.requires.batch) c.requires.values
