use Rattle.kz_log_frames.proofs.Growing.{pieces_more, batches_more}
use Rattle.kz_log_frames.proofs.snapshot_payload.push_pieces.Goals as goal

pub loop-row-preserved : goal.loop-row-preserved
loop-row-preserved c = record {
  grows = pieces_more c.args.rows.now c.loop-row.row-index c.row-item.result _ _ _ c.loop-row-test.true c.row-item.is c.loop-row.invariant.grows c.in_ok-push_piece.ensures.grows;
  records = batches_more c.args.rows.now c.loop-row.row-index c.row-item.result c.loop-row-test.true c.row-item.is c.loop-row.invariant.records c.in_ok-push_piece.ensures.records;
}
