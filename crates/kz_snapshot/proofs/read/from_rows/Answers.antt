use Rattle.std.proofs.Common.{◌∙◌, map, ap}
use Rattle.kz_spec_data.specs.Metadata.{empty_image}
use Rattle.kz_spec_data.specs.SnapshotRecords.{in_epoch, image_after}
use Rattle.kz_snapshot.proofs.Applied.{more_applied, records_of_batch}
use Rattle.kz_snapshot.proofs.read.from_rows.Goals as goal

pub loop-row-preserved : goal.loop-row-preserved
loop-row-preserved c =
    let b = c.row-item.result in
    c.in_ok-take_in.ensures ∙ ap (image_after (records_of_batch b)) c.loop-row.invariant ∙ more_applied c.args.rows.now c.loop-row.row-index b empty_image c.loop-row-test.true c.row-item.is
