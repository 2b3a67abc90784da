use Rattle.std.proofs.Common.{◌+◌, drop, sym, ◌∙◌, w32, rules}
use Rattle.std.proofs.lemmas.Int.{to_z-of_z}
use mir.Val.{SFits}
use Rattle.kz_spec_data.specs.SnapshotBatches.{records_of_batches}
use Rattle.kz_log_frames.proofs.SameRecords.{if_none, if_some, batch_differs, batch_same}
use Rattle.kz_log_frames.proofs.same.same_rows.Goals as goal

pub returns-in-None : goal.returns-in-None
returns-in-None c =
    let row = c.row-item.result in
    let i = c.loop-row.row-index in
    let bs = c.args.rows.now in
    let fits : SFits w32 row.epoch = search rules in
    let differs = if_none _ _ _ c.in-None.is (c.in_ok-later.ensures (records_of_batches (drop (i + 1) bs))) in
    sym (batch_differs bs i row _ _ c.loop-row.rest.now c.loop-row-test.true c.row-item.is (to_z-of_z w32 row.epoch fits) c.as_slice.ensures differs) ∙ c.loop-row.invariant

pub loop-row-preserved : goal.loop-row-preserved
loop-row-preserved c =
    let row = c.row-item.result in
    let i = c.loop-row.row-index in
    let bs = c.args.rows.now in
    let fits : SFits w32 row.epoch = search rules in
    let same = if_some _ _ _ _ c.in-Some.is (c.in_ok-later.ensures (records_of_batches (drop (i + 1) bs))) in
    sym (batch_same bs i row _ _ c.loop-row.rest.now _ c.loop-row-test.true c.row-item.is (to_z-of_z w32 row.epoch fits) c.as_slice.ensures same) ∙ c.loop-row.invariant
