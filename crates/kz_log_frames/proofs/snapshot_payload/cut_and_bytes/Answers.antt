use Rattle.std.proofs.Common.{◌≡◌, ap, ◌∙◌, w32, w64, rules, to_z, of_z, FitsSigned}
use Rattle.std.proofs.lemmas.Int.{to_z-of_z}
use Rattle.kz_spec_data.specs.Log.{Log, snapshot}
use Rattle.kz_log_frames.proofs.Growing.{snapshot_made_by}
use Rattle.kz_log_frames.proofs.snapshot_payload.cut_and_bytes.Goals as goal

pub returns-clause-payload : goal.returns-clause-payload
returns-clause-payload c =
    let l = c.args.rows.now in
    let at = to_z-of_z w64 c.args.offset c.ranges.offset in
    let cut = c.in_ok-cut.ensures.cut ∙ ap (snapshot l) at in
    let fits : FitsSigned w32 l.epoch = search rules in
    let epoch : to_z w32 (of_z w32 c.epoch.result) ≡ l.epoch = search rules in
    snapshot_made_by l c.in_ok-cut.cut c.args.offset _ _ c.base_image-image.result.now c.in_ok-payload.payload.items c.is_log.ensures c.requires fits epoch at cut (c.base_image-image.ensures ∙ ap (λ (m : Log). m.base_image) cut)
    c.is_held.ensures.order c.is_held.ensures.writable c.in_ok-payload.ensures.payload c.in_ok-payload.ensures.records c.snapshot_is_read_back.ensures.batches
