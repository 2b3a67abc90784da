use Rattle.std.proofs.Common.{◌≡◌, length, w32, w64, arith}
use Rattle.std.proofs.lemmas.Int.{to_z-of_z}
use Rattle.kz_log_frames.proofs.Growing.{whole_grows_by}
use Rattle.kz_log_frames.proofs.snapshot_payload.payload_bytes.Goals as goal

pub returns-clause-payload : goal.returns-clause-payload
returns-clause-payload c =
    let len = c.len.ensures in
    let ok = c.in_ok-rows.rows.ok.0 in
    let counted : c.len.result ≡ length c.in_ok-rows.rows.items = omega (arith, len, ok) in
    whole_grows_by c.args.epoch _ _ c.args.base _ c.args.image.now _ c.in_ok-payload.payload.items c.push_pieces.new.payload.items c.in_ok-rows.rows.items _ (to_z-of_z w32 c.args.epoch c.ranges.epoch) (to_z-of_z w32 c.args.epoch c.ranges.epoch)
    (to_z-of_z w64 c.args.base c.ranges.base) c.in_ok-rows.ensures c.deref.ensures.value counted c.in_ok-payload.ensures c.in_ok-push_pieces.ensures.grows
