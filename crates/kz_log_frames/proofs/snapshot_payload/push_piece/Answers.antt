use Rattle.std.proofs.Common.{◌≡◌, ◌-◌, length, drop, ap, ◌∙◌, w32, rules, arith}
use mir.Val.{SFits}
use Rattle.kz_log_frames.proofs.Growing.{piece_grows}
use Rattle.kz_log_frames.proofs.snapshot_payload.push_piece.Goals as goal

pub returns-clause-grows : goal.returns-clause-grows
returns-clause-grows c =
    let rest = c.split_at.result.1.now in
    let bytes = c.in_ok-bytes.bytes.items in
    let whole = ap length c.deref.ensures.value in
    let back = c.split_at.ensures.back_len in
    let size : length rest ≡ length bytes - 1 = omega (arith, whole, back) in
    piece_grows c.args.payload.now.items c.extend_from_slice.new.self.items c.extend_from_slice-2.new.self.items c.number_bytes.result rest bytes c.args.row.now c.in_ok-bytes.ensures.payload
    (c.split_at.ensures.back ∙ ap (drop 1) c.deref.ensures.value) size c.number_bytes.ensures.size c.number_bytes.ensures.bytes c.in_ok-extend_from_slice.ensures.items c.in_ok-extend_from_slice-2.ensures.items

pub returns-clause-records : goal.returns-clause-records
returns-clause-records c =
    let fits : SFits w32 c.args.row.now.epoch = search rules in
    record { epoch = fits; items = c.in_ok-bytes.ensures.records }
