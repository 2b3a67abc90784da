use Rattle.std.proofs.Common.{◌≤◌, length, map, take, drop, refl, sym, ap, ◌∙◌, w32, w64, rules, arith}
use Rattle.std.specs.Int.{from_be_bytes}
use Rattle.std.proofs.lemmas.Int.{to_z-of_z}
use mir.Val.{SFits}
use Rattle.kz_spec_data.specs.LogFile.{read_pieces}
use Rattle.kz_log_frames.proofs.Cutting.{cut_said, says_same}
use Rattle.kz_log_frames.proofs.snapshot.take_snapshot.Goals as goal

pub returns : goal.returns
returns c =
    let bytes = c.args.bytes.now in
    let test = c.if-bytes-lt16.false in
    let many : 16 ≤ length bytes = omega (arith, test) in
    let epoch : SFits w32 c.epoch_in-epoch.result = search rules in
    let base : SFits w64 c.base_in-base.result = search rules in
    let count = c.number_in-count.ensures ∙ ap (λ xs. from_be_bytes w32 (take 4 xs)) c.split_at.ensures.back in
    let pieces = ap (λ n. read_pieces n (drop 16 bytes)) (sym count) ∙ ap (read_pieces c.number_in-count.result) (sym c.split_at-2.ensures.back) ∙ c.in-Ok.ensures in
    says_same _ c.cut_by.result _ _
    (cut_said c.args.log.now bytes c.in-Ok.split.1.now (map (λ piece. piece.now) c.in-Ok.split.0.items) c.in-Ok-read_all.found _ _ _ many pieces c.in-Ok-read_all.ensures (to_z-of_z w32 c.epoch_in-epoch.result epoch ∙ c.epoch_in-epoch.ensures)
    (to_z-of_z w64 c.base_in-base.result base ∙ c.base_in-base.ensures) refl)
    c.cut_by.ensures
