use Rattle.std.proofs.Common.{◌≡◌, ◌-◌, suc, [], ◌∷◌, map, sym, ap, ◌∙◌, arith}
use Rattle.std.proofs.lemmas.List.{map-append}
use Rattle.kz_spec_data.specs.LogFile.{read_pieces}
use Rattle.kz_log_frames.proofs.ReadingPieces.{with_pieces, piece_cut, piece_more}
use Rattle.kz_log_frames.proofs.pieces.split_pieces.Goals as goal

pub returns-in_default : goal.returns-in_default
returns-in_default c =
    let n = c.loop-left.left - 1 in
    let ps = map (λ piece. piece.now) c.loop-left.pieces.items in
    let some = c.loop-left-test.true in
    let left : c.loop-left.left ≡ suc n = omega (arith, some) in
    sym c.loop-left.invariant ∙ ap (λ k. with_pieces ps (read_pieces k c.loop-left.rest.now)) left ∙ piece_cut ps c.loop-left.rest.now n c.in_default.ensures

pub loop-left-preserved : goal.loop-left-preserved
loop-left-preserved c =
    let n = c.loop-left.left - 1 in
    let ps = map (λ piece. piece.now) c.loop-left.pieces.items in
    let some = c.loop-left-test.true in
    let left : c.loop-left.left ≡ suc n = omega (arith, some) in
    let more = ap (map (λ piece. piece.now)) c.in-Ok.ensures.items ∙ map-append (λ piece. piece.now) c.loop-left.pieces.items (c.in-Some.piece ∷ []) in
    ap (λ qs. with_pieces qs (read_pieces n c.in-Some.later.now)) more ∙ sym (piece_more ps c.in-Some.piece.now c.loop-left.rest.now c.in-Some.later.now n c.in-Some.ensures)
    ∙ sym (ap (λ k. with_pieces ps (read_pieces k c.loop-left.rest.now)) left) ∙ c.loop-left.invariant
