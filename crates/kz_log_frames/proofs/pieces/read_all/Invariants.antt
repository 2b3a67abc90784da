use Rattle.std.proofs.Common.{◌≡◌, map, length}
use Rattle.std.specs.Vec.Iter.{into_iter_items, into_iter_len}
use Rattle.kz_log_frames.proofs.ReadingPieces.{HasRead}
use Rattle.kz_log_frames.proofs.pieces.read_all.Given as goal

abbrev pub invariant-loop-piece : goal.invariant-loop-piece
invariant-loop-piece l = record {
  read : HasRead (map (λ piece. piece.now) l.fn.pieces.items) (map (λ piece. piece.now) (into_iter_items l.piece-iterator)) l.found;
  left : into_iter_len l.piece-iterator ≡ length (into_iter_items l.piece-iterator);
}
