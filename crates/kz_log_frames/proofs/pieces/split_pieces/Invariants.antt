use Rattle.std.proofs.Common.{◌≡◌, map}
use Rattle.kz_spec_data.specs.LogFile.{read_pieces}
use Rattle.kz_log_frames.proofs.ReadingPieces.{with_pieces}
use Rattle.kz_log_frames.proofs.pieces.split_pieces.Given as goal

abbrev pub invariant-loop-left : goal.invariant-loop-left
invariant-loop-left l = with_pieces (map (λ piece. piece.now) l.pieces.items) (read_pieces l.left l.rest) ≡ read_pieces l.fn.count l.fn.bytes

abbrev pub decreases-loop-left : goal.decreases-loop-left
decreases-loop-left l = l.left
