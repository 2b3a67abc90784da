use Rattle.std.proofs.Common.{◌≡◌, drop, map}
use Rattle.kz_spec_data.specs.Credentials.{value_of}
use Rattle.kz_json.proofs.credentials.value_of.Given as goal

abbrev pub invariant-loop-piece : goal.invariant-loop-piece
invariant-loop-piece l = value_of l.name (map (λ piece. piece.now) l.pieces) ≡ value_of l.name (map (λ piece. piece.now) (drop l.piece-index l.pieces))
