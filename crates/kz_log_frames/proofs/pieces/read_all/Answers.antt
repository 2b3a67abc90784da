use Rattle.std.proofs.Common.{◌≡◌, negsuc, true, map, refl, sym, subst, rules}
use Rattle.std.specs.Vec.Iter.{into_iter_items}
use Rattle.kz_log_frames.specs.declared.pieces.Found.{Found}
use Rattle.kz_log_frames.proofs.ReadingPieces.{HasRead, starts}
use Rattle.kz_log_frames.proofs.pieces.read_all.Goals as goal

pub loop-piece-init : goal.loop-piece-init
loop-piece-init c =
    let all = map (λ piece. piece.now) c.args.pieces.items in
    let none : Found = record { rows = c.new.result; last = negsuc 0; fits = true } in
    let given : into_iter_items c.into_iter-piece-iterator.result ≡ c.args.pieces.items = c.into_iter-piece-iterator.ensures.into_iter_gives.0 in
    record {
      read = subst (λ xs. HasRead all (map (λ piece. piece.now) xs) none) (sym given) (starts all none c.new.ensures.items refl refl);
      left = search rules;
    }
