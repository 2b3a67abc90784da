use Rattle.std.proofs.Common.{◌≡◌, ◌++◌, ◌∷◌, [], ◌&&◌, ◌+ℤ◌, ap, ◌∙◌, length, pos, not, nat_lt, rules, arith}
use Rattle.std.specs.Int.{w128}
use Rattle.std.specs.Ordering.{int_eq}
use Rattle.std.proofs.lemmas.Int.{to_z-of_z}
use mir.Val.{SFits}
use Rattle.kz_log_frames.proofs.Taking.{as_many}
use Rattle.kz_log_frames.proofs.ReadingPieces.{found_more}
use Rattle.kz_log_frames.proofs.pieces.with_batch.Goals as goal

pub returns : goal.returns
returns c = λ ps had.
    let found = c.args.found in
    let b = c.args.batch.now in
    let items = c.args.items.items in
    let count = as_many b.values items c.requires.values in
    let len = c.len.ensures in
    let counted : c.len.result ≡ length b.values = omega (arith, len, count, c.args.items.ok.0) in
    let last : SFits w128 c.last-last.result = search rules in
    found_more found _ ps b items (c.in_ok-push.ensures.items ∙ ap (λ r. found.rows.items ++ r ∷ []) c.row_of.ensures) (to_z-of_z w128 c.last-last.result last ∙ c.last-last.ensures)
    (c.do_fit-fits.ensures ∙ ap (λ n. found.fits && (not b.control && nat_lt 0 n && int_eq b.first (found.last +ℤ pos 1) && int_eq b.time (pos 0))) counted) c.requires.short had
