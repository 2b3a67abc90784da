use Rattle.std.proofs.Common.{◌≡◌, ◌+◌, ◌++◌, ◌∷◌, [], length, take, ap, sym, ◌∙◌, arith}
use Rattle.std.proofs.lemmas.List.{take_more, length-append}
use Rattle.kz_spec_data.specs.Forms.{items_written}
use Rattle.kz_spec_data.specs.Transactions.{row}
use Rattle.kz_txn.proofs.Appends.{items_written_push}
use Rattle.kz_txn.proofs.size.all_rows_size.Goals as goal

pub loop-item-preserved : goal.loop-item-preserved
loop-item-preserved c =
    let xs = c.args.items.now in
    let i = c.loop-item.item-index in
    let z = c.item-item.result in
    let front = items_written row.written (take i xs) in
    let more : take (i + 1) xs ≡ take i xs ++ z ∷ [] = take_more xs i z c.loop-item-test.true ∙ ap (λ y. take i xs ++ y ∷ []) (sym c.item-item.is) in
    let all : items_written row.written (take (i + 1) xs) ≡ front ++ row.written z = ap (items_written row.written) more ∙ items_written_push row.written (take i xs) z in
    let n : length (items_written row.written (take (i + 1) xs)) ≡ length front + length (row.written z) = ap length all ∙ length-append front (row.written z) in
    record { size = omega arith; bound = omega arith }
