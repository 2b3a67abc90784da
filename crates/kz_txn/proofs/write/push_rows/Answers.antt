use Rattle.std.proofs.Common.{◌≡◌, ◌+◌, ◌++◌, ◌∷◌, [], List, ℕ, take, ap, sym, ◌∙◌, append_assoc}
use Rattle.std.proofs.lemmas.List.{take_more}
use Rattle.kz_spec_data.specs.Forms.{items_written}
use Rattle.kz_spec_data.specs.Transactions.{row}
use Rattle.kz_txn.proofs.Appends.{AllFit_at, items_written_push}
use Rattle.kz_txn.proofs.write.push_rows.Goals as goal

pub put_row-requires : goal.put_row-requires
put_row-requires c = rw c.item-item.is (AllFit_at row.fits c.args.items.now c.loop-item.item-index c.item-item.result c.requires c.loop-item-test.true)

pub loop-item-preserved : goal.loop-item-preserved
loop-item-preserved c =
    let xs = c.args.items.now in
    let i = c.loop-item.item-index in
    let z = c.item-item.result in
    let old = c.args.out.now.items in
    let front = items_written row.written (take i xs) in
    let more : take (i + 1) xs ≡ take i xs ++ z ∷ [] = take_more xs i z c.loop-item-test.true ∙ ap (λ y. take i xs ++ y ∷ []) (sym c.item-item.is) in
    c.in_ok-put_row.ensures ∙ ap (λ (l : List ℕ). l ++ row.written z) c.loop-item.invariant ∙ append_assoc old front (row.written z)
    ∙ ap (λ (l : List ℕ). old ++ l) (sym (items_written_push row.written (take i xs) z) ∙ ap (items_written row.written) (sym more))
