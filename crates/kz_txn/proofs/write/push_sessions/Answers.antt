use Rattle.std.proofs.Common.{◌≡◌, ◌++◌, ◌<◌, List, ℕ, ℤ, pos, length, take, get_or, ap, sym, ◌∙◌, append_assoc, arith, rules, SFits, to_z-of_z}
use Rattle.std.proofs.lemmas.List.{take_more}
use Rattle.std.specs.Int.{w64, to_be_bytes, cast_unsigned, cast_signed}
use Rattle.kz_spec_data.specs.Forms.{items_written}
use Rattle.kz_spec_data.specs.Transactions.{session}
use Rattle.kz_txn.proofs.Appends.{items_written_push}
use Rattle.kz_txn.proofs.write.push_sessions.Goals as goal

pub loop-item-preserved : goal.loop-item-preserved
loop-item-preserved c =
    let xs = c.args.items.now in
    let i = c.loop-item.item-index in
    let old = c.args.out.now.items in
    let front = take i xs in
    let z = get_or xs i (pos 0) in
    let lt : i < length xs = omega arith in
    let fits : SFits w64 (get_or c.args.items.now c.loop-item.item-index (pos 0)) = search rules in
    let same : cast_signed w64 (cast_unsigned w64 z) ≡ z = to_z-of_z fits in
    let pushed : c.put_i64.new.out.items ≡ c.loop-item.out.items ++ to_be_bytes w64 (cast_unsigned w64 z) = c.in_ok-put_i64.ensures ∙ ap (λ (y : ℤ). c.loop-item.out.items ++ to_be_bytes w64 (cast_unsigned w64 y)) same in
    pushed ∙ ap (λ (l : List ℕ). l ++ to_be_bytes w64 (cast_unsigned w64 z)) c.loop-item.invariant ∙ append_assoc old (items_written session.written front) (to_be_bytes w64 (cast_unsigned w64 z))
    ∙ ap (λ (l : List ℕ). old ++ l) (sym (items_written_push session.written front z) ∙ ap (items_written session.written) (sym (take_more xs i (pos 0) lt)))
