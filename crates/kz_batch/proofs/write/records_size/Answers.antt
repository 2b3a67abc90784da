use Rattle.std.proofs.Common.{◌≡◌, ℕ, ◌+◌, ◌^◌, ◌<◌, ◌≤◌, ◌++◌, List, length, map, take, ap, sym, ◌∙◌, arith, rules}
use Rattle.std.proofs.lemmas.List.{length-append}
use Rattle.kz_spec_data.specs.Batches.{entry, content_with, records_written}
use Rattle.kz_batch.proofs.Written.{records_more}
use Rattle.kz_batch.proofs.write.records_size.Goals as goal

pub loop-value-preserved : goal.loop-value-preserved
loop-value-preserved c =
    let i = c.loop-value.value-index in
    let z = c.value-item.result in
    let front = records_written 0 (map (λ v. v.items) (take i c.args.values.now)) in
    let one : c.entry_size-size.result ≡ length (entry.written (content_with i z.items)) =
    c.entry_size-size.ensures.size ∙ ap (λ (v : List ℕ). length (entry.written (content_with c.loop-value.index v))) c.deref.ensures.value ∙ ap (λ (k : ℕ). length (entry.written (content_with k z.items))) c.loop-value.invariant.index in
    let all : length (records_written 0 (map (λ v. v.items) (take (i + 1) c.args.values.now))) ≡ length front + length (entry.written (content_with i z.items)) =
    ap length (records_more c.args.values.now i z c.loop-value-test.true c.value-item.is) ∙ length-append front (entry.written (content_with i z.items)) in
    let small : length z.items < 2 ^ 63 = search rules in
    let bound : c.entry_size-size.result ≤ 2 ^ 63 + 34 = omega (arith, c.entry_size-size.ensures.bound, ap length c.deref.ensures.value) in
    record { index = omega arith; size = omega (arith, one, all, c.loop-value.invariant.size); bound = omega (arith, bound, c.loop-value.invariant.bound) }
