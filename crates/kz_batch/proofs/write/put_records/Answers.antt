use Rattle.std.proofs.Common.{◌≡◌, ℕ, ◌+◌, ◌++◌, List, length, map, take, ap, sym, ◌∙◌, append_assoc, arith}
use Rattle.kz_spec_data.specs.Batches.{entry, content_with, records_written}
use Rattle.kz_batch.proofs.Written.{holds_at, records_more}
use Rattle.kz_batch.proofs.write.put_records.Goals as goal

pub put_entry-requires-clause-size : goal.put_entry-requires-clause-size
put_entry-requires-clause-size c = rw (c.deref.ensures.value, c.value-item.is) (holds_at c.args.values.now c.loop-value.value-index c.value-item.result c.requires.each c.loop-value-test.true)

pub loop-value-preserved : goal.loop-value-preserved
loop-value-preserved c =
    let i = c.loop-value.value-index in
    let z = c.value-item.result in
    let old = c.args.out.now.items in
    let front = records_written 0 (map (λ v. v.items) (take i c.args.values.now)) in
    let pushed : c.put_entry.new.out.items ≡ c.loop-value.out.items ++ entry.written (content_with i z.items) =
    c.in_ok-put_entry.ensures ∙ ap (λ (v : List ℕ). c.loop-value.out.items ++ entry.written (content_with c.loop-value.index v)) c.deref.ensures.value ∙ ap (λ (k : ℕ). c.loop-value.out.items ++ entry.written (content_with k z.items)) c.loop-value.invariant.index in
    record {
      index = omega arith;
      out = pushed ∙ ap (λ (l : List ℕ). l ++ entry.written (content_with i z.items)) c.loop-value.invariant.out ∙ append_assoc old front (entry.written (content_with i z.items))
          ∙ ap (λ (l : List ℕ). old ++ l) (sym (records_more c.args.values.now i z c.loop-value-test.true c.value-item.is));
    }
