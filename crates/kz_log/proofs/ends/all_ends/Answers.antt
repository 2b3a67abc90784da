use Rattle.std.proofs.Common.{◌≡◌, ◌∙◌, ◌++◌, ◌∷◌, [], ap, sym, to_z, of_z, w64, rules, arith}
use Rattle.std.proofs.lemmas.Int.{ints, to_z-of_z}
use mir.Val.{SFits}
use Rattle.kz_spec_data.specs.Log.{last_of}
use Rattle.kz_log.proofs.Batches.{last_at, ends_more, count_more}
use Rattle.kz_log.proofs.ends.all_ends.Goals as goal

pub loop-batch-preserved : goal.loop-batch-preserved
loop-batch-preserved c =
    let b = c.batch-item.result in
    let last = last_at c.args.base c.args.batches.now c.loop-batch.batch-index b c.requires.follow c.loop-batch-test.true c.batch-item.is in
    let count = c.loop-batch.invariant.count in
    let base = to_z-of_z w64 c.args.base c.ranges.base in
    let same : c.offset_after.result ≡ last_of b = omega (arith, ints, last, count, base, c.len-count.ensures, c.offset_after.ensures) in
    let fits : SFits w64 c.offset_after.result = search rules in
    let more = count_more c.args.batches.now c.loop-batch.batch-index b c.loop-batch-test.true c.batch-item.is in record {
      ends =
          c.in_ok-push-2.ensures.items ∙ ap (λ x. c.loop-batch.ends.items ++ x ∷ []) (to_z-of_z w64 c.offset_after.result fits ∙ same)
          ∙ ap (λ es. es ++ last_of b ∷ []) c.loop-batch.invariant.ends
          ∙ ap (λ es. to_z w64 (of_z w64 c.args.base) ∷ es) (sym (ends_more c.args.batches.now c.loop-batch.batch-index b c.loop-batch-test.true c.batch-item.is));
      count = omega (arith, more, count, c.len-count.ensures);
    }
