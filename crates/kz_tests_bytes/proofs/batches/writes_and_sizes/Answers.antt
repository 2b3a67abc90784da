use Rattle.std.proofs.Common.{[], ◌∷◌, arith, sym, subst}
use Rattle.kz_spec_data.specs.Fields.{groups_of}
use Rattle.kz_spec_data.specs.Batches.{BatchFits}
use Rattle.kz_tests_bytes.proofs.batches.writes_and_sizes.Goals as goal

two_fit : BatchFits ((1 ∷ 20 ∷ 0 ∷ 0 ∷ []) ∷ (1 ∷ 21 ∷ 0 ∷ 1 ∷ 0 ∷ []) ∷ [])
unfolding groups_of
two_fit = record { count = omega arith; each = (omega arith, (omega arith, tt)); whole = omega arith }

pub write_batch-requires-2 : goal.write_batch-requires-2
write_batch-requires-2 g c = subst BatchFits (sym (λ i. c.in_ok-first.ensures.items i ∷ c.in_ok-second.ensures.items i ∷ [])) two_fit
