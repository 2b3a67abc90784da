use Rattle.std.proofs.Common.{ap, w64, rules, arith}
use Rattle.std.proofs.lemmas.Int.{ints, to_z-of_z}
use mir.Val.{SFits}
use Rattle.kz_spec_data.specs.Log.{record_count}
use Rattle.kz_log.proofs.Batches.{end_high}
use Rattle.kz_log.proofs.rows.LogRows.batch_ends.Goals as goal

pub all_ends-requires-clause-end : goal.all_ends-requires-clause-end
all_ends-requires-clause-end c =
    let fits : SFits w64 c.self.inside.base = search rules in
    let base = to_z-of_z w64 c.self.inside.base fits in
    let count = ap record_count c.deref.ensures.value in
    let high = end_high _ c.self.invariant.0 in
    omega (arith, ints, base, count, high)
