use Rattle.std.proofs.Common.{◌≡◌, ◌∙◌, ◌+ℤ◌, ap, sym, pos, to_z, of_z, w64, rules, arith}
use Rattle.std.proofs.lemmas.Int.{ints, to_z-of_z}
use mir.Val.{SFits}
use Rattle.kz_spec_data.specs.Log.{end_of, record_count}
use Rattle.kz_log.proofs.Batches.{end_is, end_high}
use Rattle.kz_log.proofs.rows.LogRows.end.Goals as goal

pub offset_after-requires-clause-end : goal.offset_after-requires-clause-end
offset_after-requires-clause-end c =
    let fits : SFits w64 c.self.inside.base = search rules in
    let base = to_z-of_z w64 c.self.inside.base fits in
    let count = c.self.invariant.1 in
    let high = end_high _ c.self.invariant.0 in
    omega (arith, ints, base, count, high)

pub returns : goal.returns
returns c =
    let fits : SFits w64 c.self.inside.base = search rules in
    let base = to_z-of_z w64 c.self.inside.base fits in
    let count = c.self.invariant.1 in
    let made : SFits w64 c.offset_after.result = search rules in
    let same = to_z-of_z w64 c.offset_after.result made in
    let h : to_z w64 (of_z w64 c.offset_after.result) ≡ c.self.inside.base +ℤ pos (record_count c.self.inside.batches.items) = omega (arith, ints, base, count, same, c.offset_after.ensures) in
    h ∙ sym (end_is _ c.self.invariant.0) ∙ ap end_of c.self.view_is
