use Rattle.std.proofs.Common.{◌∙◌, not, ap, sym, to_z, of_z, w64, false, rules, arith}
use Rattle.std.specs.List.{list_any}
use Rattle.std.specs.Ordering.{int_eq}
use Rattle.std.proofs.lemmas.Int.{ints, to_z-of_z}
use mir.Val.{SFits}
use Rattle.kz_spec_data.specs.Log.{Log, record_count, batch_ends, entries}
use Rattle.kz_spec_data.specs.Settlement.{is_open}
use Rattle.kz_log.specs.Reading.{entries_after, is_open_by}
use Rattle.kz_log.proofs.Batches.{end_high}
use Rattle.kz_log.proofs.OpenAt.{open_at_is, among_ends, end_where}
use Rattle.kz_log.proofs.rows.LogRows.may_be_base.Goals as goal

pub is_open_at-requires : goal.is_open_at-requires
is_open_at-requires c =
    let fits : SFits w64 c.self.inside.base = search rules in
    let base = to_z-of_z w64 c.self.inside.base fits in
    let count = ap record_count c.deref-2.ensures.value in
    let high = end_high _ c.self.invariant.0 in
    omega (arith, ints, base, count, high)

pub returns : goal.returns
returns c =
    let at = c.args.offset in
    let l = c.args.self.now in
    let near = to_z w64 (of_z w64 at) in
    let fits : SFits w64 c.self.inside.base = search rules in
    let base = to_z-of_z w64 c.self.inside.base fits in
    let rows = c.self.inside.batches.items in
    let near_is = to_z-of_z w64 at c.ranges.offset in
    let is_end = sym (among_ends at (batch_ends l)) ∙ ap (λ ends. list_any (λ e. int_eq e at) ends) (sym (c.deref.ensures.value ∙ c.in_ok-ends.ensures))
    ∙ ap (λ o. list_any (λ e. int_eq e o) c.deref.result.now) (sym near_is) ∙ sym c.contains.ensures.value ∙ c.if-not-contains.false in
    let from = to_z w64 (of_z w64 c.self.inside.base) in
    ap not (c.is_open_at.ensures ∙ ap (λ bs. is_open_by near false (entries_after from bs)) c.deref-2.ensures.value ∙ ap (λ o. is_open_by near false (entries_after o rows)) base
    ∙ ap (λ o. is_open_by o false (entries_after c.self.inside.base rows)) near_is ∙ open_at_is _ c.self.invariant.0 at ∙ ap (λ (x : Log). is_open (entries x.batches) at) c.self.view_is)
    ∙ sym (end_where l at is_end)
