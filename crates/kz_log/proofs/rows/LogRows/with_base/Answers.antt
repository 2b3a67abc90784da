use Rattle.std.proofs.Common.{◌∙◌, ◌-◌, ap, sym, subst, drop, filter, length, w32, w64, rules, arith}
use Rattle.std.proofs.lemmas.Int.{to_z-of_z}
use Rattle.std.proofs.lemmas.List.{take_all, length-drop}
use mir.Val.{SFits}
use Rattle.kz_spec_data.specs.Log.{Log, IsLog, begins_after, record_count}
use Rattle.kz_log.proofs.Batches.{count_fits}
use Rattle.kz_laws_machine.proofs.Allowed.{based_is_log}
use Rattle.kz_log.proofs.Snapshots.{based_is}
use Rattle.kz_log.proofs.rows.LogRows.with_base.Goals as goal

pub count_of-count-requires : goal.count_of-count-requires
count_of-count-requires c =
    let base = to_z-of_z w64 c.args.base c.ranges.base in
    let place = c.place_after.result in
    let rest = c.deref.result.now in
    let kept = subst IsLog c.self.view_is c.self.invariant.0 in
    let is =
    c.in_ok-batches.ensures ∙ take_all (length rest - place) (drop place rest) (omega (arith, length-drop place rest)) ∙ ap (drop place) (c.deref.ensures.value ∙ ap (λ (l : Log). l.batches) c.self.view_is)
    ∙ c.place_after.ensures.place ∙ ap (λ o. filter (begins_after o) c.args.self.now.batches) base in
    let fits = count_fits _ (based_is_log c.args.self.now c.args.base c.args.image kept c.requires.may c.requires.empty) in
    let same = ap record_count (c.deref-2.ensures.value ∙ is) in
    omega (arith, fits, same)

pub invariant_of-result : goal.invariant_of-result
invariant_of-result c =
    let base = to_z-of_z w64 c.args.base c.ranges.base in
    let place = c.place_after.result in
    let rest = c.deref.result.now in
    let kept = subst IsLog c.self.view_is c.self.invariant.0 in
    let is =
    c.in_ok-batches.ensures ∙ take_all (length rest - place) (drop place rest) (omega (arith, length-drop place rest)) ∙ ap (drop place) (c.deref.ensures.value ∙ ap (λ (l : Log). l.batches) c.self.view_is)
    ∙ c.place_after.ensures.place ∙ ap (λ o. filter (begins_after o) c.args.self.now.batches) base in
    let epoch : SFits w32 c.self.inside.epoch = search rules in
    let made = based_is c.args.self.now _ _ _ c.args.base c.args.image _ c.self.view_is (to_z-of_z w32 c.self.inside.epoch epoch) base is in
    (subst IsLog (sym made) (based_is_log c.args.self.now c.args.base c.args.image kept c.requires.may c.requires.empty), c.count_of-count.ensures ∙ ap record_count c.deref-2.ensures.value)

pub returns-clause-base : goal.returns-clause-base
returns-clause-base c =
    let base = to_z-of_z w64 c.args.base c.ranges.base in
    let place = c.place_after.result in
    let rest = c.deref.result.now in
    let kept = subst IsLog c.self.view_is c.self.invariant.0 in
    let is =
    c.in_ok-batches.ensures ∙ take_all (length rest - place) (drop place rest) (omega (arith, length-drop place rest)) ∙ ap (drop place) (c.deref.ensures.value ∙ ap (λ (l : Log). l.batches) c.self.view_is)
    ∙ c.place_after.ensures.place ∙ ap (λ o. filter (begins_after o) c.args.self.now.batches) base in
    let epoch : SFits w32 c.self.inside.epoch = search rules in
    let made = based_is c.args.self.now _ _ _ c.args.base c.args.image _ c.self.view_is (to_z-of_z w32 c.self.inside.epoch epoch) base is in
    made

pub returns-clause-is_log : goal.returns-clause-is_log
returns-clause-is_log c =
    let base = to_z-of_z w64 c.args.base c.ranges.base in
    let place = c.place_after.result in
    let rest = c.deref.result.now in
    let kept = subst IsLog c.self.view_is c.self.invariant.0 in
    let is =
    c.in_ok-batches.ensures ∙ take_all (length rest - place) (drop place rest) (omega (arith, length-drop place rest)) ∙ ap (drop place) (c.deref.ensures.value ∙ ap (λ (l : Log). l.batches) c.self.view_is)
    ∙ c.place_after.ensures.place ∙ ap (λ o. filter (begins_after o) c.args.self.now.batches) base in
    let epoch : SFits w32 c.self.inside.epoch = search rules in
    let made = based_is c.args.self.now _ _ _ c.args.base c.args.image _ c.self.view_is (to_z-of_z w32 c.self.inside.epoch epoch) base is in
    subst IsLog (sym made) (based_is_log c.args.self.now c.args.base c.args.image kept c.requires.may c.requires.empty)
