use Rattle.std.proofs.Common.{◌≡◌, ◌∷◌, ◌++◌, [], length, sym, ap, ◌∙◌, append_assoc, append-nil, arith, w32, to_z, of_z, rules}
use Rattle.std.specs.Vec.Iter.{into_iter_items}
use Rattle.kz_log.proofs.Building.{batch_more, batch_done, nothing_left}
use Rattle.kz_log.proofs.builder.Builder.take_batch.Goals as goal

pub loop-item-preserved : goal.loop-item-preserved
loop-item-preserved c =
    let at = c.loop-item in
    let x = c.in-Some.item in
    let steps : into_iter_items at.item-iterator ≡ x ∷ into_iter_items c.next.new.self = c.in-Some.ensures.steps.0 in (
      append_assoc at.yielded (x ∷ []) _ ∙ rw (← steps) at.invariant.0,
      let was = at.invariant.1 in
          let gone = c.in-Some.ensures.steps.1 in
          let short = ap length steps in
          omega arith,
      let epoch : to_z w32 (of_z w32 c.args.batch.epoch) ≡ c.args.batch.epoch = search rules in
          batch_more c.args.batch c.args.self.now at.self c.take.new.self at.yielded x _ c.requires.first epoch at.invariant.2 c.in_ok-take.ensures,
    )

pub returns : goal.returns
returns c =
    let at = c.loop-item in
    let none = c.in-None.ensures.steps in
    let empty : into_iter_items at.item-iterator ≡ [] = nothing_left _ (sym at.invariant.1 ∙ none.0) in
    let all : at.yielded ≡ c.args.batch.items = sym (append-nil at.yielded) ∙ ap (λ r. at.yielded ++ r) (sym empty) ∙ at.invariant.0 in
    batch_done c.args.batch c.args.self.now at.self at.yielded c.requires.first all at.invariant.2
