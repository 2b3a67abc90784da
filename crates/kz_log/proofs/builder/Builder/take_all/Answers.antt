use Rattle.std.proofs.Common.{◌≡◌, ◌∷◌, ◌++◌, [], length, sym, ap, ◌∙◌, append_assoc, arith}
use Rattle.std.specs.Vec.Iter.{into_iter_items}
use Rattle.kz_types.specs.declared.limits.TheConstants.{MAX_LONG}
use Rattle.kz_log.proofs.Building.{all_more, all_first, all_room}
use Rattle.kz_log.proofs.builder.Builder.take_all.Goals as goal

pub take_batch-requires-clause-first : goal.take_batch-requires-clause-first
take_batch-requires-clause-first c =
    let at = c.loop-batch in
    let rest = into_iter_items c.next.new.self in
    all_first c.args.self.now.position at.self.position at.yielded rest c.args.batches.items c.in-Some.batch c.requires.follow (ap (λ r. at.yielded ++ r) (sym c.in-Some.ensures.steps.0) ∙ at.invariant.0) at.invariant.2.position

pub take_batch-requires-clause-fits : goal.take_batch-requires-clause-fits
take_batch-requires-clause-fits c =
    let at = c.loop-batch in
    let rest = into_iter_items c.next.new.self in
    all_room c.args.self.now.position MAX_LONG at.yielded rest c.args.batches.items c.in-Some.batch c.requires.follow c.requires.fits (ap (λ r. at.yielded ++ r) (sym c.in-Some.ensures.steps.0) ∙ at.invariant.0)

pub loop-batch-preserved : goal.loop-batch-preserved
loop-batch-preserved c =
    let at = c.loop-batch in
    let x = c.in-Some.batch in
    let steps : into_iter_items at.batch-iterator ≡ x ∷ into_iter_items c.next.new.self = c.in-Some.ensures.steps.0 in (
      append_assoc at.yielded (x ∷ []) _ ∙ rw (← steps) at.invariant.0,
      let was = at.invariant.1 in
          let gone = c.in-Some.ensures.steps.1 in
          let short = ap length steps in
          omega arith,
      all_more c.args.self.now at.self c.take_batch.new.self at.yielded x at.invariant.2 c.in_ok-take_batch.ensures,
    )
