use Rattle.std.proofs.Common.{length, drop, ap, ◌∙◌}
use Rattle.kz_resync.specs.Remainders.{Remainder}
use Rattle.kz_resync.proofs.Rests.{dropped_chunk}
use Rattle.kz_resync.proofs.remaining.Remaining.done.Goals as goal

pub returns-clause-ops : goal.returns-clause-ops
returns-clause-ops c =
    c.finish.ensures
    ∙ (ap (λ ops. drop (length c.next-count.result.now) ops) (ap (λ (r : Remainder). r.ops) c.self.view_is)
    ∙ (ap (λ ops. drop (length ops) c.args.self.now.ops) c.next-count.ensures ∙ dropped_chunk c.args.self.now.ops))

pub returns-clause-target : goal.returns-clause-target
returns-clause-target c = ap (λ (r : Remainder). r.target) c.self.view_is
