use Rattle.std.proofs.Common.{ap, ◌∙◌}
use Rattle.kz_spec_data.specs.Difference.{chunk}
use Rattle.kz_resync.specs.Remainders.{Remainder}
use Rattle.kz_resync.proofs.remaining.Remaining.next.Goals as goal

pub returns : goal.returns
returns c = c.chunk.ensures ∙ ap chunk (c.as_slice.ensures ∙ ap (λ (r : Remainder). r.ops) c.self.view_is)
