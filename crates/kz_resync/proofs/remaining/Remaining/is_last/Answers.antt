use Rattle.std.proofs.Common.{length, leb, ap, ◌∙◌}
use Rattle.kz_resync.specs.Remainders.{Remainder}
use Rattle.kz_resync.proofs.remaining.Remaining.is_last.Goals as goal

pub returns : goal.returns
returns c =
    ap (λ ops. leb (length ops) (length c.next.result.now)) (c.as_slice.ensures ∙ ap (λ (r : Remainder). r.ops) c.self.view_is)
    ∙ ap (λ ops. leb (length c.args.self.now.ops) (length ops)) c.next.ensures
