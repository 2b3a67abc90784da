use Rattle.std.proofs.Common.{List, ℕ, ◌++◌, ap, ◌∙◌}
use Rattle.kz_stream.specs.Machines.{plain_place}
use Rattle.kz_stream.proofs.Takings.{summary_begins}
use Rattle.kz_stream.proofs.stream.with_summary.Goals as goal

pub returns-clause-begins : goal.returns-clause-begins
returns-clause-begins g c = λ o h.
    summary_begins c.args.printed.text.items c.extend_from_slice.new.self.items c.args.printed.next o (plain_place g.M.Machine.world c.args.place.now) c.in-GoesOn.is
    (c.in-Ok.ensures.items ∙ ap (λ (t : List ℕ). c.args.printed.text.items ++ t) (c.deref.ensures.value ∙ c.in_ok-summary.ensures)) h
