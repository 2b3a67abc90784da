use Rattle.std.proofs.Common.{true, false, rules, refl, ap, ◌∙◌, SFits, w64, to_z-of_z}
use Rattle.kz_types.specs.declared.machine.Recorded.{Recorded}
use Rattle.kz_spec_data.specs.Difference.{chunk}
use Rattle.kz_stages.proofs.Writings.{taken_is}
use Rattle.kz_stages.proofs.writing.outcome_of_taken.Goals as goal

pub returns-then-is_last : goal.returns-then-is_last
returns-then-is_last c =
    let r = c.args.remaining.now in
    let fits : SFits w64 c.target.result.offset = search rules in
    taken_is r true _ (chunk r.ops) c.if-is_last.ensures (to_z-of_z fits ∙ ap (λ (t : Recorded). t.offset) c.target.ensures) refl

pub returns-else-is_last : goal.returns-else-is_last
returns-else-is_last c =
    let r = c.args.remaining.now in
    taken_is r false r.target.offset c.next.result.now c.if-is_last.ensures refl c.next.ensures
