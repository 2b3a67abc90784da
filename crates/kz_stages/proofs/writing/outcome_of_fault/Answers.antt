use Rattle.std.proofs.Common.{List, Err, sym, ap, ◌∙◌, w32, SFits, rules, to_z-of_z}
use Rattle.std.proofs.lemmas.Result.{IfOk-from_err}
use Rattle.kz_types.specs.declared.fault.TreeFault.{TreeFault}
use Rattle.kz_types.specs.declared.machine.Reply.TheVariants as reply
use Rattle.kz_types.specs.declared.tree.Op.{Op}
use Rattle.kz_spec_machine.specs.Driver.{path_at}
use Rattle.kz_stages.specs.Writes.{write_outcome, outcome_of_refused}
use Rattle.kz_stages.specs.declared.writing.WriteOutcome.TheVariants.{Stopped}
use Rattle.kz_stages.proofs.Writings.{other_fault}
use Rattle.kz_stages.proofs.writing.outcome_of_fault.Goals as goal

pub returns-in_err-path_at-in-Limit : goal.returns-in_err-path_at-in-Limit
returns-in_err-path_at-in-Limit c = λ r made. IfOk-from_err c.from_residual.result _ c.from_residual.ensures.0

pub returns-in-Refused : goal.returns-in-Refused
returns-in-Refused c = λ r made.
    let fits : SFits w32 c.in-Refused.code = search rules in
    c.outcome_of_refused.ensures
    ∙ ((λ i. outcome_of_refused (to_z-of_z c.ranges.claim i) c.in-Refused.index (to_z-of_z fits i))
    ∙ sym (ap (λ (f : TreeFault). write_outcome c.args.claim r (Err f)) c.in-Refused.is))

pub returns-in_ok-path_at-in-Limit : goal.returns-in_ok-path_at-in-Limit
returns-in_ok-path_at-in-Limit c = λ r made.
    ap (λ path. Stopped (reply.Limit path)) (c.in_ok-path_at-in-Limit.ensures ∙ ap (λ (ops : List Op). path_at ops c.in-Limit.index) made)
    ∙ sym (ap (λ (f : TreeFault). write_outcome c.args.claim r (Err f)) c.in-Limit.is)

pub returns-in_default : goal.returns-in_default
returns-in_default c = λ r made. other_fault c.args.claim r c.args.fault c.in_default.not-Refused c.in_default.not-Limit
