use Rattle.std.proofs.Common.{◌≡◌, Ok, Err, ℤ, Result, MatchOption, sym, ap, ◌∙◌, subst, to_z-of_z}
use Rattle.std.proofs.lemmas.Result.{IfOk-from_err}
use Rattle.kz_types.specs.declared.fault.TreeFault.{TreeFault}
use Rattle.kz_spec_data.specs.Tree.{Tree, multi}
use Rattle.kz_spec_machine.specs.Driver.{write_ops}
use Rattle.kz_stages.specs.Writes.{write_outcome}
use Rattle.kz_stages.proofs.writing.ask_multi.Goals as goal

pub returns-in_err-multi-clause-said : goal.returns-in_err-multi-clause-said
returns-in_err-multi-clause-said g c = λ is. IfOk-from_err c.from_residual.result _ c.from_residual.ensures.0

pub returns-in_err-outcome_of_fault-in-Some-clause-said : goal.returns-in_err-outcome_of_fault-in-Some-clause-said
returns-in_err-outcome_of_fault-in-Some-clause-said g c = λ is. IfOk-from_err c.from_residual-in_err-outcome_of_fault-in-Some.result _ c.from_residual-in_err-outcome_of_fault-in-Some.ensures.0

pub returns-in-None-clause-said : goal.returns-in-None-clause-said
returns-in-None-clause-said g c = λ is.
    let r = c.args.remaining.now in
    let new = g.T.ZTree.tree c.multi.new.tree.inner in
    let said = multi (g.T.ZTree.tree c.args.tree.now.inner) c.args.made.now in
    let taken : said ≡ Ok new = subst (λ o. MatchOption o (said ≡ Ok new) (λ f. said ≡ Err f)) c.in-None.is c.in_ok-multi.ensures.said in
    c.outcome_of_taken.ensures ∙ sym (ap (λ (m : Result Tree TreeFault). write_outcome c.args.claim r m) taken)

pub returns-in-None-clause-fares : goal.returns-in-None-clause-fares
returns-in-None-clause-fares g c =
    let fares = c.in_ok-multi.ensures.fares in
    record { heard = fares.heard; counted = fares.counted }

pub returns-in_ok-outcome_of_fault-in-Some-clause-said : goal.returns-in_ok-outcome_of_fault-in-Some-clause-said
returns-in_ok-outcome_of_fault-in-Some-clause-said g c = λ is.
    let r = c.args.remaining.now in
    let new = g.T.ZTree.tree c.multi.new.tree.inner in
    let said = multi (g.T.ZTree.tree c.args.tree.now.inner) c.args.made.now in
    let refused = subst (λ o. MatchOption o (said ≡ Ok new) (λ f. said ≡ Err f)) c.in-Some.is c.in_ok-multi.ensures.said in
    let own = to_z-of_z c.ranges.claim in
    let made = is ∙ ap (λ (claim : ℤ). write_ops claim r.ops r.target) (sym own) in
    c.in_ok-outcome_of_fault-in-Some.ensures r made ∙ (ap (λ (claim : ℤ). write_outcome claim r (Err c.in-Some.fault)) own ∙ sym (ap (λ (m : Result Tree TreeFault). write_outcome c.args.claim r m) refused))
