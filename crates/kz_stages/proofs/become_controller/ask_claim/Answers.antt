use Rattle.std.proofs.Common.{◌≡◌, Ok, Err, MatchOption, subst}
use Rattle.kz_spec_data.specs.Tree.{multi}
use Rattle.kz_stages.proofs.become_controller.ask_claim.Goals as goal

pub returns-in_ok-outcome_of_fault-in-Some-clause-said : goal.returns-in_ok-outcome_of_fault-in-Some-clause-said
returns-in_ok-outcome_of_fault-in-Some-clause-said g c =
    let old = g.T.ZTree.tree c.args.tree.now.inner in
    let new = g.T.ZTree.tree c.multi.new.tree.inner in
    let said = multi old c.args.ops.now in
    let refused = subst (λ o. MatchOption o (said ≡ Ok new) (λ f. said ≡ Err f)) c.in-Some.is c.in_ok-multi.ensures.said in
    rw refused (c.in_ok-outcome_of_fault-in-Some.ensures c.args.seen.now)
