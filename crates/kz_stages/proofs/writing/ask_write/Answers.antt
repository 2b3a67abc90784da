use Rattle.std.proofs.Common.{◌∙◌, ℤ, List, Err, ap, false, subst, to_z-of_z}
use Rattle.std.specs.Prelude.{if◌then◌else◌}
use Rattle.std.proofs.lemmas.Result.{IfOk-weaker, err_from_is_err_and}
use Rattle.kz_types.specs.declared.tree.Op.{Op}
use Rattle.kz_spec_data.specs.Requests.{Multi, Either, IsTaken, ChangesDisk}
use Rattle.kz_spec_data.specs.Tree.{multi}
use Rattle.kz_spec_machine.specs.Driver.{reaches, write_ops}
use Rattle.kz_requests.specs.Fares.{IsAfterRequest, tree_after}
use Rattle.kz_requests.specs.Disks.{answer_of_made, TreeDisk}
use Rattle.kz_stages.specs.Writes.{write_outcome}
use Rattle.kz_stages.proofs.Requests.{unasked_tree, unasked_disk, unasked_stop}
use Rattle.kz_stages.proofs.Writings.{some_written}
use Rattle.kz_stages.proofs.writing.ask_write.Goals as goal

pub returns-in_err-made-clause-tree : goal.returns-in_err-made-clause-tree
returns-in_err-made-clause-tree g c =
    let none = err_from_is_err_and c.from_residual.result c.from_residual.ensures.1 in
    let r = c.args.remaining.now in
    let t = g.T.ZTree.tree c.args.tree.now.inner in
    unasked_tree (reaches c.args.tree.now.plan false) (tree_after (multi t (write_ops c.args.claim r.ops r.target)) t) t c.from_residual.result (none.1 ∙ ap Err none.2)

pub returns-in_err-made-clause-disk : goal.returns-in_err-made-clause-disk
returns-in_err-made-clause-disk g c =
    let none = err_from_is_err_and c.from_residual.result c.from_residual.ensures.1 in
    let r = c.args.remaining.now in
    let t = g.T.ZTree.tree c.args.tree.now.inner in
    let ops = write_ops c.args.claim r.ops r.target in
    unasked_disk (ChangesDisk (IsTaken (multi t ops)) (g.T.ZTree.payload_bytes t (Multi ops))) (answer_of_made (multi t ops)) c.args.tree.now.plan (g.T.ZTree.disk c.args.tree.now.inner) c.from_residual.result (none.1 ∙ ap Err none.2)

pub returns-in_err-made-clause-stop : goal.returns-in_err-made-clause-stop
returns-in_err-made-clause-stop g c = λ failed.
    let none = err_from_is_err_and c.from_residual.result c.from_residual.ensures.1 in
    absurd (unasked_stop c.from_residual.result (none.1 ∙ ap Err none.2) failed)

pub ask_multi-requires : goal.ask_multi-requires
ask_multi-requires g c = some_written _ c.args.remaining.now c.deref.result.now (c.deref.ensures.value ∙ c.in_ok-made.ensures)

pub returns-clause-said : goal.returns-clause-said
returns-clause-said g c =
    let r = c.args.remaining.now in
    let own = to_z-of_z c.ranges.claim in
    let made = c.deref.ensures.value ∙ c.in_ok-made.ensures in
    let all = made ∙ ap (λ (claim : ℤ). write_ops claim r.ops r.target) own in
    IfOk-weaker c.ask_multi.result _ _ (λ written is. is ∙ (λ i. write_outcome (own i) r (multi (g.T.ZTree.tree c.args.tree.now.inner) (all i)))) (c.ask_multi.ensures.said made)

pub returns-clause-tree : goal.returns-clause-tree
returns-clause-tree g c =
    let r = c.args.remaining.now in
    let t = g.T.ZTree.tree c.args.tree.now.inner in
    let new = g.T.ZTree.tree c.ask_multi.new.tree.inner in
    let all = c.deref.ensures.value ∙ c.in_ok-made.ensures ∙ ap (λ (claim : ℤ). write_ops claim r.ops r.target) (to_z-of_z c.ranges.claim) in
    subst (λ (ops : List Op). IsAfterRequest (reaches c.args.tree.now.plan false) (tree_after (multi t ops) t) t c.ask_multi.result new) all c.ask_multi.ensures.tree

pub returns-clause-fares : goal.returns-clause-fares
returns-clause-fares g c = c.ask_multi.ensures.fares

pub returns-clause-disk : goal.returns-clause-disk
returns-clause-disk g c =
    let r = c.args.remaining.now in
    let t = g.T.ZTree.tree c.args.tree.now.inner in
    let old = g.T.ZTree.disk c.args.tree.now.inner in
    let new = g.T.ZTree.disk c.ask_multi.new.tree.inner in
    let all = c.deref.ensures.value ∙ c.in_ok-made.ensures ∙ ap (λ (claim : ℤ). write_ops claim r.ops r.target) (to_z-of_z c.ranges.claim) in
    subst (λ (ops : List Op). TreeDisk (ChangesDisk (IsTaken (multi t ops)) (g.T.ZTree.payload_bytes t (Multi ops))) (answer_of_made (multi t ops)) c.args.tree.now.plan c.ask_multi.result old new) all c.ask_multi.ensures.disk

pub returns-clause-stop : goal.returns-clause-stop
returns-clause-stop g c = λ failed.
    let r = c.args.remaining.now in
    let t = g.T.ZTree.tree c.args.tree.now.inner in
    let left = g.T.ZTree.left c.ask_multi.new.tree.inner in
    let all = c.deref.ensures.value ∙ c.in_ok-made.ensures ∙ ap (λ (claim : ℤ). write_ops claim r.ops r.target) (to_z-of_z c.ranges.claim) in
    subst (λ (ops : List Op). Either t (if reaches c.args.tree.now.plan false then tree_after (multi t ops) t else t) left) all (c.ask_multi.ensures.stop failed)
