use Rattle.std.proofs.Common.{◌≡◌, Result, Ok, OnOk, IfErr, sym, ◌∙◌, subst}
use Rattle.kz_types.specs.declared.fault.TreeFault.{TreeFault}
use Rattle.kz_spec_data.specs.Tree.{Tree as TreeValue}
use Rattle.kz_spec_data.specs.Requests.{Between}
use Rattle.kz_exit.specs.Requests.{IsMultiFault}
use Rattle.kz_exit.proofs.Sending.{none_sent, none_made, some_sent, some_made}
use Rattle.kz_exit.proofs.requests.send.Goals as goal

-- there is none

pub returns-then-is_empty-clause-ok : goal.returns-then-is_empty-clause-ok
returns-then-is_empty-clause-ok g c = none_sent (g.T.ZTree.tree c.args.tree.now) c.args.ops.now (sym c.is_empty.ensures ∙ c.if-is_empty.true)

pub returns-then-is_empty-clause-disk : goal.returns-then-is_empty-clause-disk
returns-then-is_empty-clause-disk g c =
    none_made (g.T.ZTree.tree c.args.tree.now) g.T.ZTree.payload_bytes c.args.ops.now (g.T.ZTree.disk c.args.tree.now) (sym c.is_empty.ensures ∙ c.if-is_empty.true)

-- there are some

pub returns-else-is_empty-clause-ok : goal.returns-else-is_empty-clause-ok
returns-else-is_empty-clause-ok g c =
    subst (λ (made : Result TreeValue TreeFault). OnOk c.ask.result (made ≡ Ok (g.T.ZTree.tree c.ask.new.tree)))
    (sym (some_sent (g.T.ZTree.tree c.args.tree.now) c.args.ops.now (sym c.is_empty.ensures ∙ c.if-is_empty.false))) c.ask.ensures.ok

pub returns-else-is_empty-clause-err : goal.returns-else-is_empty-clause-err
returns-else-is_empty-clause-err g c =
    subst (λ (made : Result TreeValue TreeFault). IfErr c.ask.result (IsMultiFault made))
    (sym (some_sent (g.T.ZTree.tree c.args.tree.now) c.args.ops.now (sym c.is_empty.ensures ∙ c.if-is_empty.false))) c.ask.ensures.err

pub returns-else-is_empty-clause-disk : goal.returns-else-is_empty-clause-disk
returns-else-is_empty-clause-disk g c =
    some_made (g.T.ZTree.tree c.args.tree.now) g.T.ZTree.payload_bytes c.args.ops.now c.ask.result (g.T.ZTree.disk c.args.tree.now) (g.T.ZTree.disk c.ask.new.tree) (sym c.is_empty.ensures ∙ c.if-is_empty.false) c.ask.ensures.disk

pub returns-else-is_empty-clause-stop : goal.returns-else-is_empty-clause-stop
returns-else-is_empty-clause-stop g c =
    let t = g.T.ZTree.tree c.args.tree.now in
    λ failed. subst (λ (made : Result TreeValue TreeFault). Between t made (g.T.ZTree.left c.ask.new.tree))
    (sym (some_sent t c.args.ops.now (sym c.is_empty.ensures ∙ c.if-is_empty.false))) (c.ask.ensures.stop failed)
