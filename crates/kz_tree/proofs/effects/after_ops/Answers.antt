use Rattle.std.proofs.Common.{rules, ◌≡◌, Result, Ok, Some, None, option_map, List, [], sym, ap, ◌∙◌, subst, to_z-of_z}
use Rattle.kz_types.specs.declared.tree.Row.{Row}
use Rattle.kz_types.specs.declared.fault.TreeFault.{TreeFault}
use Rattle.kz_spec_data.specs.Tree.{op_refusal}
use Rattle.kz_tree.specs.Refusals.{IsMultiFaultOf, meaning}
use Rattle.kz_tree.proofs.Steps.{op_accepted, op_refused, all_accepted}
use Rattle.kz_tree.proofs.effects.after_ops.Goals as goal

pub returns-in-Some-clause-err : goal.returns-in-Some-clause-err
returns-in-Some-clause-err c =
    let why : Some (meaning c.in-Some.refusal) ≡ op_refusal c.args.sessions.now c.index-ops-index.result c.loop-index.rows = ap (option_map meaning) (sym c.in-Some.is) ∙ c.in-Ok.ensures in
    subst (λ (said : Result (List Row) TreeFault). IsMultiFaultOf said c.fault_of.result)
    (sym (op_refused c.args.sessions.now c.args.zxid c.args.ops.now c.args.rows c.loop-index.index c.loop-index.rows c.index-ops-index.result (meaning c.in-Some.refusal) (Ok []) (rw (to_z-of_z c.ranges.zxid) at c.loop-index.invariant) c.loop-index-test.true c.index-ops-index.is why))
    c.fault_of.ensures

pub loop-index-preserved : goal.loop-index-preserved
loop-index-preserved c =
    let none : op_refusal c.args.sessions.now c.index-ops-index.result c.loop-index.rows ≡ None = sym c.in-Ok.ensures ∙ ap (option_map meaning) c.in_default-refusal.is in
    rw (to_z-of_z c.ranges.zxid) (op_accepted c.args.sessions.now c.args.zxid c.args.ops.now c.args.rows c.loop-index.index c.loop-index.rows c.apply.new.rows c.index-ops-index.result (rw (to_z-of_z c.ranges.zxid) at c.loop-index.invariant) c.loop-index-test.true c.index-ops-index.is none
    (search (rules, c.in-Ok-apply.ensures)))

pub returns-clause-ok : goal.returns-clause-ok
returns-clause-ok c = all_accepted c.args.sessions.now c.args.zxid c.args.ops.now c.args.rows c.loop-index.index c.loop-index.rows (rw (to_z-of_z c.ranges.zxid) at c.loop-index.invariant) c.loop-index-test.false
