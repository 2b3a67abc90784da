use Rattle.std.proofs.Common.{◌≡◌, sym, ap, ◌∙◌, to_z-of_z}
use Rattle.kz_spec_data.specs.Tree.{parent_of}
use Rattle.kz_tree.proofs.Owned.{none_is_touched, parent_touched, parent_left, all_touched}
use Rattle.kz_tree.proofs.sessions.without_owned.Goals as goal

pub loop-row-init : goal.loop-row-init
loop-row-init c =
    none_is_touched _ _ c.args.rows.now c.into_iter-row-iterator.result c.in_ok-made.made c.in_ok-made.ensures.rise c.in_ok-made.ensures.value
    (c.into_iter-row-iterator.ensures.into_iter_gives ∙ c.ephemeral-row-items.ensures.items)

pub loop-row-preserved-in-Continue-branch-2 : goal.loop-row-preserved-in-Continue-branch-2
loop-row-preserved-in-Continue-branch-2 c =
    let path : c.parent_of.result.now ≡ parent_of c.in-Some.row.now.path = c.parent_of.ensures ∙ ap parent_of c.bytes.ensures.value in
    parent_touched _ _ c.args.rows.now c.loop-row.row-iterator c.next.new.self c.loop-row.made c.touch.new.self c.in-Some.row.now c.loop-row.invariant c.in-Some.ensures.steps (sym c.is_owned.ensures ∙ c.if-is_owned.true)
    (rw path at c.in_ok-touch.ensures.ok)

pub loop-row-preserved : goal.loop-row-preserved
loop-row-preserved c =
    parent_left _ _ c.args.rows.now c.loop-row.row-iterator c.next.new.self c.loop-row.made c.in-Some.row.now c.loop-row.invariant c.in-Some.ensures.steps (sym c.is_owned.ensures ∙ c.if-is_owned.false)

pub returns-clause-value : goal.returns-clause-value
returns-clause-value c =
    all_touched c.args.zxid c.args.session c.args.rows.now c.loop-row.row-iterator c.loop-row.made (rw (to_z-of_z c.ranges.session, to_z-of_z c.ranges.zxid) at c.loop-row.invariant) c.in-None.ensures.steps.0
