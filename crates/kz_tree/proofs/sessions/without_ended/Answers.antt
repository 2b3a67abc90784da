use Rattle.std.proofs.Common.{sym, ◌∙◌, to_z-of_z}
use Rattle.kz_tree.proofs.Owned.{all_left, left_out, none_left}
use Rattle.kz_tree.proofs.sessions.without_ended.Goals as goal

pub loop-row-init : goal.loop-row-init
loop-row-init c =
    all_left _ c.args.rows.now c.into_iter-row-iterator.result c.in_ok-made.made c.ephemeral-row-items.ensures.rise c.in_ok-made.ensures (c.into_iter-row-iterator.ensures.into_iter_gives ∙ c.ephemeral-row-items.ensures.items)

pub loop-row-preserved-in-Continue-branch-2 : goal.loop-row-preserved-in-Continue-branch-2
loop-row-preserved-in-Continue-branch-2 c =
    left_out _ c.args.rows.now c.loop-row.row-iterator c.next.new.self c.loop-row.made c.take_out.new.self c.in-Some.row.now c.loop-row.invariant c.in-Some.ensures.steps (sym c.is_owned.ensures ∙ c.if-is_owned.true)
    (rw c.bytes.ensures.value at c.in_ok-take_out.ensures.ok)

pub returns-clause-value : goal.returns-clause-value
returns-clause-value c = none_left c.args.session c.args.rows.now c.loop-row.row-iterator c.loop-row.made (rw (to_z-of_z c.ranges.session) at c.loop-row.invariant) c.in-None.ensures.steps.0
