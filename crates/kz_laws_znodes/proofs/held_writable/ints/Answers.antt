use Rattle.std.proofs.Common.{subst, pos, get_or, rules, w32}
use Rattle.std.specs.List.{All}
use Rattle.std.proofs.lemmas.Int.{to_z-of_z}
use Rattle.std.proofs.lemmas.List.{take_all}
use Rattle.std.proofs.lemmas.List.Elements.{All-more}
use mir.Val.{SFits}
use Rattle.kz_laws_znodes.specs.Writable.{FitsInt}
use Rattle.kz_laws_znodes.proofs.held_writable.ints.Goals as goal

pub loop-item-preserved : goal.loop-item-preserved
loop-item-preserved c =
    let number = get_or c.args.numbers.now c.loop-item.item-index (pos 0) in
    let fits : SFits w32 number = search rules in
    All-more FitsInt c.args.numbers.now c.loop-item.item-index (pos 0) c.loop-item-test.true c.loop-item.invariant (subst FitsInt (to_z-of_z w32 number fits) c.int.ensures)

pub returns : goal.returns
returns c = subst (All FitsInt) (take_all c.loop-item.item-index c.args.numbers.now c.loop-item-test.false) c.loop-item.invariant
