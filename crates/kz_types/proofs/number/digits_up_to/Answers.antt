use Rattle.std.proofs.Common.{◌+◌, sym, arith}
use Rattle.kz_types.proofs.NumberLemmas.{next_place, too_large}
use Rattle.kz_types.proofs.number.digits_up_to.Goals as goal

pub returns-then-next-most-clause-value : goal.returns-then-next-most-clause-value
returns-then-next-most-clause-value c = sym (too_large c.args.text.now c.args.most _ (c.loop-at.at + 1)
    (next_place c.args.text.now c.loop-at.number c.loop-at.at c.loop-at.invariant.place c.loop-at-test.true (let h = c.if-byte-lt48.false in omega arith) (let h = c.if-byte-gt57.false in omega arith))
    (let h = c.if-next-most.true in omega arith))
