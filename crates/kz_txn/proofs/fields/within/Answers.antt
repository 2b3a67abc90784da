use Rattle.std.proofs.Common.{◌≡◌, ◌-◌, sym, ◌∙◌, arith}
use Rattle.kz_txn.proofs.Numbers.{digits_done}
use Rattle.kz_txn.proofs.fields.within.Goals as goal

pub returns-clause-read : goal.returns-clause-read
returns-clause-read c =
    let none : c.args.size - c.loop-i.i ≡ 0 = omega arith in
    sym c.loop-i.invariant.read ∙ digits_done (c.args.size - c.loop-i.i) c.loop-i.number c.args.least c.args.most c.loop-i.reader.at c.loop-i.reader.left none
