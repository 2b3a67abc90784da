use Rattle.std.proofs.Common.{◌≤◌, length, take, drop, sym, arith, length-drop}
use Rattle.kz_journal.proofs.Gates.{few_here, shut_here}
use Rattle.kz_journal.proofs.Heads.{not_open}
use Rattle.kz_journal.proofs.find.find.Goals as goal

pub returns-then-place-lt5-clause-found : goal.returns-then-place-lt5-clause-found
returns-then-place-lt5-clause-found g c = λ file told measured. sym (few_here c.args.place.summed c.args.place.gate c.args.place.length file measured.long c.if-place-lt5.true)

pub returns-then-head-clause-found : goal.returns-then-head-clause-found
returns-then-head-clause-found g c = λ file told measured.
    let here = drop c.args.place.gate file in
    let long = measured.long in
    let rest = length-drop c.args.place.gate file in
    let some : 5 ≤ length here = omega arith in
    sym (shut_here c.args.place.summed (take c.args.place.gate file) here (not_open c.in-Ok.head here some (c.in-Ok.ensures.head file told) c.if-head.true))
