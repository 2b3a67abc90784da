use Rattle.std.proofs.Common.{◌<◌, ◌≤◌, length, take, drop, sym, ◌∙◌, arith, length-drop}
use Rattle.kz_journal.proofs.Gates.{seal_cut, seal_here, seal_damaged}
use Rattle.kz_journal.proofs.find.find_seal.Goals as goal

pub returns-then-place-lt9-clause-found : goal.returns-then-place-lt9-clause-found
returns-then-place-lt9-clause-found g c = λ file told measured head mark.
    let here = drop c.args.place.gate file in
    let long = measured.long in
    let rest = length-drop c.args.place.gate file in
    let cut : length here < 9 = omega arith in
    sym (seal_cut c.args.size here head (take c.args.place.gate file) mark cut)

pub returns-then-sum-place-clause-found : goal.returns-then-sum-place-clause-found
returns-then-sum-place-clause-found g c = λ file told measured head mark.
    let here = drop c.args.place.gate file in
    let long = measured.long in
    let rest = length-drop c.args.place.gate file in
    let whole : 9 ≤ length here = omega arith in
    sym (seal_here c.args.size here head (take c.args.place.gate file) c.in-Ok.sum mark whole (c.in-Ok.ensures.sum file told) (c.if-sum-place.true ∙ measured.sum c.requires.plain))

pub returns-else-sum-place-clause-found : goal.returns-else-sum-place-clause-found
returns-else-sum-place-clause-found g c = λ file told measured head mark.
    let here = drop c.args.place.gate file in
    let long = measured.long in
    let rest = length-drop c.args.place.gate file in
    let whole : 9 ≤ length here = omega arith in
    sym (seal_damaged c.args.size here head (take c.args.place.gate file) c.in-Ok.sum mark whole (c.in-Ok.ensures.sum file told) (λ same. c.if-sum-place.false (same ∙ sym (measured.sum c.requires.plain))))
