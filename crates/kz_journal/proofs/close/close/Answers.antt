use Rattle.std.proofs.Common.{◌+◌, ◌<◌, length, drop, ◌∙◌, arith}
use Rattle.kz_disk.proofs.Moments.{joined}
use Rattle.kz_journal.specs.Closings.{StillEnds}
use Rattle.kz_journal.proofs.Shutting.{idle_by_few, idle_by_end, still_there, open_by_byte, shut_by_byte}
use Rattle.kz_journal.proofs.close.close.Goals as goal

pub returns-then-place-clause-any_moment : goal.returns-then-place-clause-any_moment
returns-then-place-clause-any_moment g c = λ file told measured none small.
    let long = measured.long in
    let few : length file < c.args.place.gate + 5 = omega arith in
    c.shut.ensures.any_moment c.args.place.summed file told (idle_by_few c.args.place.summed c.args.place.gate file few)

pub returns-then-gate-clause-any_moment : goal.returns-then-gate-clause-any_moment
returns-then-gate-clause-any_moment g c = λ file told measured none small.
    let p = c.args.place in
    let room = c.requires.room in
    let long = measured.long in
    let stands : p.gate < length file = omega arith in
    let opens = open_by_byte (drop p.gate file) c.in-Ok.gate (c.in-Ok.ensures.byte file told) c.if-gate.true in
    joined g.D.Disk.moment g.D.Disk.left_since c.args.disk.now c.read_gate.new.disk _ (g.D.Disk.may_leave c.args.disk.now) (StillEnds p.summed p.gate file) (StillEnds p.summed p.gate file)
    c.in-Ok.ensures.reads.moments (c.shut-then-gate.ensures.any_moment p.summed file (c.in-Ok.ensures.reads.same ∙ told) (idle_by_end p.summed p.gate file stands opens none))
    (λ left now. still_there (g.D.Disk.told c.args.disk.now) (g.D.Disk.may_leave c.args.disk.now) p.summed p.gate file left c.requires.settled told none now) (λ left ends. ends)

pub returns-then-place-lt5-clause-any_moment : goal.returns-then-place-lt5-clause-any_moment
returns-then-place-lt5-clause-any_moment g c = λ file told measured none small.
    let p = c.args.place in
    let room = c.requires.room in
    let long = measured.long in
    let few : length file < p.gate + 5 = omega arith in
    joined g.D.Disk.moment g.D.Disk.left_since c.args.disk.now c.read_gate.new.disk _ (g.D.Disk.may_leave c.args.disk.now) (StillEnds p.summed p.gate file) (StillEnds p.summed p.gate file)
    c.in-Ok.ensures.reads.moments (c.shut-then-place-lt5.ensures.any_moment p.summed file (c.in-Ok.ensures.reads.same ∙ told) (idle_by_few p.summed p.gate file few))
    (λ left now. still_there (g.D.Disk.told c.args.disk.now) (g.D.Disk.may_leave c.args.disk.now) p.summed p.gate file left c.requires.settled told none now) (λ left ends. ends)

pub returns-clause-any_moment : goal.returns-clause-any_moment
returns-clause-any_moment g c = λ file told measured none small.
    let p = c.args.place in
    let shut = shut_by_byte (drop p.gate file) c.in-Ok.gate (c.in-Ok.ensures.byte file told) c.if-gate.false in
    joined g.D.Disk.moment g.D.Disk.left_since c.args.disk.now c.read_gate.new.disk _ (g.D.Disk.may_leave c.args.disk.now) (StillEnds p.summed p.gate file) (StillEnds p.summed p.gate file)
    c.in-Ok.ensures.reads.moments (c.spoil_and_shut.ensures.any_moment p.summed file (c.in-Ok.ensures.reads.same ∙ told) shut small)
    (λ left now. still_there (g.D.Disk.told c.args.disk.now) (g.D.Disk.may_leave c.args.disk.now) p.summed p.gate file left c.requires.settled told none now) (λ left ends. ends)
