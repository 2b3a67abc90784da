use Rattle.std.proofs.Common.{◌<◌, length, arith}
use Rattle.kz_disk.proofs.Moments.{weaker}
use Rattle.kz_journal.specs.Closings.{StillEnds}
use Rattle.kz_journal.proofs.Crashes.{torn_once}
use Rattle.kz_journal.proofs.Shutting.{spoiled_ends}
use Rattle.kz_journal.proofs.close.spoil.Goals as goal

pub returns-clause-any_moment : goal.returns-clause-any_moment
returns-clause-any_moment g c = λ summed file told shut.
    let room = c.requires.within file told in
    let stands : c.args.gate < length file = omega arith in
    weaker g.D.Disk.moment g.D.Disk.left_since _ _ _ (StillEnds summed c.args.gate file) c.write_durably.ensures.any_moment
    (λ left torn. spoiled_ends summed c.args.gate _ file left stands shut (torn_once (g.D.Disk.told c.args.disk.now) (g.D.Disk.may_leave c.args.disk.now) _ _ file left c.requires.settled told torn))
