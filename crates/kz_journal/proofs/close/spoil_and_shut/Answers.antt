use Rattle.std.proofs.Common.{◌+◌, arith}
use Rattle.kz_disk.specs.Disks.{with_piece}
use Rattle.kz_disk.proofs.Moments.{joined}
use Rattle.kz_journal.specs.Closings.{StillEnds, unending}
use Rattle.kz_journal.proofs.Crashes.{told_after, still_within}
use Rattle.kz_journal.proofs.Shutting.{idle_once_spoiled, ends_as_before}
use Rattle.kz_journal.proofs.close.spoil_and_shut.Goals as goal

pub shut-requires-clause-within : goal.shut-requires-clause-within
shut-requires-clause-within g c =
    still_within (g.D.Disk.told c.args.disk.now) _ (c.args.gate + 1) c.args.gate unending (λ file told. let room = c.requires.within file told in omega arith) c.in-Ok.ensures.written (omega arith)

pub returns-in_default-clause-any_moment : goal.returns-in_default-clause-any_moment
returns-in_default-clause-any_moment g c = λ summed file told shut small. c.spoil.ensures.any_moment summed file told shut

pub returns-clause-any_moment : goal.returns-clause-any_moment
returns-clause-any_moment g c = λ summed file told shut small.
    let room = c.requires.within file told in
    let spoiled = with_piece (c.args.gate + 1) unending file in
    joined g.D.Disk.moment g.D.Disk.left_since _ c.spoil.new.disk _ (StillEnds summed c.args.gate file) (StillEnds summed c.args.gate spoiled) (StillEnds summed c.args.gate file)
    (c.spoil.ensures.any_moment summed file told shut)
    (c.shut.ensures.any_moment summed spoiled (told_after (g.D.Disk.told c.args.disk.now) _ (with_piece (c.args.gate + 1) unending) file c.in-Ok.ensures.written told) (idle_once_spoiled summed c.args.gate file room small))
    (λ left ends. ends) (λ left ends. ends_as_before summed c.args.gate file left room ends)
