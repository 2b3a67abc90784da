use Rattle.std.proofs.Common.{Err, subst}
use Rattle.kz_journal.specs.Held.{disk_of, letter_of, AnswersSeal}
use Rattle.kz_journal.proofs.sealing.write_seal.Goals as goal

pub returns-in-Err-Full-clause-sealed : goal.returns-in-Err-Full-clause-sealed
returns-in-Err-Full-clause-sealed g c = λ file told.
    subst (λ e. AnswersSeal (letter_of c.args.journal.now) file (Err e) (g.D.Disk.told (disk_of c.seal.new.self))) c.in-Err-Full.field-0-is (c.in-Err-Full.ensures.sealed file told)
