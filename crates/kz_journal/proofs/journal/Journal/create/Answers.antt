use Rattle.std.proofs.Common.{refl}
use Rattle.kz_journal.proofs.Created.{new_says_none}
use Rattle.kz_journal.proofs.journal.Journal.create.Goals as goal

pub returns-in-Ok-clause-made : goal.returns-in-Ok-clause-made
returns-in-Ok-clause-made g c = record {
  letter_is = refl;
  up = refl;
  ended = refl;
  none = λ file told. new_says_none c.args.letter (g.D.Disk.told c.args.disk) (g.D.Disk.told c.create_at.new.disk) c.in-Ok.ensures.written file told;
}
