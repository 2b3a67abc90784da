use Rattle.kz_journal.proofs.change.write_frame.Goals as goal

pub returns-in-Ok-clause-appended : goal.returns-in-Ok-clause-appended
returns-in-Ok-clause-appended g c = λ file told. let more = c.in-Ok.ensures.appended file told in (more.new, more.is, more.journal)
