use Rattle.std.proofs.Common.{◌<◌, ◌∙◌, length, refl, arith}
use Rattle.kz_journal.proofs.Headers.{short_file}
use Rattle.kz_journal.proofs.open.open_at.Goals as goal

pub returns-then-long-lt16-clause-refused : goal.returns-then-long-lt16-clause-refused
returns-then-long-lt16-clause-refused g c = (
  refl,
  c.in-Ok.ensures.same,
  λ file told. let long = c.in-Ok.ensures.length file told in let short : length file < 16 = omega arith in short_file c.args.letter file short,
)

pub returns-in-Some-clause-header : goal.returns-in-Some-clause-header
returns-in-Some-clause-header g c = λ file told. c.in-Some.ensures.header file (c.in-Ok-read_header.ensures.header file (c.in-Ok.ensures.same ∙ told))

pub returns-in-None-clause-refused : goal.returns-in-None-clause-refused
returns-in-None-clause-refused g c = (
  refl,
  c.in-Ok-read_header.ensures.reads.same ∙ c.in-Ok.ensures.same,
  λ file told. c.place_of.ensures.none c.in-None.is file (c.in-Ok-read_header.ensures.header file (c.in-Ok.ensures.same ∙ told)),
)
