use Rattle.kz_load.proofs.Steps.{from_start}
use Rattle.kz_load.proofs.reader.Reader.new.Goals as goal

pub returns-clause-coming : goal.returns-clause-coming
returns-clause-coming c = λ input. from_start c.new.result.items input c.new.ensures.items
