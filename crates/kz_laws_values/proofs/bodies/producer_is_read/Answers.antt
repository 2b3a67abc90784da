use Rattle.kz_laws_values.proofs.Producers.{producer_is_read, blank_is_read}
use Rattle.kz_laws_values.proofs.Ranges.{block_in_range}
use Rattle.kz_laws_values.proofs.bodies.producer_is_read.Goals as goal

pub returns-clause-block : goal.returns-clause-block
returns-clause-block c = producer_is_read

pub returns-clause-only : goal.returns-clause-only
returns-clause-only c = block_in_range

pub returns-clause-blank : goal.returns-clause-blank
returns-clause-blank c = blank_is_read
