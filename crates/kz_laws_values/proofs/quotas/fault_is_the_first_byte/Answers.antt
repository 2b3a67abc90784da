use Rattle.kz_laws_values.proofs.Grammar.{place_of_fault}
use Rattle.kz_laws_values.proofs.quotas.fault_is_the_first_byte.Goals as goal

pub returns : goal.returns
returns c = place_of_fault
