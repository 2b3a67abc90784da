use Rattle.kz_laws_values.proofs.FaultPlaces.{one_place, goes_before, none_after, end_of_path}
use Rattle.kz_laws_values.proofs.paths.fault_is_the_first_byte.Goals as goal

pub returns-clause-one : goal.returns-clause-one
returns-clause-one c = one_place

pub returns-clause-before : goal.returns-clause-before
returns-clause-before c = goes_before

pub returns-clause-after : goal.returns-clause-after
returns-clause-after c = none_after

pub returns-clause-too_many : goal.returns-clause-too_many
returns-clause-too_many c = end_of_path
