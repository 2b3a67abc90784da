use Rattle.kz_laws_loads.proofs.Inputs.{input_load, input_pair}
use Rattle.kz_laws_loads.proofs.loaded_input_is_sound.Goals as goal

pub returns-clause-load : goal.returns-clause-load
returns-clause-load c = input_load

pub returns-clause-pair : goal.returns-clause-pair
returns-clause-pair c = input_pair
