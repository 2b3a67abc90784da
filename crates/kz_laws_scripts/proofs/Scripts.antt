-- The worlds of a script.
use Rattle.std.specs.Prelude.{ℕ, List}
use Rattle.kz_spec_machine.specs.Machine.{World, after_events}
use Rattle.kz_spec_machine.specs.Sound.{Sound}
use Rattle.kz_spec_machine.specs.InStep.{StaysInStep, script_events}
use Rattle.kz_laws_events.proofs.Runs.{run_sound}
use Rattle.kz_laws_rest.proofs.Rest.{stays_in_step}
use Rattle.kz_laws_scripts.proofs.Lawful.{script_lawful}

pub script_sound : (w : World) (bytes : List ℕ) → Sound w → Sound (after_events w (script_events bytes))
script_sound w bytes sound = run_sound (script_events bytes) w (script_lawful bytes) sound

pub script_in_step : (w : World) (bytes : List ℕ) → Sound w → StaysInStep w (script_events bytes)
script_in_step w bytes sound = stays_in_step w (script_events bytes) sound (script_lawful bytes)
