-- What is true of every script, from a sound world on.
use Rattle.std.specs.Prelude.{ℕ, List, All}
use Rattle.kz_spec_machine.specs.Machine.{World, after_events}
use Rattle.kz_spec_machine.specs.Sound.{Sound, IsLawful}
use Rattle.kz_spec_machine.specs.InStep.{StaysInStep, script_events}

-- The events of a script are lawful.
abbrev pub ScriptsAreLawful : Type 0
ScriptsAreLawful = (bytes : List ℕ) → All IsLawful (script_events bytes)

-- The world after a script is sound, where the world before it is.
abbrev pub ScriptsKeepSound : Type 0
ScriptsKeepSound = (w : World) (bytes : List ℕ) → Sound w → Sound (after_events w (script_events bytes))

-- After each turn of a script that comes to rest, the tree is in step with the log.
abbrev pub ScriptsStayInStep : Type 0
ScriptsStayInStep = (w : World) (bytes : List ℕ) → Sound w → StaysInStep w (script_events bytes)
