-- What a turn knows of the bound on its steps.
use Rattle.std.specs.Prelude.{◌≡◌, ◌<◌, ◌≤◌, ℕ}
use Rattle.kz_world_parts.specs.declared.steps.StepBound.{StepBound}
use Rattle.kz_world_parts.specs.declared.steps.StepBound.TheVariants.{AtLeast, Exactly}

-- The bound itself is known, or a lesser number that allows the next step.
abbrev pub IsKnown : ℕ → ℕ → StepBound → Type 0
IsKnown most done (AtLeast least) = (least ≤ most) × (done < least)
IsKnown most done (Exactly bound) = bound ≡ most
