-- A limit that is passed, as the definitions have it.
use Rattle.std.specs.Prelude.{◌≡◌, ⊤, Option, Some}
use Rattle.kz_spec_data.specs.Rendering.{Excess}
use Rattle.kz_render.specs.declared.limits.Excess.{Excess as Told}
use Rattle.kz_render.specs.declared.limits.FitFault.{FitFault}
use Rattle.kz_render.specs.declared.limits.FitFault.TheVariants.{Over, NoMemory}

abbrev pub excess_of_told : Told → Excess
excess_of_told told = record { number = told.number; path = told.path }

-- a fault tells the limit that is passed, or out of memory
abbrev pub IsExcess : FitFault → Option Excess → Type 0
IsExcess (Over number path) found = found ≡ Some (record { number = number; path = path })
IsExcess NoMemory found = ⊤
