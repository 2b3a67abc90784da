-- Why records aren't valid.
use Rattle.std.specs.Prelude.{◌≡◌, ⊤, Option, Some}
use Rattle.kz_types.specs.declared.image_fault.ImageFault.{ImageFault}
use Rattle.kz_types.specs.declared.image_fault.ImageFault.TheVariants.{BadRecord, NoMemory}
use Rattle.kz_spec_data.specs.Image.{Bad}

-- the first record that breaks a rule and the rule, or out of memory
abbrev pub IsFirstBad : Option Bad → ImageFault → Type 0
IsFirstBad found (BadRecord index why) = found ≡ Some (record { index = index; why = why })
IsFirstBad found NoMemory = ⊤
