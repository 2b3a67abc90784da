-- What a fault of a body tells.
use Rattle.std.specs.Prelude.{◌≡◌, Result, Err, ⊤}
use Rattle.kz_types.specs.declared.fault.BodyFault.{BodyFault}
use Rattle.kz_types.specs.declared.fault.BodyFault.TheVariants.{NotJson, Missing, BadField, NoTopicId, UnknownKey, NoMemory}

-- a fault is this one, or out of memory
abbrev pub IsOrNoMemory : BodyFault → BodyFault → Type 0
IsOrNoMemory fault NotJson = fault ≡ NotJson
IsOrNoMemory fault (Missing name) = fault ≡ Missing name
IsOrNoMemory fault (BadField name) = fault ≡ BadField name
IsOrNoMemory fault NoTopicId = fault ≡ NoTopicId
IsOrNoMemory fault (UnknownKey name) = fault ≡ UnknownKey name
IsOrNoMemory fault NoMemory = ⊤

-- a fault is what the definition says, or out of memory
abbrev pub IsFaultOf : {A : Type 0} → Result A BodyFault → BodyFault → Type 0
IsFaultOf said NotJson = said ≡ Err NotJson
IsFaultOf said (Missing name) = said ≡ Err (Missing name)
IsFaultOf said (BadField name) = said ≡ Err (BadField name)
IsFaultOf said NoTopicId = said ≡ Err NoTopicId
IsFaultOf said (UnknownKey name) = said ≡ Err (UnknownKey name)
IsFaultOf said NoMemory = ⊤
