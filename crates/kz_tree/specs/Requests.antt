-- What a store of a tree answers a multi.
use Rattle.std.specs.Prelude.{◌≡◌, Result, Err, ⊤}
use Rattle.kz_types.specs.declared.fault.TreeFault.{TreeFault}
use Rattle.kz_types.specs.declared.fault.TreeFault.TheVariants as fault

-- A refusal is the definition's. The other faults are of the store, and the clauses on its disk say when they come.
abbrev pub IsRefusal : {A : Type 0} → Result A TreeFault → TreeFault → Type 0
IsRefusal said (fault.Refused index c) = said ≡ Err (fault.Refused index c)
IsRefusal said (fault.Limit index n) = said ≡ Err (fault.Limit index n)
IsRefusal said fault.NoMemory = ⊤
IsRefusal said fault.Device = ⊤
IsRefusal said fault.Down = ⊤
IsRefusal said (fault.Full length) = ⊤
