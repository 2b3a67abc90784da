-- What a fault of a rollback, or of the test before a migration is finalised, tells.
use Rattle.std.specs.Prelude.{◌≡◌, ⊤, Option, Some, None, Result, Err}
use Rattle.kz_types.specs.declared.machine.Answer.{Answer}
use Rattle.kz_types.specs.declared.machine.Answer.TheVariants as answer
use Rattle.kz_types.specs.declared.fault.TreeFault.{TreeFault}
use Rattle.kz_types.specs.declared.fault.TreeFault.TheVariants as tree_fault
use Rattle.kz_types.specs.declared.fault.LogFault.{LogFault}
use Rattle.kz_types.specs.declared.fault.LogFault.TheVariants as log_fault
use Rattle.kz_exit.specs.declared.faults.ExitFault.{ExitFault}
use Rattle.kz_exit.specs.declared.faults.ExitFault.TheVariants.{Finalised, Unclosed, Behind, Log, Tree, NoMemory}

-- ZooKeeper doesn't have all of the metadata, and the fault is exactly the refusal; or memory ran out. No other fault comes.
abbrev pub IsRestFault : Option Answer → ExitFault → Type 0
IsRestFault said Finalised = ⊥
IsRestFault said (Unclosed path) = said ≡ Some (answer.Unclosed path)
IsRestFault said (Behind recorded end) = said ≡ Some (answer.Behind recorded end)
IsRestFault said (Log f) = ⊥
IsRestFault said (Tree f) = ⊥
IsRestFault said NoMemory = ⊤

-- The log's store didn't answer. Where it was down before, the log wasn't read, so that nothing is known of a refusal; else
-- there is none. A reset is never refused.
abbrev pub IsLogFault : Option Answer → LogFault → Type 0
IsLogFault said (log_fault.Stale epoch) = ⊥
IsLogFault said log_fault.Failed = said ≡ None
IsLogFault said (log_fault.Limit number) = ⊥
IsLogFault said log_fault.NoMemory = ⊥
IsLogFault said log_fault.Down = ⊤
IsLogFault said (log_fault.Full length) = said ≡ None

-- The tree's store didn't make the multi. A refusal is the definition's, and a rollback tells out of memory by itself.
abbrev pub IsTreeFault : {A : Type 0} → Result A TreeFault → TreeFault → Type 0
IsTreeFault said (tree_fault.Refused index c) = said ≡ Err (tree_fault.Refused index c)
IsTreeFault said (tree_fault.Limit index n) = said ≡ Err (tree_fault.Limit index n)
IsTreeFault said tree_fault.NoMemory = ⊥
IsTreeFault said tree_fault.Device = ⊤
IsTreeFault said tree_fault.Down = ⊤
IsTreeFault said (tree_fault.Full length) = ⊤
