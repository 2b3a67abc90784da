-- What opening the two files answers.
use Rattle.std.specs.Prelude.{◌≡◌, ⊤, ℕ, List, Option, Some}
use Rattle.kz_types.specs.declared.outside.Status.{Status}
use Rattle.kz_types.specs.declared.outside.Status.TheVariants as status
use Rattle.kz_spec_data.specs.Frames.{tree_letter, log_letter}
use Rattle.kz_spec_machine.specs.Files.{damage, SayTheSame, EndsAtDisk}
use Rattle.kz_tree_store.specs.declared.fault.TreeOpenFault.{TreeOpenFault}
use Rattle.kz_tree_store.specs.declared.fault.TreeOpenFault.TheVariants as tree_fault
use Rattle.kz_tree_store.specs.declared.store.TreeStore.{TreeStore}
use Rattle.kz_tree_store.specs.Stores as trees
use Rattle.kz_log_store.specs.declared.fault.LogOpenFault.{LogOpenFault}
use Rattle.kz_log_store.specs.declared.fault.LogOpenFault.TheVariants as log_fault
use Rattle.kz_log_store.specs.declared.store.LogStore.{LogStore}
use Rattle.kz_log_store.specs.Stores as logs
use Rattle.kz_commands.specs.Outside.{Outside, OfFiles}

-- Both files are opened. No call of a disk failed.
pub record AreOpened {D E : Type 0} {tree_disk : _} {log_disk : _} (t : TreeStore D tree_disk) (l : LogStore E log_disk) (tree tree_now log log_now : Outside) : Type 0 where
  pub tree_opened : trees.IsOpened t tree.bytes tree_now.bytes
  pub log_opened : logs.IsOpened l log.bytes log_now.bytes
  pub tree_calm : tree_now.faults ≡ tree.faults
  pub log_calm : log_now.faults ≡ log.faults

-- the status of a run whose tree's file isn't opened
abbrev pub status_of_tree_fault : TreeOpenFault → Status
status_of_tree_fault tree_fault.DiskFault = status.TreeFault
status_of_tree_fault (tree_fault.Damaged at) = status.TreeDamaged at
status_of_tree_fault tree_fault.NoMemory = status.NoMemory

-- and of one whose log's file isn't
abbrev pub status_of_log_fault : LogOpenFault → Status
status_of_log_fault log_fault.DiskFault = status.LogFault
status_of_log_fault (log_fault.Damaged at why) = status.LogDamaged at why
status_of_log_fault log_fault.NoMemory = status.NoMemory

-- the statuses of files that aren't opened
abbrev pub IsUnopenedStatus : Status → Type 0
IsUnopenedStatus status.TreeFault = ⊤
IsUnopenedStatus status.LogFault = ⊤
IsUnopenedStatus (status.TreeDamaged at) = ⊤
IsUnopenedStatus (status.LogDamaged at why) = ⊤
IsUnopenedStatus status.NoMemory = ⊤
IsUnopenedStatus s = ⊥

-- Two files aren't opened for their damage, unless a disk failed or memory ran out.
abbrev pub IsForDamage : Status → Option Status → Type 0
IsForDamage status.TreeFault reason = ⊤
IsForDamage status.LogFault reason = ⊤
IsForDamage status.NoMemory reason = ⊤
IsForDamage s reason = reason ≡ Some s

-- Unless a disk failed, each says what it said.
abbrev pub LeavesUnopened : Status → List ℕ → List ℕ → List ℕ → List ℕ → Type 0
LeavesUnopened status.TreeFault t l new_t new_l = ⊤
LeavesUnopened status.LogFault t l new_t new_l = ⊤
LeavesUnopened s t l new_t new_l = SayTheSame tree_letter t new_t × SayTheSame log_letter l new_l

-- Why two files aren't opened, and what they say then.
pub record AreUnopened (tree tree_now log log_now : Outside) (result : Status) : Type 0 where
  pub told : IsUnopenedStatus result
  pub reason : (t l : List ℕ) → tree.bytes ≡ Some t → log.bytes ≡ Some l → IsForDamage result (damage t l)
  pub files : OfFiles tree log tree_now log_now (LeavesUnopened result)
  pub tree_disk : EndsAtDisk status.TreeFault result tree.faults tree_now.faults
  pub log_disk : EndsAtDisk status.LogFault result log.faults log_now.faults
