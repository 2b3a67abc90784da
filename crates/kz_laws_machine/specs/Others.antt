-- What the requests of others leave true of a driver.
use Rattle.std.specs.Prelude.{◌≡◌, ◌≢◌, ℤ, ◌≤ℤ◌, true, false, Some, None}
use Rattle.kz_types.specs.declared.machine.Recorded.{Recorded}
use Rattle.kz_spec_data.specs.Tree.{Tree, migration_record}
use Rattle.kz_spec_data.specs.Log.{Log, begun_of, end_of, is_migrated_log, is_open_log}
use Rattle.kz_spec_machine.specs.Driver.{Shared, Driver}
use Rattle.kz_spec_machine.specs.Sound.{IsCurrent, IsBelowShown, shown_in, IsSoundDriver}
use Rattle.kz_laws_machine.specs.Effects.{IsClaimed, IsWritten, IsUnchanged, IsLonger}

-- a driver of another epoch
abbrev pub IsApart : Driver → ℤ → Type 0
IsApart d epoch = d.epoch ≢ Some epoch

-- A claim by another controller leaves all that is true of a driver: if its claim was current, it is fenced now.
abbrev pub ClaimsLeaveOthers : Type 0
ClaimsLeaveOthers = (s : Shared) (new : Tree) (version epoch : ℤ) (d : Driver) → IsClaimed s.tree new s.log version epoch → IsApart d epoch → IsSoundDriver s d → IsSoundDriver (record s { tree = new }) d

-- Of two drivers with different epochs at most one has a claim that is current.
abbrev pub OneIsCurrent : Type 0
OneIsCurrent = (s : Shared) (c d : Driver) → IsSoundDriver s c → IsSoundDriver s d → (c.epoch ≢ None → c.epoch ≢ d.epoch) → IsCurrent s.tree c.claim → IsCurrent s.tree d.claim → ⊥

-- So does a write, of a driver whose claim isn't current.
abbrev pub WritesLeaveOthers : Type 0
WritesLeaveOthers = (s : Shared) (new : Tree) (d : Driver) → IsWritten s.tree new s.log → (IsCurrent s.tree d.claim → ⊥) → IsSoundDriver s d → IsSoundDriver (record s { tree = new }) d

-- So does a change of the tree that leaves all that drivers read of it.
abbrev pub UnchangedLeaveOthers : Type 0
UnchangedLeaveOthers = (s : Shared) (new : Tree) (d : Driver) → IsUnchanged s.tree new → IsSoundDriver s d → IsSoundDriver (record s { tree = new }) d

-- A batch that doesn't commit the migration leaves all that is true of a driver that doesn't lead the log then; and of one that
-- does, where no transaction is open before and after it.
abbrev pub BatchesLeaveOthers : Type 0
BatchesLeaveOthers = (s : Shared) (more : Log) (d : Driver) → IsLonger s.log more → (is_migrated_log more ≡ true → is_migrated_log s.log ≡ true)
    → (d.epoch ≡ Some more.epoch → (begun_of s.log ≡ None) × (is_open_log more ≡ false)) → ((r : Recorded) → is_migrated_log s.log ≡ true → migration_record s.tree ≡ Some r → r.offset ≤ℤ end_of s.log)
    → IsSoundDriver s d → IsSoundDriver (record s { log = more }) d

-- The commit of another controller, on a log that wasn't migrated, leaves all that is true of a driver whose epoch is below
-- the shown one: it needs no look at the log to be fenced.
abbrev pub CommitsLeaveOthers : Type 0
CommitsLeaveOthers = (s : Shared) (more : Log) (d : Driver) → IsLonger s.log more → is_migrated_log s.log ≡ false → IsApart d more.epoch
    → (d.epoch ≢ None → IsBelowShown (shown_in s.tree) d.epoch) → IsSoundDriver s d → IsSoundDriver (record s { log = more }) d
