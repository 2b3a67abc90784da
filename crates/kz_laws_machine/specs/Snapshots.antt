-- What a snapshot makes of a log.
use Rattle.std.specs.Prelude.{◌≡◌, ℤ, pos, ◌≤ℤ◌, true, false, Some}
use Rattle.kz_types.specs.declared.machine.Recorded.{Recorded}
use Rattle.kz_spec_data.specs.Tree.{migration_record}
use Rattle.kz_spec_data.specs.Settlement.{is_open}
use Rattle.kz_spec_data.specs.Log.{Log, View, IsViewOf, end_of, entries, image_at, is_migrated_log, snapshot}
use Rattle.kz_spec_machine.specs.Driver.{Shared, Driver}
use Rattle.kz_spec_machine.specs.Sound.{LogShape, IsBatchEnd, IsPastCommit, IsSharedSound, IsSoundDriver}

-- A batch end at which no transaction is open.
pub record MayBeBase (l : Log) (at : ℤ) : Type 0 where
  pub end : IsBatchEnd l at
  pub settled : is_open (entries l.batches) at ≡ false

-- The log is cut at a batch end. Its epoch and its end stay. From that batch end on its batch ends stay, with the metadata and
-- what is open there. What was known of the log stays true.
pub record IsCut (l cut : Log) (at : ℤ) : Type 0 where
  pub epoch : cut.epoch ≡ l.epoch
  pub end : end_of cut ≡ end_of l
  pub base_end : IsBatchEnd cut at
  pub batch_end : (k : ℤ) → IsBatchEnd l k → at ≤ℤ k → IsBatchEnd cut k
  pub was_end : (k : ℤ) → IsBatchEnd cut k → IsBatchEnd l k × (at ≤ℤ k)
  pub image : (k : ℤ) → IsBatchEnd l k → at ≤ℤ k → image_at cut k ≡ image_at l k
  pub is_open_there : (k : ℤ) → IsBatchEnd l k → at ≤ℤ k → is_open (entries cut.batches) k ≡ is_open (entries l.batches) k
  pub view : (v : View) → IsViewOf l v → IsViewOf cut v
  pub past : (k : ℤ) → IsPastCommit l k → IsPastCommit cut k

-- A snapshot at such a batch end cuts the log there.
abbrev pub SnapshotCuts : Type 0
SnapshotCuts = (l : Log) (at : ℤ) → LogShape l → MayBeBase l at → IsCut l (snapshot l at) at

-- And it keeps the shape of a log.
abbrev pub SnapshotKeepsShape : Type 0
SnapshotKeepsShape = (l : Log) (at : ℤ) → LogShape l → MayBeBase l at → LogShape (snapshot l at)

-- ---- in a sound world

-- The log of a sound world may be cut at what is recorded, where it is migrated and an offset is recorded.
abbrev pub RecordedMayBeBase : Type 0
RecordedMayBeBase = (s : Shared) (r : Recorded) → IsSharedSound s → is_migrated_log s.log ≡ true → migration_record s.tree ≡ Some r → pos 0 ≤ℤ r.offset → MayBeBase s.log r.offset

-- It stays sound, with the tree, and so do all drivers.
abbrev pub SnapshotKeepsShared : Type 0
SnapshotKeepsShared = (s : Shared) (r : Recorded) → IsSharedSound s → is_migrated_log s.log ≡ true → migration_record s.tree ≡ Some r → pos 0 ≤ℤ r.offset → IsSharedSound (record s { log = snapshot s.log r.offset })

abbrev pub SnapshotKeepsDrivers : Type 0
SnapshotKeepsDrivers = (s : Shared) (r : Recorded) (d : Driver) → IsSharedSound s → is_migrated_log s.log ≡ true → migration_record s.tree ≡ Some r → pos 0 ≤ℤ r.offset → IsSoundDriver s d → IsSoundDriver (record s { log = snapshot s.log r.offset }) d
