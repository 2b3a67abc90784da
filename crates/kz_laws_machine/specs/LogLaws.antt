-- What one batch more makes of a log.
use Rattle.std.specs.Prelude.{◌≡◌, ◌⊎◌, ◌≤◌, false, ℤ, pos, ◌+ℤ◌, ◌≤ℤ◌, List, length, None, Ok, All, ⊤}
use Rattle.kz_types.specs.declared.record.MetaRecord.{MetaRecord}
use Rattle.kz_types.specs.declared.record.MetaRecord.TheVariants as meta
use Rattle.kz_spec_data.specs.Log.{Log, View, IsAt, end_of, image_at, image_of, is_migrated_log, with_batch, full_log, append, read_view}
use Rattle.kz_spec_data.specs.Image.{is_migrated_state}
use Rattle.kz_spec_machine.specs.Driver.{commit_records}
use Rattle.kz_spec_machine.specs.Sound.{IsEpoch, LogShape, IsBatchEnd}
use Rattle.kz_laws_machine.specs.Effects.{IsLonger}

-- The metadata at every offset of the log stays.
abbrev pub BatchLeavesImages : Type 0
BatchLeavesImages = (l : Log) (epoch now : ℤ) (items : List MetaRecord) (at : ℤ) → at ≤ℤ end_of l → image_at (with_batch l epoch now items) at ≡ image_at l at

-- Its batch ends stay.
abbrev pub BatchLeavesEnds : Type 0
BatchLeavesEnds = (l : Log) (epoch now : ℤ) (items : List MetaRecord) (at : ℤ) → IsBatchEnd l at → IsBatchEnd (with_batch l epoch now items) at

-- Its end is so many records further.
abbrev pub BatchMovesEnd : Type 0
BatchMovesEnd = (l : Log) (epoch now : ℤ) (items : List MetaRecord) → end_of (with_batch l epoch now items) ≡ end_of l +ℤ pos (length items)

-- A batch within the limits, of an epoch that isn't below the log's, keeps the shape of a log.
abbrev pub BatchKeepsShape : Type 0
BatchKeepsShape = (l : Log) (epoch now : ℤ) (items : List MetaRecord) → LogShape l → l.epoch ≤ℤ epoch → IsEpoch epoch → 1 ≤ length items → full_log l items ≡ None → LogShape (with_batch l epoch now items)

-- So does an append.
abbrev pub AppendKeepsShape : Type 0
AppendKeepsShape = (l new : Log) (epoch now : ℤ) (items : List MetaRecord) → LogShape l → pos 1 ≤ℤ epoch → 1 ≤ length items → append l epoch now items ≡ Ok new → LogShape new

-- A view that has read a log to its end is what the log says there.
abbrev pub ReadViewsAreAtEnd : Type 0
ReadViewsAreAtEnd = (l : Log) (v : View) → LogShape l → IsAt l (read_view l v)

-- The log's end is a batch end, and no batch end is after it.
abbrev pub EndIsLastBatchEnd : Type 0
EndIsLastBatchEnd = (l : Log) → LogShape l → IsBatchEnd l (end_of l) × ((at : ℤ) → IsBatchEnd l at → at ≤ℤ end_of l)

-- ---- the migration's state

-- A record that neither ends a transaction nor is of the migration's state.
abbrev pub IsPlain : MetaRecord → Type 0
IsPlain meta.EndTransaction = ⊥
IsPlain (meta.ZkMigrationState s) = ⊥
IsPlain r = ⊤

-- With a batch of such records, all that was known of a log stays true.
abbrev pub BatchLengthens : Type 0
BatchLengthens = (l : Log) (epoch now : ℤ) (items : List MetaRecord) → LogShape l → l.epoch ≤ℤ epoch → 1 ≤ length items → All IsPlain items → IsLonger l (with_batch l epoch now items)

-- A batch of such records leaves the state of the migration.
abbrev pub PlainKeepsState : Type 0
PlainKeepsState = (l : Log) (epoch now : ℤ) (items : List MetaRecord) → LogShape l → All IsPlain items → (image_of (with_batch l epoch now items)).state ≡ (image_of l).state

-- A record that is plain, or a state of the migration before its commit.
abbrev pub IsUncommitted : MetaRecord → Type 0
IsUncommitted r = IsPlain r ⊎ ((s : ℤ) × (r ≡ meta.ZkMigrationState s) × (is_migrated_state s ≡ false))

-- A batch of such records leaves an unmigrated log so.
abbrev pub UncommittedStays : Type 0
UncommittedStays = (l : Log) (epoch now : ℤ) (items : List MetaRecord) → LogShape l → All IsUncommitted items → is_migrated_log l ≡ false → is_migrated_log (with_batch l epoch now items) ≡ false

-- The records of the commit make it 2, whatever transaction was open.
abbrev pub CommitMigrates : Type 0
CommitMigrates = (l : Log) (epoch now : ℤ) → LogShape l → (image_of (with_batch l epoch now commit_records)).state ≡ pos 2
