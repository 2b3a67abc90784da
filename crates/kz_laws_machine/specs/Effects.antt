-- What a request of one controller, or of a client, makes of the tree and of the log, as far as the drivers of other
-- controllers read them.
use Rattle.std.specs.Prelude.{◌≡◌, ℤ, ◌≤ℤ◌, ◌<ℤ◌, true, Some, None}
use Rattle.kz_types.specs.declared.machine.Recorded.{Recorded}
use Rattle.kz_spec_data.specs.Tree.{Tree, migrated_rows, migration_record, unclosed_path}
use Rattle.kz_spec_data.specs.Log.{Log, View, IsViewOf, end_of, image_at, is_migrated_log}
use Rattle.kz_spec_machine.specs.Sound.{IsBatchEnd, IsPastCommit, claim_version, shown_in}

-- What is recorded stays, and whether the tree is closed.
pub record KeepsRecord (t new : Tree) : Type 0 where
  pub recorded : migration_record new ≡ migration_record t
  pub unclosed : unclosed_path new ≡ unclosed_path t

-- A claim by a controller of this epoch: the data version of `/controller_epoch` rises to this one, and `/controller` shows the
-- epoch, which isn't below the one that it showed and isn't above the log's. What is recorded stays where the log is migrated.
pub record IsClaimed (t new : Tree) (l : Log) (version epoch : ℤ) : Type 0 where
  pub version_is : claim_version new ≡ Some version
  pub rises : (v : ℤ) → claim_version t ≡ Some v → v <ℤ version
  pub shown_is : shown_in new ≡ Some epoch
  pub highest : (e : ℤ) → shown_in t ≡ Some e → e ≤ℤ epoch
  pub within : epoch ≤ℤ l.epoch
  pub keeps : is_migrated_log l ≡ true → KeepsRecord t new

-- A write by a controller: claims and the shown epoch stay; the recorded offset doesn't fall; and where the new one is the
-- log's end, a closed tree stays so.
pub record IsWritten (t new : Tree) (l : Log) : Type 0 where
  pub version : claim_version new ≡ claim_version t
  pub shown : shown_in new ≡ shown_in t
  pub recorded : (r : Recorded) → migration_record t ≡ Some r → (q : Recorded) × (migration_record new ≡ Some q) × (r.offset ≤ℤ q.offset)
  pub closed : (q : Recorded) → migration_record new ≡ Some q → q.offset ≡ end_of l → unclosed_path t ≡ None → unclosed_path new ≡ None

-- All that drivers read of the tree stays: the znodes of the migrated area, what is recorded, whether the tree is closed, the
-- data version of `/controller_epoch`, and the epoch that `/controller` shows.
pub record IsUnchanged (t new : Tree) : Type 0 where
  pub rows : migrated_rows new ≡ migrated_rows t
  pub recorded : migration_record new ≡ migration_record t
  pub unclosed : unclosed_path new ≡ unclosed_path t
  pub version : claim_version new ≡ claim_version t
  pub shown : shown_in new ≡ shown_in t

-- More batches stand at the end of a log: what was known of it stays true, and a migrated log stays so. Its commit stays.
pub record IsLonger (l more : Log) : Type 0 where
  pub end : end_of l <ℤ end_of more
  pub epoch : l.epoch ≤ℤ more.epoch
  pub image : (at : ℤ) → at ≤ℤ end_of l → image_at more at ≡ image_at l at
  pub view : (v : View) → IsViewOf l v → IsViewOf more v
  pub batch_end : (at : ℤ) → IsBatchEnd l at → IsBatchEnd more at
  pub within : (at : ℤ) → IsBatchEnd l at → at ≤ℤ end_of l
  pub past : is_migrated_log l ≡ true → (at : ℤ) → IsPastCommit l at → IsPastCommit more at
  pub migrated : is_migrated_log l ≡ true → is_migrated_log more ≡ true
