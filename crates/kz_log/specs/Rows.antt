-- A log that is held whole.
use Rattle.std.specs.Prelude.{◌≡◌, ◌<◌, ℤ, pos, negsuc, ◌+ℤ◌, ◌≤ℤ◌, length, Option, Some, None}
use Rattle.kz_types.specs.declared.limits.TheConstants.{MAX_LONG}
use Rattle.kz_types.specs.declared.log.BatchRow.{BatchRow}
use Rattle.kz_image.specs.declared.feed.Feed.{Feed}
use Rattle.kz_spec_data.specs.Image.{Image, empty_image}
use Rattle.kz_spec_data.specs.Log.{Log, IsLog, end_of, last_of, with_row}

abbrev pub base_of : Option (ℤ × Image) → ℤ
base_of None = negsuc 0
base_of (Some base) = base.0

abbrev pub image_of_base : Option (ℤ × Image) → Image
image_of_base None = empty_image
image_of_base (Some base) = base.1

-- the log of an epoch that a feed holds from its base on
abbrev pub log_of : ℤ → Feed → Log
log_of epoch f = record { epoch = epoch; base = base_of f.base; base_image = image_of_base f.base; batches = f.batches }

-- A batch begins after the log's end, its last offset is in range, and its epoch is at least the log's and at least 1.
pub record GoesOn (l : Log) (b : BatchRow) : Type 0 where
  pub first : b.first ≡ end_of l +ℤ pos 1
  pub some : 0 < length b.items
  pub last : last_of b ≤ℤ MAX_LONG
  pub climbs : l.epoch ≤ℤ b.epoch
  pub elected : pos 1 ≤ℤ b.epoch

-- A log is one of this epoch with a batch more.
pub record IsPushed (epoch : ℤ) (l : Log) : Type 0 where
  pub before : Log
  pub batch : BatchRow
  pub log : IsLog before
  pub epoch_is : before.epoch ≡ epoch
  pub is : l ≡ with_row before batch
