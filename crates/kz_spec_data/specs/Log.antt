-- A committed metadata log, and a view of it.
use Rattle.std.specs.Prelude.{◌≡◌, ◌⊎◌, ℕ, ◌+◌, ◌<◌, ◌≤◌, ⊤, Bool, not, ◌&&◌, nat_lt, ℤ, pos, negsuc, ◌+ℤ◌, ◌-ℤ◌, ◌≤ℤ◌, ◌<ℤ◌, int_le, int_lt, List, [], ◌∷◌, ◌++◌, length, map, Option, Some, None, Result, Ok, Err, if◌then◌else◌}
use Rattle.std.specs.Ordering.{int_eq}
use Rattle.std.specs.List.{filter, list_any, sum_by, flat_map}
use Rattle.kz_types.specs.declared.limits.Limit.TheVariants as limits
use Rattle.kz_types.specs.Limits.{number_of_limit}
use Rattle.kz_types.specs.declared.limits.TheConstants.{MAX_EPOCH, MAX_LONG, MAX_RECORDS}
use Rattle.kz_types.specs.declared.log.BatchRow.{BatchRow}
use Rattle.kz_types.specs.declared.log.Entry.{Entry}
use Rattle.kz_types.specs.declared.record.MetaRecord.{MetaRecord}
use Rattle.kz_types.specs.declared.fault.LogFault.{LogFault}
use Rattle.kz_types.specs.declared.fault.LogFault.TheVariants as fault
use Rattle.kz_spec_data.specs.Image.{Image, empty_image, image_with, is_migrated_state}
use Rattle.kz_spec_data.specs.Settlement.{counting_records, is_open, open_begin, records_of_open, commit}

-- ---- the log

-- The log's epoch, the offset up to which it is an image alone, that image, and the batches after it. In every log of a
-- run the image is empty where the base is -1, and each batch begins after the one before it.
pub record Log : Type 0 where
  pub epoch : ℤ
  pub base : ℤ
  pub base_image : Image
  pub batches : List BatchRow

abbrev pub empty_log : Log
empty_log = record { epoch = pos 0; base = negsuc 0; base_image = empty_image; batches = [] }

-- the last offset of a batch
abbrev pub last_of : BatchRow → ℤ
last_of b = (b.first +ℤ pos (length b.items)) -ℤ pos 1

-- the last batch end, where the first is this offset
abbrev pub last_end : ℤ → List BatchRow → ℤ
last_end from [] = from
last_end from (b ∷ bs) = last_end (last_of b) bs

-- the last offset of the log
abbrev pub end_of : Log → ℤ
end_of l = last_end l.base l.batches

-- the base and the last offset of each batch
abbrev pub batch_ends : Log → List ℤ
batch_ends l = l.base ∷ map last_of l.batches

abbrev pub record_count : List BatchRow → ℕ
record_count batches = sum_by (λ (b : BatchRow). length b.items) batches

-- Batches follow each other from after an offset on, and none is empty.
abbrev pub Follow : ℤ → List BatchRow → Type 0
Follow from [] = ⊤
Follow from (b ∷ bs) = (b.first ≡ from +ℤ pos 1) × (0 < length b.items) × Follow (last_of b) bs

-- The epochs of batches never fall, from this one on, and none is above the other.
abbrev pub EpochsNeverFall : ℤ → ℤ → List BatchRow → Type 0
EpochsNeverFall least most [] = ⊤
EpochsNeverFall least most (b ∷ bs) = (least ≤ℤ b.epoch) × (b.epoch ≤ℤ most) × EpochsNeverFall b.epoch most bs

-- What is true of every log: its epoch isn't negative; its base is at least -1, and where it is -1 the base image is empty;
-- the batches follow each other from the base on, in epochs of at least 1 that never fall and aren't above the log's; and
-- the last offset is in range. The limit on records is one of appends and elections, and no log's.
pub record IsLog (l : Log) : Type 0 where
  pub epoch : pos 0 ≤ℤ l.epoch
  pub base : negsuc 0 ≤ℤ l.base
  pub base_image : l.base ≡ negsuc 0 → l.base_image ≡ empty_image
  pub follow : Follow l.base l.batches
  pub epochs : EpochsNeverFall (pos 1) l.epoch l.batches
  pub end : end_of l ≤ℤ MAX_LONG

-- records with the offsets from this one on
abbrev pub entries_at_offsets : ℤ → ℤ → List MetaRecord → List Entry
entries_at_offsets offset epoch [] = []
entries_at_offsets offset epoch (r ∷ rs) = record { offset = offset; epoch = epoch; item = r } ∷ entries_at_offsets (offset +ℤ pos 1) epoch rs

abbrev pub entries_of_batch : BatchRow → List Entry
entries_of_batch b = entries_at_offsets b.first b.epoch b.items

-- the records after the base, with their offsets and epochs
abbrev pub entries : List BatchRow → List Entry
entries batches = flat_map entries_of_batch batches

-- ---- the image

abbrev pub all_entries_applied : List Entry → Image → Image
all_entries_applied [] i = i
all_entries_applied (e ∷ es) i = all_entries_applied es (image_with e.epoch e.item i)

-- The metadata at an offset: what the records that count there make of the base image.
unfoldable pub image_at : Log → ℤ → Image
image_at l at = all_entries_applied (counting_records (entries l.batches) at) l.base_image

-- the metadata at the log's end
abbrev pub image_of : Log → Image
image_of l = image_at l (end_of l)

abbrev pub is_migrated_log : Log → Bool
is_migrated_log l = is_migrated_state (image_of l).state

abbrev pub is_open_log : Log → Bool
is_open_log l = is_open (entries l.batches) (end_of l)

-- the offset of the Begin of the transaction that is open at the log's end
abbrev pub begun_of : Log → Option ℤ
begun_of l = open_begin (entries l.batches)

abbrev pub commit_of : Log → Option ℤ
commit_of l = commit (entries l.batches)

-- ---- appends

-- the log with a batch more, whose epoch is the log's from then on
abbrev pub with_row : Log → BatchRow → Log
with_row l b = record l { epoch = b.epoch; batches = l.batches ++ b ∷ [] }

abbrev pub new_batch : Log → ℤ → ℤ → List MetaRecord → BatchRow
new_batch l epoch now items = record { first = end_of l +ℤ pos 1; epoch = epoch; time = now; items = items }

-- the log with one batch more, of this epoch, which is the log's from then on
abbrev pub with_batch : Log → ℤ → ℤ → List MetaRecord → Log
with_batch l epoch now items = record l { epoch = epoch; batches = l.batches ++ new_batch l epoch now items ∷ [] }

-- why these records can't be added
abbrev pub full_log : Log → List MetaRecord → Option ℕ
full_log l items =
    if nat_lt MAX_RECORDS (record_count l.batches + length items) then Some (number_of_limit limits.Records)
    else (if int_lt MAX_LONG (end_of l +ℤ pos (length items)) then Some (number_of_limit limits.Long)
    else None)

abbrev pub log_unless_limit : Option ℕ → Log → Result Log LogFault
log_unless_limit (Some number) l = Err (fault.Limit number)
log_unless_limit None l = Ok l

-- The log after an append by a controller of this epoch: one batch more, or why there is none.
abbrev pub append : Log → ℤ → ℤ → List MetaRecord → Result Log LogFault
append l epoch now items =
    if int_eq epoch l.epoch then log_unless_limit (full_log l items) (with_batch l epoch now items)
    else Err (fault.Stale l.epoch)

-- the log with the next epoch
abbrev pub with_next_epoch : Log → Log
with_next_epoch l = record l { epoch = l.epoch +ℤ pos 1 }

-- The log after an election: one batch of the next epoch, or why there is none.
abbrev pub elect : Log → ℤ → List MetaRecord → Result Log LogFault
elect l now items =
    if int_lt l.epoch MAX_EPOCH then log_unless_limit (full_log l items) (with_batch (with_next_epoch l) (l.epoch +ℤ pos 1) now items)
    else Err (fault.Limit (number_of_limit limits.Epoch))

-- the log without its batches and without a base, whose epoch stays
abbrev pub reset : Log → Log
reset l = record empty_log { epoch = l.epoch }

-- whether the log may be cut at an offset: a batch end at which no transaction is open
abbrev pub may_be_base : Log → ℤ → Bool
may_be_base l at = list_any (int_eq at) (batch_ends l) && not (is_open (entries l.batches) at)

-- The log that is its metadata alone up to an offset.
abbrev pub snapshot : Log → ℤ → Log
snapshot l at = record l { base = at; base_image = image_at l at; batches = filter (λ (b : BatchRow). int_lt at b.first) l.batches }

-- ---- views

-- What a controller knows of the log: up to which offset, the epoch of the last batch that it took, the metadata there,
-- and, where a transaction is open there, the offset of its Begin and its records.
pub record View : Type 0 where
  pub position : ℤ
  pub epoch : ℤ
  pub image : Image
  pub begun : Option ℤ
  pub kept : List Entry

abbrev pub new_view : View
new_view = record { position = negsuc 0; epoch = pos 0; image = empty_image; begun = None; kept = [] }

-- the records that stand at or before an offset
abbrev pub entries_by : ℤ → List Entry → List Entry
entries_by at es = filter (λ (e : Entry). int_le e.offset at) es

-- A view is what a log says at its position, a batch end; its epoch is its own.
pub record IsAt (l : Log) (v : View) : Type 0 where
  pub end : (before after : List ℤ) × (batch_ends l ≡ before ++ v.position ∷ after)
  pub image : v.image ≡ image_at l v.position
  pub begun : v.begun ≡ open_begin (entries_by v.position (entries l.batches))
  pub kept : v.kept ≡ records_of_open (entries_by v.position (entries l.batches))

-- A view of a log: it is what the log says at its position, or the log's base has passed it.
abbrev pub IsViewOf : Log → View → Type 0
IsViewOf l v = (v.position <ℤ l.base) ⊎ IsAt l v

-- ---- feeds

-- What is read of a log: its base with its image, where the reader stands before it; the batches after; and its end.
pub record Feed : Type 0 where
  pub base : Option (ℤ × Image)
  pub batches : List BatchRow
  pub end : ℤ

-- the log that a reader of this log knows once it has taken a feed
abbrev pub log_with_feed : Log → Option (ℤ × Image) → List BatchRow → Log
log_with_feed l None batches = record l { batches = l.batches ++ batches }
log_with_feed l (Some base) batches = record l { base = base.0; base_image = base.1; batches = batches }

-- the epoch of the last batch, or this one where there is none
abbrev pub last_epoch : ℤ → List BatchRow → ℤ
last_epoch epoch [] = epoch
last_epoch epoch (b ∷ bs) = last_epoch b.epoch bs

abbrev pub begins_after : ℤ → BatchRow → Bool
begins_after position b = int_lt position b.first

-- the epoch of a view that has read to the log's end
abbrev pub read_epoch : Log → View → ℤ
read_epoch l v = last_epoch (if int_lt v.position l.base then pos 0 else v.epoch) (filter (begins_after v.position) l.batches)

-- the view that has read to the log's end
abbrev pub read_view : Log → View → View
read_view l v = record { position = end_of l; epoch = read_epoch l v; image = image_of l; begun = begun_of l; kept = records_of_open (entries l.batches) }

-- what is read of a log after an offset
abbrev pub feed_from : Log → ℤ → Feed
feed_from l after = record {
  base = if int_lt after l.base then Some (l.base, l.base_image) else None;
  batches = filter (begins_after after) l.batches;
  end = end_of l;
}
