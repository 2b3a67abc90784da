-- The records of a log after an offset, and which of them the metadata at an offset takes in.
use Rattle.std.specs.Prelude.{◌≡◌, ℕ, ◌+◌, Bool, ℤ, pos, ◌+ℤ◌, int_le, List, [], ◌∷◌, ◌++◌, length, Option, Some, None, ⊤, if◌then◌else◌}
use Rattle.kz_types.specs.declared.log.BatchRow.{BatchRow}
use Rattle.kz_types.specs.declared.log.Entry.{Entry}
use Rattle.kz_types.specs.declared.record.MetaRecord.{MetaRecord}
use Rattle.kz_spec_data.specs.Image.{Image}
use Rattle.kz_spec_data.specs.Log.{entries_at_offsets, record_count, all_entries_applied}
use Rattle.kz_settle.specs.Settling.{is_open_after, records_of_pass, ends_by}

-- the records of batches, with the offsets after this one
abbrev pub entries_after : ℤ → List BatchRow → List Entry
entries_after following [] = []
entries_after following (b ∷ bs) = entries_at_offsets (following +ℤ pos 1) b.epoch b.items ++ entries_after (following +ℤ pos (length b.items)) bs

-- the records after an offset: those that are left of a batch of this epoch, and those of the batches after it
abbrev pub unread_entries : ℤ → ℤ → List MetaRecord → List BatchRow → List Entry
unread_entries following epoch items rest = entries_at_offsets (following +ℤ pos 1) epoch items ++ entries_after (following +ℤ pos (length items)) rest

-- how many they are
abbrev pub unread_count : List MetaRecord → List BatchRow → ℕ
unread_count items rest = length items + record_count rest

-- Whether a transaction is open, and, where one is, whether it ends among these records by then.
abbrev pub Knows : ℤ → Option Bool → List Entry → Type 0
Knows at None es = ⊤
Knows at (Some ends) es = ends ≡ ends_by at es

-- the metadata, after these records too
abbrev pub image_after : ℤ → Bool → List Entry → Image → Image
image_after at inside es i = all_entries_applied (records_of_pass at inside es) i

-- whether a transaction is open at an offset, where one is open before these records or not
abbrev pub is_open_by : ℤ → Bool → List Entry → Bool
is_open_by at inside [] = inside
is_open_by at inside (e ∷ es) = if int_le e.offset at then is_open_by at (is_open_after inside e.item) es else inside
