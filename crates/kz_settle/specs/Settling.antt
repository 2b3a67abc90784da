-- The records that count, found in one pass over a log whose offsets rise.
use Rattle.std.specs.Prelude.{Bool, true, false, not, ◌&&◌, ◌||◌, ℤ, int_le, List, [], ◌∷◌, if◌then◌else◌}
use Rattle.std.specs.List.{find}
use Rattle.kz_types.specs.declared.log.Entry.{Entry}
use Rattle.kz_types.specs.declared.record.MetaRecord.{MetaRecord}
use Rattle.kz_spec_data.specs.Settlement.{is_begin, closes, is_marker, is_ended_by}

-- the offset of an entry
abbrev pub offset_of : Entry → ℤ
offset_of e = e.offset

-- whether an entry is an End or Abort
abbrev pub closes_entry : Entry → Bool
closes_entry e = closes e.item

-- whether a transaction is open after a record, where one is open before it or not
abbrev pub is_open_after : Bool → MetaRecord → Bool
is_open_after inside r = if is_begin r then true else (if closes r then false else inside)

-- whether a transaction is open after these records
abbrev pub is_open_at_end : Bool → List Entry → Bool
is_open_at_end inside [] = inside
is_open_at_end inside (e ∷ es) = is_open_at_end (is_open_after inside e.item) es

-- Whether the transaction that is open before these records ends among them, at an offset of at most this one.
abbrev pub ends_by : ℤ → List Entry → Bool
ends_by at es = is_ended_by at (find closes_entry es)

-- What one pass hands out of the records at or before an offset, with a transaction open before them or not: each that is
-- no marker and stands outside every transaction, or in one that ends among the records after it, by that offset.
abbrev pub records_of_pass : ℤ → Bool → List Entry → List Entry
records_of_pass at inside [] = []
records_of_pass at inside (e ∷ es) =
    if int_le e.offset at && not (is_marker e.item) && (not inside || ends_by at es) then e ∷ records_of_pass at (is_open_after inside e.item) es
    else records_of_pass at (is_open_after inside e.item) es
