-- Which records of a log count, after metadata transactions (KIP-868). Each statement is one on offsets.
use Rattle.std.specs.Prelude.{Bool, true, false, not, ◌&&◌, ◌||◌, ℤ, pos, ◌+ℤ◌, int_le, int_lt, List, Option, Some, None, option_map}
use Rattle.std.specs.Ordering.{int_eq}
use Rattle.std.specs.List.{filter, find, list_any}
use Rattle.kz_types.specs.declared.codes.TheConstants.{MIGRATION}
use Rattle.kz_types.specs.declared.log.Entry.{Entry}
use Rattle.kz_types.specs.declared.record.MetaRecord.{MetaRecord}
use Rattle.kz_types.specs.declared.record.MetaRecord.TheVariants as meta

abbrev pub is_begin : MetaRecord → Bool
is_begin (meta.BeginTransaction name) = true
is_begin r = false

abbrev pub is_end : MetaRecord → Bool
is_end meta.EndTransaction = true
is_end r = false

abbrev pub is_abort : MetaRecord → Bool
is_abort (meta.AbortTransaction reason) = true
is_abort r = false

abbrev pub closes : MetaRecord → Bool
closes r = is_end r || is_abort r

abbrev pub is_marker : MetaRecord → Bool
is_marker r = is_begin r || closes r

-- whether an End or Abort stands strictly between two offsets
abbrev pub is_closed_between : List Entry → ℤ → ℤ → Bool
is_closed_between es from to = list_any (λ (e : Entry). closes e.item && int_lt from e.offset && int_lt e.offset to) es

-- An offset is inside a transaction where a Begin before it has no End or Abort between it and the offset.
abbrev pub is_inside : List Entry → ℤ → Bool
is_inside es offset = list_any (λ (b : Entry). is_begin b.item && int_lt b.offset offset && not (is_closed_between es b.offset offset)) es

-- the first End or Abort after an offset
abbrev pub first_close : List Entry → ℤ → Option Entry
first_close es offset = find (λ (e : Entry). closes e.item && int_lt offset e.offset) es

-- whether it is an End at an offset of at most this one
abbrev pub is_ended_by : ℤ → Option Entry → Bool
is_ended_by at None = false
is_ended_by at (Some e) = is_end e.item && int_le e.offset at

-- A record counts at an offset where it stands at or before it, is no marker, and either stands outside every
-- transaction or its transaction is ended by then.
abbrev pub is_counted : List Entry → ℤ → Entry → Bool
is_counted es at e = int_le e.offset at && not (is_marker e.item) && (not (is_inside es e.offset) || is_ended_by at (first_close es e.offset))

-- the records that count at an offset
abbrev pub counting_records : List Entry → ℤ → List Entry
counting_records es at = filter (is_counted es at) es

-- A transaction is open at an offset where a Begin at or before it has no End or Abort after it by then.
abbrev pub is_open : List Entry → ℤ → Bool
is_open es at = is_inside es (at +ℤ pos 1)

-- The offset of the open transaction's Begin: the first with no End or Abort after it.
abbrev pub open_begin : List Entry → Option ℤ
open_begin es = option_map (λ (e : Entry). e.offset) (find (λ (b : Entry). is_begin b.item && not (list_any (λ (e : Entry). closes e.item && int_lt b.offset e.offset) es)) es)

-- The records of the open transaction: those that are no marker, stand inside a transaction, and have no End or Abort
-- after them.
abbrev pub records_of_open : List Entry → List Entry
records_of_open es = filter (λ (e : Entry). is_inside es e.offset && not (is_marker e.item) && not (list_any (λ (c : Entry). closes c.item && int_lt e.offset c.offset) es)) es

-- ---- the commit of the migration

abbrev pub is_migration : MetaRecord → Bool
is_migration (meta.ZkMigrationState state) = int_eq state MIGRATION
is_migration r = false

abbrev pub is_at : ℤ → Option Entry → Bool
is_at offset None = false
is_at offset (Some e) = int_eq e.offset offset

-- whether the transaction that this entry ends holds the record of the migration's state
abbrev pub ends_migration : List Entry → Entry → Bool
ends_migration es e = is_end e.item && list_any (λ (s : Entry). is_migration s.item && is_inside es s.offset && is_at e.offset (first_close es s.offset)) es

-- The offset of the End of the first transaction that is ended and holds the record of the migration's state.
abbrev pub commit : List Entry → Option ℤ
commit es = option_map (λ (e : Entry). e.offset) (find (ends_migration es) es)
