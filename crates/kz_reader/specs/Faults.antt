-- How faults of a translation are told, and what holds while znodes are read.
use Rattle.std.specs.Prelude.{◌≡◌, ◌≤◌, ⊤, Ok, Err, List, ◌++◌, length, take, drop}
use Rattle.kz_types.specs.declared.tree.Row.{Row}
use Rattle.kz_types.specs.declared.record.MetaRecord.{MetaRecord}
use Rattle.kz_spec_data.specs.Translation.{Translated, records_after, all_records}
use Rattle.kz_reader.specs.declared.fault.ReadFault.{ReadFault}
use Rattle.kz_reader.specs.declared.fault.ReadFault.TheVariants.{Untranslatable, NoMemory}
use Rattle.kz_reader.specs.declared.reading.Reading.{Reading}
use Rattle.kz_reader.specs.Seen.{HasSeen}
use Rattle.kz_reader.specs.Known.{IsKnown}

-- the path and the reason of the translation, or out of memory
abbrev pub IsReadFault : Translated → ReadFault → Type 0
IsReadFault t (Untranslatable path why) = t ≡ Err (record { path = path; why = why })
IsReadFault t NoMemory = ⊤

-- the records that were made, and those of the znodes that remain
abbrev pub after_records : List MetaRecord → Translated → Translated
after_records done (Ok more) = Ok (done ++ more)
after_records done (Err e) = Err e

-- the first of these znodes were read: their records are there, and what is known of them
pub record IsReading (rows : List Row) (r : Reading) : Type 0 where
  pub seen : HasSeen rows r.seen
  pub few : r.seen.entries ≤ length r.records.items
  pub known : IsKnown rows r.known
  pub records : after_records r.records.items (records_after rows (take r.seen.done rows) (drop r.seen.done rows)) ≡ all_records rows
