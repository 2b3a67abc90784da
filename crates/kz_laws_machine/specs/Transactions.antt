-- What a batch more makes of the transaction that is open at a log's end.
use Rattle.std.specs.Prelude.{◌≡◌, ℤ, pos, ◌+ℤ◌, true, false, List, ◌∷◌, [], ◌++◌, Some, None, All}
use Rattle.kz_types.specs.declared.record.MetaRecord.{MetaRecord}
use Rattle.kz_spec_data.specs.Log.{Log, end_of, with_batch, is_open_log, begun_of, commit_of}
use Rattle.kz_spec_machine.specs.Driver.{begin_record, commit_records}
use Rattle.kz_spec_machine.specs.Sound.{LogShape, Unmigrated, IsTranslated, records_from}

-- A log in which no transaction is open has no open Begin.
abbrev pub SettledHasNone : Type 0
SettledHasNone = (l : Log) → LogShape l → is_open_log l ≡ false → begun_of l ≡ None

-- With a Begin, where none was open, it is the open one, and the first record from there on.
abbrev pub BeginOpens : Type 0
BeginOpens = (l : Log) (epoch now : ℤ) → LogShape l → LogShape (with_batch l epoch now (begin_record ∷ [])) → is_open_log l ≡ false
    → (begun_of (with_batch l epoch now (begin_record ∷ [])) ≡ Some (end_of l +ℤ pos 1)) × (records_from (with_batch l epoch now (begin_record ∷ [])) (end_of l +ℤ pos 1) ≡ begin_record ∷ [])

-- Records of a translation leave it open, and come after those that it had.
abbrev pub FillKeepsOpen : Type 0
FillKeepsOpen = (l : Log) (epoch now from : ℤ) (items records : List MetaRecord) → LogShape l → LogShape (with_batch l epoch now items) → All IsTranslated items → begun_of l ≡ Some from → records_from l from ≡ begin_record ∷ records
    → (begun_of (with_batch l epoch now items) ≡ Some from) × (records_from (with_batch l epoch now items) from ≡ begin_record ∷ (records ++ items))

-- They leave an unmigrated log so.
abbrev pub FillStaysUnmigrated : Type 0
FillStaysUnmigrated = (l : Log) (epoch now from : ℤ) (items : List MetaRecord) → LogShape l → All IsTranslated items → begun_of l ≡ Some from → Unmigrated l → Unmigrated (with_batch l epoch now items)

-- The records of the commit end it.
abbrev pub CommitCloses : Type 0
CommitCloses = (l : Log) (epoch now : ℤ) → LogShape (with_batch l epoch now commit_records) → is_open_log (with_batch l epoch now commit_records) ≡ false

-- Where the log wasn't migrated and a transaction was open, its End is the commit of the log.
abbrev pub CommitIsEnd : Type 0
CommitIsEnd = (l : Log) (epoch now : ℤ) → LogShape l → Unmigrated l → is_open_log l ≡ true → commit_of (with_batch l epoch now commit_records) ≡ Some (end_of (with_batch l epoch now commit_records))
