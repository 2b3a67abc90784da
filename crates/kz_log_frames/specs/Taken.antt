-- What the payloads of frames make of a log, as they are read.
use Rattle.std.specs.Prelude.{◌≡◌, List, Result, Ok, Err, ⊤, if◌then◌else◌}
use Rattle.kz_types.specs.declared.record.MetaRecord.{MetaRecord}
use Rattle.kz_types.specs.declared.record.CodecFault.{CodecFault}
use Rattle.kz_spec_data.specs.Batches.{BatchContents}
use Rattle.kz_spec_data.specs.Log.{Log, with_row}
use Rattle.kz_spec_data.specs.LogFile.{follows, batch_row}
use Rattle.kz_types.specs.declared.fault.LogWhy.{LogWhy}
use Rattle.kz_types.specs.declared.fault.LogWhy.TheVariants.{Header, Malformed, Batch, Value, Sequence, Sum}
use Rattle.kz_log_frames.specs.declared.fault.FrameFault.{FrameFault}
use Rattle.kz_log_frames.specs.declared.fault.FrameFault.TheVariants.{Why, NoMemory}

-- A call answers what the bytes say, unless memory ran out.
abbrev pub Says : {X Y : Type 0} → (X → Y) → Result X FrameFault → Result Y LogWhy → Type 0
Says view (Ok x) said = said ≡ Ok (view x)
Says view (Err (Why why)) said = said ≡ Err why
Says view (Err NoMemory) said = ⊤

-- A call answers what the bytes of a value say, unless memory ran out.
abbrev pub ReadsItem : Result MetaRecord FrameFault → Result MetaRecord CodecFault → Type 0
ReadsItem (Ok r) said = said ≡ Ok r
ReadsItem (Err (Why Header)) said = ⊥
ReadsItem (Err (Why Malformed)) said = ⊥
ReadsItem (Err (Why (Batch e))) said = ⊥
ReadsItem (Err (Why (Value e))) said = said ≡ Err e
ReadsItem (Err (Why Sequence)) said = ⊥
ReadsItem (Err (Why Sum)) said = ⊥
ReadsItem (Err NoMemory) said = ⊤

-- the log with a batch that follows on it, or that the batch doesn't
abbrev pub row_or_not : Log → BatchContents → List MetaRecord → Result Log LogWhy
row_or_not l b items = if follows l b then Ok (with_row l (batch_row b items)) else Err Sequence
