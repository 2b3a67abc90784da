-- A migration is committed as the translation of the znodes that stand then.
use Rattle.std.specs.Prelude.{◌≡◌, ⊤, ℤ, pos, ◌+ℤ◌, List, [], ◌∷◌, ◌++◌, length, Some, Ok, All}
use Rattle.kz_types.specs.declared.driver.Stage.{Stage}
use Rattle.kz_types.specs.declared.driver.Stage.TheVariants as stage
use Rattle.kz_types.specs.declared.machine.Event.{Event}
use Rattle.kz_types.specs.declared.plan.Plan.{Plan}
use Rattle.kz_types.specs.declared.record.MetaRecord.{MetaRecord}
use Rattle.kz_spec_data.specs.Tree.{Tree, migrated_rows}
use Rattle.kz_spec_data.specs.Log.{Log, append, end_of, begun_of}
use Rattle.kz_spec_data.specs.Translation.{translate}
use Rattle.kz_spec_machine.specs.Driver.{Shared, Driver, epoch_or_zero, begin_record, commit_records, planned_step}
use Rattle.kz_spec_machine.specs.Machine.{World, next, after_events}
use Rattle.kz_spec_machine.specs.Sound.{IsTime, IsCurrent, IsSharedSound, records_from, IsSoundDriver, Each, Sound, IsLawful}
use Rattle.kz_spec_machine.specs.Promises.{EndsWith, IsTranslation}
use Rattle.kz_laws_events.specs.Steps.{IsApartFrom}

-- These records are the last of the log, from this offset up to its end, without a gap and of the log's epoch.
pub record IsUnbroken (l : Log) (from : ℤ) (records : List MetaRecord) : Type 0 where
  pub stand : EndsWith l from records
  pub end : end_of l +ℤ pos 1 ≡ from +ℤ pos (length records)

-- The records that stand after a Begin, and those that are still to append, are the translation of the migrated area. Those
-- that stand are unbroken from the Begin on.
pub record IsCopied (t : Tree) (l : Log) (from : ℤ) (records rest : List MetaRecord) : Type 0 where
  pub translated : translate (migrated_rows t) ≡ Ok (records ++ rest)
  pub unbroken : IsUnbroken l from (begin_record ∷ records)

-- The records that a current driver has appended in its transaction, and those that it has still to append, are the translation
-- of the migrated area. Those that it has appended are unbroken.
abbrev pub CopiesAtStage : Tree → Log → Driver → Stage → Type 0
CopiesAtStage t l d (stage.AppendRecords rest) = IsCurrent t d.claim → d.epoch ≡ Some l.epoch → (from : ℤ) (records : List MetaRecord) → begun_of l ≡ Some from → records_from l from ≡ begin_record ∷ records → IsCopied t l from records rest
CopiesAtStage t l d x = ⊤

abbrev pub Copies : Shared → Driver → Type 0
Copies s d = CopiesAtStage s.tree s.log d d.stage

-- What a step leaves of this: its own driver's, and that of each other one.
pub record StepCopies (s : Shared) (d : Driver) (new : Shared) (after : Driver) : Type 0 where
  pub driver : Copies new after
  pub others : (other : Driver) → IsApartFrom d other → IsSoundDriver s other → Copies s other → Copies new other

-- Every step keeps it, under every plan.
abbrev pub StepsKeepCopies : Type 0
StepsKeepCopies = (p : Plan) (s : Shared) (running : List ℤ) (now : ℤ) (d : Driver) → IsTime now → IsSharedSound s → IsSoundDriver s d → Copies s d → StepCopies s d (planned_step p s running now d).shared (planned_step p s running now d).driver

-- An append that commits the migration leaves its translation in the log.
abbrev pub CommitsTranslate : Type 0
CommitsTranslate = (s : Shared) (now : ℤ) (d : Driver) (new : Log) → IsSharedSound s → IsSoundDriver s d → Copies s d → d.stage ≡ stage.AppendRecords [] → append s.log (epoch_or_zero d.epoch) now commit_records ≡ Ok new → IsTranslation s.tree new

-- Every event keeps it for each driver of a sound world.
abbrev pub EventsKeepCopies : Type 0
EventsKeepCopies = (w : World) (e : Event) → IsLawful e → Sound w → Each (Copies w.shared) w.drivers → Each (Copies (next w e).0.shared) (next w e).0.drivers

-- So does every run.
abbrev pub RunsKeepCopies : Type 0
RunsKeepCopies = (es : List Event) (w : World) → All IsLawful es → Sound w → Each (Copies w.shared) w.drivers → Each (Copies (after_events w es).shared) (after_events w es).drivers
