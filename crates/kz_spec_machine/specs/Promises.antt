-- What is promised of a run: of each of its moments, which are its beginning and the end of each of its requests, and of its events.
use Rattle.std.specs.Prelude.{◌≡◌, ◌⊎◌, ⊤, All, ℕ, ℤ, pos, negsuc, ◌≤ℤ◌, int_le, true, false, if◌then◌else◌, List, [], ◌∷◌, ◌++◌, Option, Some, None, Ok}
use Rattle.std.specs.List.{filter}
use Rattle.kz_types.specs.declared.log.BatchRow.{BatchRow}
use Rattle.kz_types.specs.declared.log.Entry.{Entry}
use Rattle.kz_types.specs.declared.machine.Answer.{Answer}
use Rattle.kz_types.specs.declared.machine.Answer.TheVariants as answer
use Rattle.kz_types.specs.declared.machine.Event.{Event}
use Rattle.kz_types.specs.declared.machine.Event.TheVariants as event
use Rattle.kz_types.specs.declared.machine.Recorded.{Recorded}
use Rattle.kz_types.specs.declared.record.MetaRecord.{MetaRecord}
use Rattle.kz_types.specs.declared.tree.Rendered.{Rendered}
use Rattle.kz_types.specs.Order.{bytes_cmp}
use Rattle.kz_types.specs.Ordered.{find}
use Rattle.kz_spec_data.specs.Tree.{Tree, area, migration_record, migrated_rows, path_of_rendered, unclosed_path}
use Rattle.kz_spec_data.specs.Settlement.{is_marker}
use Rattle.kz_spec_data.specs.Log.{Log, commit_of, end_of, entries, entries_at_offsets, image_at, is_migrated_log, is_open_log, may_be_base, reset, snapshot}
use Rattle.kz_spec_data.specs.Rendering.{render}
use Rattle.kz_spec_data.specs.Translation.{translate}
use Rattle.kz_spec_machine.specs.Driver.{Shared, begin_record, commit_records}
use Rattle.kz_spec_machine.specs.Machine.{World, Pair, pair_of, event_pairs, request_pairs, is_finalised_log, next, after_events}
use Rattle.kz_spec_machine.specs.Sound.{IsBatchEnd, IsPastCommit, Agreement}
use Rattle.kz_spec_machine.specs.InStep.{StaysInStep}

-- ---- moments

-- This relation holds between each moment of a run and the next one.
abbrev pub Linked : (Pair → Pair → Type 0) → Pair → List Pair → Type 0
Linked R p [] = ⊤
Linked R p (q ∷ qs) = R p q × Linked R q qs

-- ---- a migration is committed whole, as the translation of the znodes

-- the records from an offset on, with their offsets and epochs
abbrev pub entries_from : Log → ℤ → List Entry
entries_from l from = filter (λ (e : Entry). int_le from e.offset) (entries l.batches)

-- What stands in the log from this offset on is these records. The first stands at the offset, and each other one at the offset
-- after the one before it. All of them are of the log's epoch.
abbrev pub EndsWith : Log → ℤ → List MetaRecord → Type 0
EndsWith l from records = entries_from l from ≡ entries_at_offsets from l.epoch records

-- The transaction of a commit: its Begin, the translation of the migrated area, the state of the migration and the End, at offsets
-- without a gap and in one epoch; and the End is the log's last record and its commit.
pub record IsTranslation (t : Tree) (l : Log) : Type 0 where
  pub from : ℤ
  pub records : List MetaRecord
  pub translated : translate (migrated_rows t) ≡ Ok records
  pub transaction : EndsWith l from (begin_record ∷ (records ++ commit_records))
  pub commit : commit_of l ≡ Some (end_of l)

-- No record of a batch begins or ends a transaction.
abbrev pub HoldsNoMarker : BatchRow → Type 0
HoldsNoMarker b = All (λ (r : MetaRecord). is_marker r ≡ false) b.items

-- The later log is the earlier one with batches appended, or without a change. No record of these batches begins or ends a
-- transaction.
pub record BeginsNone (l later : Log) : Type 0 where
  pub new : List BatchRow
  pub base : later.base ≡ l.base
  pub base_image : later.base_image ≡ l.base_image
  pub appended : later.batches ≡ l.batches ++ new
  pub unmarked : All HoldsNoMarker new

-- A log stays migrated, no transaction is open in it, and none is begun.
pub record StaysCommitted (l later : Log) : Type 0 where
  pub migrated : is_migrated_log later ≡ true
  pub settled : is_open_log later ≡ false
  pub begins : BeginsNone l later

-- A migrated log is cut at the offset that the tree records, where it may be. It stays migrated, with no transaction open in it, and
-- the tree stays.
pub record IsSnapshotOf (p q : Pair) : Type 0 where
  pub record_is : Recorded
  pub recorded : migration_record p.tree ≡ Some record_is
  pub may : may_be_base p.log record_is.offset ≡ true
  pub cut : q.log ≡ snapshot p.log record_is.offset
  pub tree : q.tree ≡ p.tree
  pub migrated : is_migrated_log q.log ≡ true
  pub settled : is_open_log q.log ≡ false

-- The request that commits a migration commits the translation of the znodes that stand then, and leaves the tree. After it
-- the log stays migrated, and no further transaction begins, until the log is reset. A snapshot may cut it.
pub record CommitsWhole (p q : Pair) : Type 0 where
  pub commits : is_migrated_log p.log ≡ false → is_migrated_log q.log ≡ true → IsTranslation p.tree q.log × (q.tree ≡ p.tree)
  pub stays : is_migrated_log p.log ≡ true → (q.log ≡ reset p.log) ⊎ StaysCommitted p.log q.log ⊎ IsSnapshotOf p q

-- ---- each znode agrees with the log, path by path

-- what stands at a path
abbrev pub at_path : List ℕ → List Rendered → Option Rendered
at_path path znodes = find bytes_cmp path_of_rendered path znodes

-- A path is as it is rendered at a batch end, one that isn't before a commit, nor before the offset that is recorded.
pub record IsRendered (t : Tree) (l : Log) (r : Recorded) (path : List ℕ) : Type 0 where
  pub offset : ℤ
  pub end : IsBatchEnd l offset
  pub past : IsPastCommit l offset
  pub recorded : r.offset ≤ℤ offset
  pub same : at_path path (area t) ≡ at_path path (render (image_at l offset))

-- A path is as it was at the commit, and no offset has been recorded since.
pub record IsAsCommitted (t : Tree) (source : List Rendered) (r : Recorded) (path : List ℕ) : Type 0 where
  pub none : r.offset ≡ negsuc 0
  pub same : at_path path (area t) ≡ at_path path source

-- Each path is one or the other, where the log is migrated: absence included, and each path by itself.
abbrev pub PathsAgree : List Rendered → Pair → Type 0
PathsAgree source p = is_migrated_log p.log ≡ true → (r : Recorded) → migration_record p.tree ≡ Some r → (path : List ℕ) → IsAsCommitted p.tree source r path ⊎ IsRendered p.tree p.log r path

-- the migrated area as it was at the last moment before the log was migrated
abbrev pub source_after : List Rendered → Pair → List Rendered
source_after source p = if is_migrated_log p.log then source else area p.tree

-- The paths agree at this moment and at those after it.
abbrev pub AgreeFrom : List Rendered → Pair → List Pair → Type 0
AgreeFrom source p [] = PathsAgree source p
AgreeFrom source p (q ∷ qs) = PathsAgree source p × AgreeFrom (source_after source p) q qs

-- Where an offset is recorded and no znode of the migrated area was written since, all of them are as they are rendered at it.
abbrev pub IsAsRecorded : Pair → Type 0
IsAsRecorded p = is_migrated_log p.log ≡ true → (r : Recorded) → migration_record p.tree ≡ Some r → pos 0 ≤ℤ r.offset → unclosed_path p.tree ≡ None → area p.tree ≡ render (image_at p.log r.offset)

-- A migrated log and its tree are in agreement: a KRaft controller holds the tree; no transaction is open at a batch end that isn't
-- before a commit; the metadata at each batch end keeps the limits; and `/migration` is there and can be read. It records an
-- offset, which is a batch end that isn't before a commit, or, after a commit, that there is none yet.
pub record IsAgreed (t : Tree) (l : Log) : Type 0 where
  pub record_is : Recorded
  pub found : migration_record t ≡ Some record_is
  pub agreement : Agreement t l

-- They are, where the log is migrated.
abbrev pub IsInAgreement : Pair → Type 0
IsInAgreement p = is_migrated_log p.log ≡ true → IsAgreed p.tree p.log

-- ---- after a migration is finalised

-- a step, a turn or a rollback
abbrev pub IsStepTurnOrRollback : Event → Type 0
IsStepTurnOrRollback (event.Step id now plan) = ⊤
IsStepTurnOrRollback (event.Turn id now) = ⊤
IsStepTurnOrRollback event.Rollback = ⊤
IsStepTurnOrRollback e = ⊥

-- A rollback is refused since the migration is finalised, or since a controller runs.
abbrev pub IsFinalRefusal : Answer → Type 0
IsFinalRefusal a = (a ≡ answer.Finalised) ⊎ ((id : ℤ) × (a ≡ answer.Running id))

-- a moment at which the tree and the log are these
abbrev pub IsMomentOf : Shared → Pair → Type 0
IsMomentOf s p = p ≡ pair_of s

-- What an event leaves of a migration that is finalised: it stays so. A step, a turn or a rollback changes neither the tree nor
-- the log, at none of its moments, and a rollback is refused.
pub record StaysFinalised (w : World) (e : Event) : Type 0 where
  pub still : is_finalised_log (next w e).0.shared.log ≡ true
  pub unchanged : IsStepTurnOrRollback e → (next w e).0.shared ≡ w.shared
  pub moments : IsStepTurnOrRollback e → All (IsMomentOf w.shared) (event_pairs w e)
  pub refused : e ≡ event.Rollback → IsFinalRefusal (next w e).1

-- ---- runs

-- the moments of these events, from this world on
abbrev pub first_moment : World → Pair
first_moment w = pair_of w.shared

abbrev pub further_moments : World → List Event → List Pair
further_moments w es = request_pairs w es

-- A migration is committed whole or not at all.
abbrev pub CommittedWhole : World → List Event → Type 0
CommittedWhole w es = Linked CommitsWhole (first_moment w) (further_moments w es)

-- Each znode agrees with the log. Where the log is migrated when the run begins, its source is the area then.
abbrev pub Agreeing : World → List Event → Type 0
Agreeing w es = AgreeFrom (area w.shared.tree) (first_moment w) (further_moments w es)

-- A tree that wasn't written since an offset was recorded is as it was recorded.
abbrev pub StayingAsRecorded : World → List Event → Type 0
StayingAsRecorded w es = All IsAsRecorded (first_moment w ∷ further_moments w es)

-- A migrated log and its tree are in agreement.
abbrev pub StayingInAgreement : World → List Event → Type 0
StayingInAgreement w es = All IsInAgreement (first_moment w ∷ further_moments w es)

-- After a migration is finalised, it stays so at each further event, no step, turn or rollback changes the tree or the log, and
-- each rollback is refused.
abbrev pub FinalisedForGood : World → List Event → Type 0
FinalisedForGood w es = (before after : List Event) (e : Event) → es ≡ before ++ e ∷ after → is_finalised_log (after_events w before).shared.log ≡ true → StaysFinalised (after_events w before) e

-- What is promised of these events, from this world on.
pub record Promises (w : World) (es : List Event) : Type 0 where
  -- A migration is committed whole or not at all, as the translation of the znodes that it read.
  pub committed : CommittedWhole w es
  -- Each migrated znode is as it is rendered at the recorded offset or at a later one. Until a first offset is recorded, it may
  -- be as it was at the commit.
  pub agrees : Agreeing w es
  -- All are as they are rendered at the recorded one where no later write stands.
  pub recorded : StayingAsRecorded w es
  -- While the log is migrated, a KRaft controller holds the tree, and `/migration` can be read and agrees with the log.
  pub in_agreement : StayingInAgreement w es
  -- After each turn that comes to rest in dual write, they are as they are rendered at the log's end.
  pub in_step : StaysInStep w es
  -- After the migration is finalised, it stays so, no step, turn or rollback changes the tree or the log, and each rollback is
  -- refused.
  pub finalised : FinalisedForGood w es
