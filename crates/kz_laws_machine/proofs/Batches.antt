-- Batches that leave a log unmigrated, and its state.
use Rattle.std.proofs.Common.{◌≡◌, inl, inr, ℤ, pos, ◌+ℤ◌, Bool, true, false, List, [], ◌∷◌, Some, None, All, refl}
use Rattle.std.proofs.lemmas.List.Elements.{All-nil, All-cons, All-head, All-tail}
use Rattle.kz_types.specs.declared.codes.TheConstants.{PRE_MIGRATION}
use Rattle.kz_types.specs.declared.record.MetaRecord.{MetaRecord}
use Rattle.kz_types.specs.declared.record.MetaRecord.TheVariants as meta
use Rattle.kz_spec_data.specs.Log.{Log, end_of, with_batch, begun_of}
use Rattle.kz_spec_machine.specs.Driver.{begin_record}
use Rattle.kz_spec_machine.specs.Sound.{LogShape, Unmigrated, IsTranslated}
use Rattle.kz_laws_machine.specs.LogLaws.{IsPlain, IsUncommitted}
use Rattle.kz_laws_machine.proofs.Migration.{NoneEnds, next_entries, numbered_plain, plain_ends, numbered_uncommitted, uncommitted_ends}
use Rattle.kz_laws_machine.proofs.Opened.{elected_records}
use Rattle.kz_laws_machine.proofs.Counted.{unmigrated_more, early_counted, begin_may_count, elected_may_count, fill_early}

-- ---- records that are plain

translated_plain : (r : MetaRecord) → IsTranslated r → IsPlain r
translated_plain meta.EndTransaction is = absurd is
translated_plain (meta.ZkMigrationState s) is = absurd is
translated_plain r is = tt

pub all_plain : (items : List MetaRecord) → All IsTranslated items → All IsPlain items
all_plain [] all = All-nil IsPlain
all_plain (r ∷ rs) all = All-cons IsPlain r rs (translated_plain r (All-head IsTranslated r rs all)) (all_plain rs (All-tail IsTranslated r rs all))

pub begin_plain : All IsPlain (begin_record ∷ [])
begin_plain = All-cons IsPlain begin_record [] tt (All-nil IsPlain)

pub plain_end_none : (l : Log) (epoch : ℤ) (items : List MetaRecord) → All IsPlain items → NoneEnds (next_entries l epoch items)
plain_end_none l epoch items plain = plain_ends (next_entries l epoch items) (numbered_plain (end_of l +ℤ pos 1) epoch items plain)

-- ---- what an election writes

state_early : IsUncommitted (meta.ZkMigrationState PRE_MIGRATION)
state_early = inr (PRE_MIGRATION, refl, refl)

-- one that ends a transaction, and the first state
abbrev ending : List MetaRecord
ending = meta.AbortTransaction None ∷ []

abbrev starting : List MetaRecord
starting = meta.ZkMigrationState PRE_MIGRATION ∷ []

starts : All IsUncommitted starting
starts = All-cons IsUncommitted (meta.ZkMigrationState PRE_MIGRATION) [] state_early (All-nil IsUncommitted)

pub elected_uncommitted : (opened first : Bool) → All IsUncommitted (elected_records opened first)
elected_uncommitted true true = All-cons IsUncommitted meta.NoOp (meta.AbortTransaction None ∷ starting) (inl tt) (All-cons IsUncommitted (meta.AbortTransaction None) starting (inl tt) starts)
elected_uncommitted true false = All-cons IsUncommitted meta.NoOp ending (inl tt) (All-cons IsUncommitted (meta.AbortTransaction None) [] (inl tt) (All-nil IsUncommitted))
elected_uncommitted false true = All-cons IsUncommitted meta.NoOp starting (inl tt) starts
elected_uncommitted false false = All-cons IsUncommitted meta.NoOp [] (inl tt) (All-nil IsUncommitted)

-- where it gives no first state, it is plain
pub elected_plain : (opened : Bool) → All IsPlain (elected_records opened false)
elected_plain true = All-cons IsPlain meta.NoOp ending tt (All-cons IsPlain (meta.AbortTransaction None) [] tt (All-nil IsPlain))
elected_plain false = All-cons IsPlain meta.NoOp [] tt (All-nil IsPlain)

pub elected_end_none : (l : Log) (epoch : ℤ) (opened first : Bool) → NoneEnds (next_entries l epoch (elected_records opened first))
elected_end_none l epoch opened first = uncommitted_ends (next_entries l epoch (elected_records opened first)) (numbered_uncommitted (end_of l +ℤ pos 1) epoch (elected_records opened first) (elected_uncommitted opened first))

-- ---- an unmigrated log

pub begin_unmigrated : (l : Log) (epoch now : ℤ) → LogShape l → Unmigrated l → Unmigrated (with_batch l epoch now (begin_record ∷ []))
begin_unmigrated l epoch now shape before =
    unmigrated_more l epoch now (begin_record ∷ []) shape (plain_end_none l epoch (begin_record ∷ []) begin_plain) (early_counted l epoch now (begin_record ∷ []) shape (begin_may_count (end_of l +ℤ pos 1) epoch)) before

pub fill_unmigrated : (l : Log) (epoch now from : ℤ) (items : List MetaRecord) → LogShape l → All IsTranslated items → begun_of l ≡ Some from → Unmigrated l → Unmigrated (with_batch l epoch now items)
fill_unmigrated l epoch now from items shape all is before = unmigrated_more l epoch now items shape (plain_end_none l epoch items (all_plain items all)) (fill_early l epoch now items from shape all is) before

pub elected_unmigrated : (l : Log) (epoch now : ℤ) (opened first : Bool) → LogShape l → Unmigrated l → Unmigrated (with_batch l epoch now (elected_records opened first))
elected_unmigrated l epoch now opened first shape before =
    unmigrated_more l epoch now (elected_records opened first) shape (elected_end_none l epoch opened first) (early_counted l epoch now (elected_records opened first) shape (elected_may_count (end_of l +ℤ pos 1) epoch opened first)) before
