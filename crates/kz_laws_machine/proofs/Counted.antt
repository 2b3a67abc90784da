-- What counts of a batch more, and what is made of it.
use Rattle.std.proofs.Common.{◌≡◌, inr, ℤ, pos, ◌+ℤ◌, Bool, true, false, not, ◌&&◌, ◌||◌, cond, List, [], ◌∷◌, Some, is_some, All, refl, sym, ap, ◌∙◌, subst}
use Rattle.std.specs.Prelude.{⊤}
use Rattle.std.proofs.lemmas.List.Elements.{All-nil, All-cons, All-append}
use Rattle.kz_types.specs.declared.codes.TheConstants.{MIGRATION}
use Rattle.kz_types.specs.declared.log.Entry.{Entry}
use Rattle.kz_types.specs.declared.record.MetaRecord.{MetaRecord}
use Rattle.kz_types.specs.declared.record.MetaRecord.TheVariants as meta
use Rattle.kz_spec_data.specs.Settlement.{is_begin, closes, is_marker, counting_records}
use Rattle.kz_spec_data.specs.Image.{Image, image_with, all_applied}
use Rattle.kz_spec_data.specs.Log.{Log, end_of, entries_at_offsets, entries, all_entries_applied, image_at, image_of, with_batch, is_open_log, begun_of}
use Rattle.kz_spec_machine.specs.Driver.{begin_record, commit_records}
use Rattle.kz_spec_machine.specs.Sound.{LogShape, IsBeforeMigration, Unmigrated, IsTranslated}
use Rattle.kz_laws_machine.proofs.Migration.{NoneEnds, applied_append, next_entries, next_counted, counting_more, more_applied}
use Rattle.kz_laws_machine.proofs.Begun.{begin_in, open_log}
use Rattle.kz_laws_machine.proofs.LogSettled.{is_ended_in, open_after, settled, next_settled}
use Rattle.kz_laws_machine.proofs.Pending.{pending, NoneMarks}
use Rattle.kz_laws_machine.proofs.Commit.{state_entry, none_settled, added, commit_counts}
use Rattle.kz_laws_machine.proofs.Opened.{elected_records, fill_closes, begun_is_open}

-- ---- before the migration

abbrev pub IsEarly : Entry → Type 0
IsEarly e = IsBeforeMigration e.item

-- each record is a marker, or one before the migration
abbrev pub AllMayCount : List Entry → Type 0
AllMayCount [] = ⊤
AllMayCount (e ∷ es) = (is_marker e.item ≡ false → IsEarly e) × AllMayCount es

early_if : (b c : Bool) (e : Entry) (es : List Entry) → (b ≡ false → IsEarly e) → All IsEarly es → All IsEarly (cond (not b && c) (e ∷ es) es)
early_if true c e es own rest = rest
early_if false true e es own rest = All-cons IsEarly e es (own refl) rest
early_if false false e es own rest = rest

settled_early : (at : ℤ) (within : Bool) (es : List Entry) → AllMayCount es → All IsEarly (settled at within es)
settled_early at within [] all = All-nil IsEarly
settled_early at within (e ∷ es) all = early_if (is_marker e.item) (not within || is_ended_in at es) e (settled at (open_after within e) es) all.0 (settled_early at (open_after within e) es all.1)

-- records of which those that count are such keep a log so
pub unmigrated_more : (l : Log) (epoch now : ℤ) (items : List MetaRecord) → LogShape l → NoneEnds (next_entries l epoch items) → All IsEarly (next_counted l epoch now items) → Unmigrated l → Unmigrated (with_batch l epoch now items)
unmigrated_more l epoch now items shape none early before = record {
  base = before.base;
  records = subst (All IsEarly) (sym (counting_more l epoch now items shape none)) (All-append IsEarly (counting_records (entries l.batches) (end_of l)) (next_counted l epoch now items) before.records early);
}

pub early_counted : (l : Log) (epoch now : ℤ) (items : List MetaRecord) → LogShape l → AllMayCount (next_entries l epoch items) → All IsEarly (next_counted l epoch now items)
early_counted l epoch now items shape all = subst (All IsEarly) (sym (next_settled l epoch now items shape)) (settled_early (end_of (with_batch l epoch now items)) (is_some (begin_in (entries l.batches))) (next_entries l epoch items) all)

pub begin_may_count : (offset epoch : ℤ) → AllMayCount (entries_at_offsets offset epoch (begin_record ∷ []))
begin_may_count offset epoch = (λ none. absurd (cc), tt)

pub elected_may_count : (offset epoch : ℤ) (opened first : Bool) → AllMayCount (entries_at_offsets offset epoch (elected_records opened first))
elected_may_count offset epoch true true = (λ none. tt, (λ none. absurd (cc), (λ none. inr refl, tt)))
elected_may_count offset epoch true false = (λ none. tt, (λ none. absurd (cc), tt))
elected_may_count offset epoch false true = (λ none. tt, (λ none. inr refl, tt))
elected_may_count offset epoch false false = (λ none. tt, tt)

-- ---- within a transaction

opened_in : (l : Log) (from : ℤ) → LogShape l → begun_of l ≡ Some from → is_some (begin_in (entries l.batches)) ≡ true
opened_in l from shape is = sym (open_log l shape) ∙ begun_is_open l from shape is

-- records of a translation don't count in an open one
pub fill_counts_none : (l : Log) (epoch now : ℤ) (items : List MetaRecord) (from : ℤ) → LogShape l → All IsTranslated items → begun_of l ≡ Some from → next_counted l epoch now items ≡ []
fill_counts_none l epoch now items from shape all is =
    let new = next_entries l epoch items in
    let later = end_of (with_batch l epoch now items) in
    next_settled l epoch now items shape ∙ ap (λ (b : Bool). settled later b new) (opened_in l from shape is) ∙ none_settled later new (fill_closes (end_of l +ℤ pos 1) epoch items all)

pub fill_early : (l : Log) (epoch now : ℤ) (items : List MetaRecord) (from : ℤ) → LogShape l → All IsTranslated items → begun_of l ≡ Some from → All IsEarly (next_counted l epoch now items)
fill_early l epoch now items from shape all is = subst (All IsEarly) (sym (fill_counts_none l epoch now items from shape all is)) (All-nil IsEarly)

-- ---- outside of one

none_opened : (l : Log) → LogShape l → is_open_log l ≡ false → is_some (begin_in (entries l.batches)) ≡ false
none_opened l shape still = sym (open_log l shape) ∙ still

unmarked_settled : (at : ℤ) (es : List Entry) → NoneMarks es → settled at false es ≡ es
unmarked_settled at [] none = refl
unmarked_settled at (e ∷ es) none =
    ap (λ (b : Bool). cond (not b && true) (e ∷ settled at (open_after false e) es) (settled at (open_after false e) es)) none.0
    ∙ ap (λ (b : Bool). e ∷ settled at b es) (not_begun e none.0) ∙ ap (λ (l : List Entry). e ∷ l) (unmarked_settled at es none.1)
  where
    first_of : (a b : Bool) → (a || b) ≡ false → (a || false) ≡ false
    first_of true b is = absurd (cc)
    first_of false b is = refl

    not_begun : (e : Entry) → is_marker e.item ≡ false → open_after false e ≡ false
    not_begun e none = first_of (is_begin e.item) (closes e.item) none

-- all records that are no marker count
pub unmarked_count : (l : Log) (epoch now : ℤ) (items : List MetaRecord) → LogShape l → is_open_log l ≡ false → NoneMarks (next_entries l epoch items) → next_counted l epoch now items ≡ next_entries l epoch items
unmarked_count l epoch now items shape still none =
    let new = next_entries l epoch items in
    let later = end_of (with_batch l epoch now items) in
    next_settled l epoch now items shape ∙ ap (λ (b : Bool). settled later b new) (none_opened l shape still) ∙ unmarked_settled later new none

numbered_applied : (offset epoch : ℤ) (items : List MetaRecord) (i : Image) → all_entries_applied (entries_at_offsets offset epoch items) i ≡ all_applied epoch items i
numbered_applied offset epoch [] i = refl
numbered_applied offset epoch (r ∷ rs) i = numbered_applied (offset +ℤ pos 1) epoch rs (image_with epoch r i)

pub unmarked_applied : (l : Log) (epoch now : ℤ) (items : List MetaRecord) → LogShape l → is_open_log l ≡ false → NoneMarks (next_entries l epoch items) → NoneEnds (next_entries l epoch items) → image_of (with_batch l epoch now items) ≡ all_applied epoch items (image_of l)
unmarked_applied l epoch now items shape still none ends =
    more_applied l epoch now items shape ends ∙ ap (λ (es : List Entry). all_entries_applied es (image_of l)) (unmarked_count l epoch now items shape still none) ∙ numbered_applied (end_of l +ℤ pos 1) epoch items (image_of l)

-- ---- the commit

pub commit_applied : (l : Log) (epoch now : ℤ) → LogShape l → NoneMarks (pending (entries l.batches)) → image_of (with_batch l epoch now commit_records) ≡ image_with epoch (meta.ZkMigrationState MIGRATION) (all_entries_applied (pending (entries l.batches)) (image_of l))
unfolding image_at
commit_applied l epoch now shape marks =
    let counted = counting_records (entries l.batches) (end_of l) in
    let es = pending (entries l.batches) in
    let state = state_entry (end_of l +ℤ pos 1) epoch ∷ [] in
    ap (λ (all : List Entry). all_entries_applied all l.base_image) (commit_counts l epoch now shape marks)
    ∙ applied_append counted (added (end_of l +ℤ pos 1) epoch (entries l.batches)) l.base_image
    ∙ applied_append es state (image_of l)
