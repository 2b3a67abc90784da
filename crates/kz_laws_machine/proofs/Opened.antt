-- Whether a transaction is open after a batch more.
use Rattle.std.proofs.Common.{◌≡◌, ℤ, pos, ◌+ℤ◌, Bool, true, false, not, ◌&&◌, ◌||◌, if◌then◌else◌, cond, List, [], ◌∷◌, ◌++◌, Option, Some, None, is_some, All, refl, sym, ap, ◌∙◌}
use Rattle.std.proofs.lemmas.List.Elements.{All-head, All-tail}
use Rattle.kz_types.specs.declared.codes.TheConstants.{PRE_MIGRATION}
use Rattle.kz_types.specs.declared.log.Entry.{Entry}
use Rattle.kz_types.specs.declared.record.MetaRecord.{MetaRecord}
use Rattle.kz_types.specs.declared.record.MetaRecord.TheVariants as meta
use Rattle.kz_spec_data.specs.Settlement.{is_begin, closes, is_marker}
use Rattle.kz_spec_data.specs.Log.{Log, end_of, entries_at_offsets, entries, with_batch, is_open_log, begun_of}
use Rattle.kz_spec_machine.specs.Driver.{begin_record, commit_records}
use Rattle.kz_spec_machine.specs.Sound.{LogShape, IsTranslated}
use Rattle.kz_laws_machine.proofs.Migration.{entries_more, next_entries}
use Rattle.kz_laws_machine.proofs.Rising.{more_entries}
use Rattle.kz_laws_machine.proofs.Begun.{any_closes, begin_in, first_begin, begun_log, open_log, none_begun, begun_past, begun_kept}
use Rattle.kz_laws_machine.proofs.Pending.{NoneMarks}

open_more : (l : Log) (epoch now : ℤ) (items : List MetaRecord) → LogShape (with_batch l epoch now items) → is_open_log (with_batch l epoch now items) ≡ is_some (begin_in (more_entries l epoch items))
open_more l epoch now items shape = open_log (with_batch l epoch now items) shape ∙ ap (λ (es : List Entry). is_some (begin_in es)) (entries_more l epoch now items)

begun_more : (l : Log) (epoch now : ℤ) (items : List MetaRecord) → LogShape (with_batch l epoch now items) → begun_of (with_batch l epoch now items) ≡ begin_in (more_entries l epoch items)
begun_more l epoch now items shape = begun_log (with_batch l epoch now items) shape ∙ ap begin_in (entries_more l epoch now items)

none_in : (l : Log) → LogShape l → is_open_log l ≡ false → begin_in (entries l.batches) ≡ None
none_in l shape settled = sym (begun_log l shape) ∙ none_begun l shape settled

some_is : (m : Option ℤ) (o : ℤ) → m ≡ Some o → is_some m ≡ true
some_is m o is = ap is_some is

-- one is open where its Begin is known
pub begun_is_open : (l : Log) (from : ℤ) → LogShape l → begun_of l ≡ Some from → is_open_log l ≡ true
begun_is_open l from shape is = open_log l shape ∙ ap is_some (sym (begun_log l shape)) ∙ some_is (begun_of l) from is

-- ---- a Begin

pub begin_opens : (l : Log) (epoch now : ℤ) → LogShape l → LogShape (with_batch l epoch now (begin_record ∷ [])) → is_open_log l ≡ false → begun_of (with_batch l epoch now (begin_record ∷ [])) ≡ Some (end_of l +ℤ pos 1)
begin_opens l epoch now shape more settled =
    let new = next_entries l epoch (begin_record ∷ []) in
    begun_more l epoch now (begin_record ∷ []) more ∙ begun_kept (entries l.batches) new refl ∙ ap (λ (m : Option ℤ). first_begin m (begin_in new)) (none_in l shape settled)

-- ---- records of a translation

translated_closes : (r : MetaRecord) → IsTranslated r → closes r ≡ false
translated_closes meta.EndTransaction is = absurd is
translated_closes (meta.AbortTransaction reason) is = absurd is
translated_closes r is = refl

pub translated_marks : (r : MetaRecord) → IsTranslated r → is_marker r ≡ false
translated_marks (meta.BeginTransaction name) is = absurd is
translated_marks meta.EndTransaction is = absurd is
translated_marks (meta.AbortTransaction reason) is = absurd is
translated_marks r is = refl

pub fill_closes : (offset epoch : ℤ) (items : List MetaRecord) → All IsTranslated items → any_closes (entries_at_offsets offset epoch items) ≡ false
fill_closes offset epoch [] all = refl
fill_closes offset epoch (r ∷ rs) all =
    ap (λ (b : Bool). b || any_closes (entries_at_offsets (offset +ℤ pos 1) epoch rs)) (translated_closes r (All-head IsTranslated r rs all)) ∙ fill_closes (offset +ℤ pos 1) epoch rs (All-tail IsTranslated r rs all)

pub fill_keeps_open : (l : Log) (epoch now : ℤ) (items : List MetaRecord) (from : ℤ) → LogShape l → LogShape (with_batch l epoch now items) → All IsTranslated items → begun_of l ≡ Some from → begun_of (with_batch l epoch now items) ≡ Some from
fill_keeps_open l epoch now items from shape more all is =
    let new = next_entries l epoch items in
    begun_more l epoch now items more ∙ begun_kept (entries l.batches) new (fill_closes (end_of l +ℤ pos 1) epoch items all) ∙ ap (λ (m : Option ℤ). first_begin m (begin_in new)) (sym (begun_log l shape) ∙ is)

-- ---- the commit

pub commit_closes : (l : Log) (epoch now : ℤ) → LogShape (with_batch l epoch now commit_records) → is_open_log (with_batch l epoch now commit_records) ≡ false
commit_closes l epoch now more = open_more l epoch now commit_records more ∙ ap is_some (begun_past (entries l.batches) (next_entries l epoch commit_records) refl)

-- ---- an election

-- what it writes, whether it ends a transaction, and whether it gives a first state
abbrev pub elected_records : Bool → Bool → List MetaRecord
elected_records opened first = meta.NoOp ∷ ((if opened then meta.AbortTransaction None ∷ [] else []) ++ (if first then meta.ZkMigrationState PRE_MIGRATION ∷ [] else []))

none_by : (m : Option ℤ) → is_some m ≡ false → m ≡ None
none_by None is = refl
none_by (Some o) is = absurd (cc)

elected_closes : (offset epoch : ℤ) (es : List Entry) (opened first : Bool) → is_some (begin_in es) ≡ opened → is_some (begin_in (es ++ entries_at_offsets offset epoch (elected_records opened first))) ≡ false
elected_closes offset epoch es true true is = ap is_some (begun_past es (entries_at_offsets offset epoch (elected_records true true)) refl)
elected_closes offset epoch es true false is = ap is_some (begun_past es (entries_at_offsets offset epoch (elected_records true false)) refl)
elected_closes offset epoch es false true is =
    ap is_some (begun_kept es (entries_at_offsets offset epoch (elected_records false true)) refl) ∙ ap (λ (m : Option ℤ). is_some (first_begin m None)) (none_by (begin_in es) is)
elected_closes offset epoch es false false is =
    ap is_some (begun_kept es (entries_at_offsets offset epoch (elected_records false false)) refl) ∙ ap (λ (m : Option ℤ). is_some (first_begin m None)) (none_by (begin_in es) is)

pub election_closes : (l : Log) (epoch now : ℤ) (opened first : Bool) → LogShape l → LogShape (with_batch l epoch now (elected_records opened first)) → is_open_log l ≡ opened → is_open_log (with_batch l epoch now (elected_records opened first)) ≡ false
election_closes l epoch now opened first shape more is =
    open_more l epoch now (elected_records opened first) more ∙ elected_closes (end_of l +ℤ pos 1) epoch (entries l.batches) opened first (sym (open_log l shape) ∙ is)

-- ---- records that are no marker

marks_close : (r : MetaRecord) → is_marker r ≡ false → (is_begin r ≡ false) × (closes r ≡ false)
marks_close r is = neither (is_begin r) (closes r) is
  where
    neither : (a b : Bool) → (a || b) ≡ false → (a ≡ false) × (b ≡ false)
    neither true b is = absurd (cc)
    neither false b is = (refl, is)

pub unmarked_close : (es : List Entry) → NoneMarks es → any_closes es ≡ false
unmarked_close [] none = refl
unmarked_close (e ∷ es) none = ap (λ (b : Bool). b || any_closes es) (marks_close e.item none.0).1 ∙ unmarked_close es none.1

unmarked_begin : (es : List Entry) → NoneMarks es → begin_in es ≡ None
unmarked_begin [] none = refl
unmarked_begin (e ∷ es) none = ap (λ (b : Bool). cond (b && not (any_closes es)) (Some e.offset) (begin_in es)) (marks_close e.item none.0).0 ∙ unmarked_begin es none.1

pub unmarked_keep_settled : (l : Log) (epoch now : ℤ) (items : List MetaRecord) → LogShape l → LogShape (with_batch l epoch now items) → NoneMarks (next_entries l epoch items) → is_open_log l ≡ false → is_open_log (with_batch l epoch now items) ≡ false
unmarked_keep_settled l epoch now items shape more none settled =
    let new = next_entries l epoch items in
    open_more l epoch now items more
    ∙ ap is_some (begun_kept (entries l.batches) new (unmarked_close new none))
    ∙ ap (λ (m : Option ℤ). is_some (first_begin m (begin_in new))) (none_in l shape settled)
    ∙ ap is_some (unmarked_begin new none)
