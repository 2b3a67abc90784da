-- The records of the transaction of the migration, as batches of them are appended.
use Rattle.std.proofs.Common.{◌≡◌, ℤ, pos, ◌+ℤ◌, ◌≤ℤ◌, int_le, Bool, true, List, [], ◌∷◌, ◌++◌, map, filter, cond, Some, All, refl, sym, ap, ◌∙◌, subst, arith}
use Rattle.std.proofs.lemmas.Int.{ints}
use Rattle.std.proofs.lemmas.List.{map-append}
use Rattle.std.proofs.lemmas.List.Elements.{filter-append, All-nil, All-cons, All-head, All-tail}
use Rattle.kz_types.specs.declared.log.Entry.{Entry}
use Rattle.kz_types.specs.declared.record.MetaRecord.{MetaRecord}
use Rattle.kz_spec_data.specs.Log.{Log, end_of, entries_at_offsets, entries, with_batch, begun_of}
use Rattle.kz_spec_machine.specs.Driver.{begin_record}
use Rattle.kz_spec_machine.specs.Sound.{LogShape, records_from, IsTranslated}
use Rattle.std.specs.Prelude.{◌<ℤ◌}
use Rattle.kz_laws_machine.proofs.Numbers.{at_least_itself}
use Rattle.kz_laws_machine.proofs.Migration.{entries_more, next_entries, up_to_end}
use Rattle.kz_laws_machine.proofs.Rising.{log_rises}
use Rattle.kz_laws_machine.proofs.Begun.{begin_in, begun_log}
use Rattle.kz_laws_machine.proofs.Pending.{pending, item_of, stands_from, begin_up_to, none_stand, StandsFrom, stands, items_numbered, NoneMarks}
use Rattle.kz_laws_machine.proofs.Opened.{translated_marks}

begins : (l : Log) (from : ℤ) → LogShape l → begun_of l ≡ Some from → begin_in (entries l.batches) ≡ Some from
begins l from shape is = sym (begun_log l shape) ∙ is

-- it isn't after the log's end
pub begun_within : (l : Log) (from : ℤ) → LogShape l → begun_of l ≡ Some from → from ≤ℤ end_of l
begun_within l from shape is = begin_up_to (end_of l) from (entries l.batches) (up_to_end l shape) (begins l from shape is)

next_above : (o : ℤ) → o <ℤ (o +ℤ pos 1)
next_above o = omega (arith, ints)

at_most_is : (a b : ℤ) → a ≤ℤ b → int_le a b ≡ true
at_most_is a b low = grind (arith, ints)

further : (a b : ℤ) → a ≤ℤ b → a ≤ℤ (b +ℤ pos 1)
further a b low = omega (arith, ints, low)

numbered_stand : (from offset epoch : ℤ) (items : List MetaRecord) → from ≤ℤ offset → filter (stands_from from) (entries_at_offsets offset epoch items) ≡ entries_at_offsets offset epoch items
numbered_stand from offset epoch [] low = refl
numbered_stand from offset epoch (r ∷ rs) low =
    let e : Entry = record { offset = offset; epoch = epoch; item = r } in
    let rest = entries_at_offsets (offset +ℤ pos 1) epoch rs in
    ap (λ (b : Bool). cond b (e ∷ filter (stands_from from) rest) (filter (stands_from from) rest)) (at_most_is from offset low)
    ∙ ap (λ (es : List Entry). e ∷ es) (numbered_stand from (offset +ℤ pos 1) epoch rs (further from offset low))

-- the records from an offset on, with a batch more
records_more : (l : Log) (from epoch now : ℤ) (items : List MetaRecord) → from ≤ℤ (end_of l +ℤ pos 1) → records_from (with_batch l epoch now items) from ≡ records_from l from ++ items
records_more l from epoch now items low =
    let es = entries l.batches in
    let new = next_entries l epoch items in
    ap (λ (all : List Entry). map item_of (filter (stands_from from) all)) (entries_more l epoch now items)
    ∙ ap (map item_of) (filter-append (stands_from from) es new)
    ∙ map-append item_of (filter (stands_from from) es) (filter (stands_from from) new)
    ∙ ap (λ (rs : List MetaRecord). records_from l from ++ rs) (ap (map item_of) (numbered_stand from (end_of l +ℤ pos 1) epoch items low) ∙ items_numbered (end_of l +ℤ pos 1) epoch items)

none_yet : (l : Log) → LogShape l → records_from l (end_of l +ℤ pos 1) ≡ []
none_yet l shape = ap (map item_of) (none_stand (end_of l +ℤ pos 1) (end_of l) (entries l.batches) (next_above (end_of l)) (up_to_end l shape))

-- a Begin is the first of them
pub begin_stands : (l : Log) (epoch now : ℤ) → LogShape l → records_from (with_batch l epoch now (begin_record ∷ [])) (end_of l +ℤ pos 1) ≡ begin_record ∷ []
begin_stands l epoch now shape = records_more l (end_of l +ℤ pos 1) epoch now (begin_record ∷ []) (at_least_itself (end_of l +ℤ pos 1)) ∙ ap (λ (rs : List MetaRecord). rs ++ begin_record ∷ []) (none_yet l shape)

-- and more of them come after
pub fill_stands : (l : Log) (from epoch now : ℤ) (items records : List MetaRecord) → LogShape l → begun_of l ≡ Some from → records_from l from ≡ begin_record ∷ records → records_from (with_batch l epoch now items) from ≡ begin_record ∷ (records ++ items)
fill_stands l from epoch now items records shape is so_far =
    records_more l from epoch now items (further from (end_of l) (begun_within l from shape is)) ∙ ap (λ (rs : List MetaRecord). rs ++ items) so_far

-- ---- the pending records

same_rest : (r s : MetaRecord) (rs ss : List MetaRecord) → ◌≡◌ {A = List MetaRecord} (r ∷ rs) (s ∷ ss) → rs ≡ ss
same_rest r s rs ss is = cc

pub pending_are : (l : Log) (from : ℤ) (records : List MetaRecord) → LogShape l → begun_of l ≡ Some from → records_from l from ≡ begin_record ∷ records → map item_of (pending (entries l.batches)) ≡ records
pending_are l from records shape is so_far =
    let st : StandsFrom from (entries l.batches) = stands from l.base (entries l.batches) (log_rises l shape) (begins l from shape is) in
    same_rest st.first.item begin_record (map item_of (pending (entries l.batches))) records (sym (ap (map item_of) st.all) ∙ so_far)

translated_unmarked : (es : List Entry) → All IsTranslated (map item_of es) → NoneMarks es
translated_unmarked [] all = tt
translated_unmarked (e ∷ es) all = (translated_marks e.item (All-head IsTranslated e.item (map item_of es) all), translated_unmarked es (All-tail IsTranslated e.item (map item_of es) all))

pub pending_unmarked : (l : Log) (records : List MetaRecord) → map item_of (pending (entries l.batches)) ≡ records → All IsTranslated records → NoneMarks (pending (entries l.batches))
pending_unmarked l records is all = translated_unmarked (pending (entries l.batches)) (subst (All IsTranslated) (sym is) all)

each_translated : (es : List Entry) → All IsTranslated (map item_of es) → All (λ (e : Entry). IsTranslated e.item) es
each_translated [] all = All-nil (λ (e : Entry). IsTranslated e.item)
each_translated (e ∷ es) all = All-cons (λ (x : Entry). IsTranslated x.item) e es (All-head IsTranslated e.item (map item_of es) all) (each_translated es (All-tail IsTranslated e.item (map item_of es) all))

pub pending_translated : (l : Log) (records : List MetaRecord) → map item_of (pending (entries l.batches)) ≡ records → All IsTranslated records → All (λ (e : Entry). IsTranslated e.item) (pending (entries l.batches))
pending_translated l records is all = each_translated (pending (entries l.batches)) (subst (All IsTranslated) (sym is) all)
