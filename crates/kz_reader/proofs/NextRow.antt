-- One znode more is read.
use Rattle.std.proofs.Common.{◌≡◌, ℕ, suc, ◌+◌, ◌<◌, List, [], ◌∷◌, ◌++◌, length, take, drop, get_or, Ok, Err, refl, sym, ap, ◌∙◌, add-one, drop-cons, append_assoc}
use Rattle.std.proofs.lemmas.List.{take_more}
use Rattle.kz_types.specs.declared.tree.Row.{Row}
use Rattle.kz_types.specs.declared.record.MetaRecord.{MetaRecord}
use Rattle.kz_spec_data.specs.Translation.{Translated, records_then, row_records, records_after, all_records}
use Rattle.kz_reader.specs.Faults.{after_records}

rest_cut : (rows : List Row) (done : ℕ) (row : Row) → done < length rows → row ≡ get_or rows done row → drop done rows ≡ row ∷ drop (done + 1) rows
rest_cut rows done row h e = rw (add-one, drop-cons rows done row h) (ap (λ r. r ∷ drop (suc done) rows) (sym e))

-- what is still to come begins with the znode
first_of_rest : (rows : List Row) (done : ℕ) (row : Row) → done < length rows → row ≡ get_or rows done row
    → records_after rows (take done rows) (drop done rows) ≡ records_then row.path (row_records rows (take done rows) row) (records_after rows (take (done + 1) rows) (drop (done + 1) rows))
first_of_rest rows done row h e =
    ap (λ rest. records_after rows (take done rows) rest) (rest_cut rows done row h e)
    ∙ ap (λ earlier. records_then row.path (row_records rows (take done rows) row) (records_after rows earlier (drop (done + 1) rows))) (sym (take_more rows done row h ∙ ap (λ r. take done rows ++ r ∷ []) (sym e)))

taken_over : (done more : List MetaRecord) (path : List ℕ) (rest : Translated) → after_records done (records_then path (Ok more) rest) ≡ after_records (done ++ more) rest
taken_over done more path (Ok rs) = ap (λ x. Ok x) (sym (append_assoc done more rs))
taken_over done more path (Err e) = refl

-- its records come after the others
pub with_records : (rows : List Row) (done : ℕ) (row : Row) (before more : List MetaRecord) → done < length rows → row ≡ get_or rows done row → Ok more ≡ row_records rows (take done rows) row
    → after_records before (records_after rows (take done rows) (drop done rows)) ≡ all_records rows
    → after_records (before ++ more) (records_after rows (take (done + 1) rows) (drop (done + 1) rows)) ≡ all_records rows
with_records rows done row before more h e made whole =
    sym (taken_over before more row.path (records_after rows (take (done + 1) rows) (drop (done + 1) rows)))
    ∙ ap (λ r. after_records before (records_then row.path r (records_after rows (take (done + 1) rows) (drop (done + 1) rows)))) made
    ∙ ap (λ t. after_records before t) (sym (first_of_rest rows done row h e)) ∙ whole

-- before the first znode is read
pub nothing_before : (t : Translated) → after_records [] t ≡ t
nothing_before (Ok rs) = refl
nothing_before (Err e) = refl
