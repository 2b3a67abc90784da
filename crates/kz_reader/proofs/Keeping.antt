-- What holds once one znode more is kept.
use Rattle.std.proofs.Common.{◌≡◌, ℕ, ◌+◌, ◌<◌, ◌≤◌, List, ◌++◌, length, take, drop, get_or, Ok, sym, ap, ◌∙◌, subst, arith}
use Rattle.std.proofs.lemmas.List.{length-append}
use Rattle.kz_types.specs.declared.tree.Row.{Row}
use Rattle.kz_types.specs.declared.record.MetaRecord.{MetaRecord}
use Rattle.kz_spec_data.specs.Translation.{body_of_row, row_records, records_after}
use Rattle.kz_reader.specs.declared.seen.Note.{Note}
use Rattle.kz_reader.specs.declared.reading.Reading.{Reading}
use Rattle.kz_reader.specs.Seen.{note_of, HasSeen}
use Rattle.kz_reader.specs.Known.{IsKnown}
use Rattle.kz_reader.specs.Faults.{after_records, IsReading}
use Rattle.kz_reader.proofs.BodyKinds.{few_entries}
use Rattle.kz_reader.proofs.NextRow.{with_records}

added_least : (a b n m : ℕ) → a ≤ n → b ≤ m → a + b ≤ n + m
added_least a b n m h k = omega arith

-- there are no more access control entries than records
pub no_more_than_records : (rows : List Row) (old : Reading) (row : Row) (note : Note) (more items : List MetaRecord) → IsReading rows old → note ≡ note_of (body_of_row row)
    → Ok more ≡ row_records rows (take old.seen.done rows) row → items ≡ old.records.items ++ more → old.seen.entries + note.entries ≤ length items
no_more_than_records rows old row note more items reading n made e =
    let few : note.entries ≤ length more = subst (λ (m : Note). m.entries ≤ length more) (sym n) (few_entries rows (take old.seen.done rows) row more made) in
    subst (λ k. old.seen.entries + note.entries ≤ k) (sym (ap (λ l. length l) e ∙ length-append old.records.items more))
    (added_least old.seen.entries note.entries (length old.records.items) (length more) reading.few few)

-- a count of what memory holds is a number of the machine
pub fits_in_memory : (n count len cap : ℕ) → n ≤ count → (len ≡ count) × (len ≤ cap) → cap < 9223372036854775808 → n < 18446744073709551616
fits_in_memory n count len cap h held small = within n count len cap h held.0 held.1 small
  where
    within : (n count len cap : ℕ) → n ≤ count → len ≡ count → len ≤ cap → cap < 9223372036854775808 → n < 18446744073709551616
    within n count len cap h e k small = omega arith

pub one_more_read : (rows : List Row) (old new : Reading) (row : Row) (note : Note) (more : List MetaRecord) → old.seen.done < length rows → row ≡ get_or rows old.seen.done row → IsReading rows old → note ≡ note_of (body_of_row row)
    → Ok more ≡ row_records rows (take old.seen.done rows) row → new.records.items ≡ old.records.items ++ more → new.seen.done ≡ old.seen.done + 1 → new.seen.entries ≡ old.seen.entries + note.entries → HasSeen rows new.seen → new.known ≡ old.known → IsReading rows new
one_more_read rows old new row note more h e reading n made items done entries seen known =
    record {
      seen = seen;
      few = subst (λ k. k ≤ length new.records.items) (sym entries) (no_more_than_records rows old row note more new.records.items reading n made items);
      known = subst (λ k. IsKnown rows k) (sym known) reading.known;
      records = ap (λ xs. after_records xs (records_after rows (take new.seen.done rows) (drop new.seen.done rows))) items
          ∙ ap (λ k. after_records (old.records.items ++ more) (records_after rows (take k rows) (drop k rows))) done
          ∙ with_records rows old.seen.done row old.records.items more h e made reading.records;
    }
