use Rattle.std.proofs.Common.{◌++◌, List, length, refl, ap, ◌∙◌, ◌+◌}
use Rattle.kz_types.specs.declared.record.MetaRecord.{MetaRecord}
use Rattle.kz_reader.proofs.Keeping.{no_more_than_records, fits_in_memory, one_more_read}
use Rattle.kz_reader.proofs.reading.Reading.keep.Goals as goal

pub add-requires-clause-few : goal.add-requires-clause-few
add-requires-clause-few c =
    let all = c.append.new.self in
    let items = c.in_ok-append.ensures.items ∙ ap (λ (more : List MetaRecord). c.args.self.now.records.items ++ more) c.into_vec-more.ensures in
    fits_in_memory (c.args.self.now.seen.entries + c.args.note.entries) (length all.items) all.len all.cap
    (no_more_than_records c.args.rows.now c.args.self.now c.args.row.now c.args.note c.args.more all.items c.requires.reading c.requires.note c.requires.more items) all.ok all.small

pub returns-clause-reading : goal.returns-clause-reading
returns-clause-reading c =
    let items = c.in_ok-append.ensures.items ∙ ap (λ (more : List MetaRecord). c.args.self.now.records.items ++ more) c.into_vec-more.ensures in
    one_more_read c.args.rows.now c.args.self.now (record { records = c.append.new.self; seen = c.add.new.self; known = c.args.self.now.known }) c.args.row.now c.args.note c.args.more c.requires.within c.requires.row c.requires.reading c.requires.note
    c.requires.more items c.in_ok-add.ensures.done c.in_ok-add.ensures.entries c.in_ok-add.ensures.seen refl
