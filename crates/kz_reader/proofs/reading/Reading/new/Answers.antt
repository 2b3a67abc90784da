use Rattle.std.proofs.Common.{◌≤◌, List, length, take, drop, sym, ap, ◌∙◌, subst}
use Rattle.kz_types.specs.declared.record.MetaRecord.{MetaRecord}
use Rattle.kz_spec_data.specs.Translation.{records_after}
use Rattle.kz_reader.specs.Faults.{after_records}
use Rattle.kz_reader.proofs.BodyKinds.{zero_least}
use Rattle.kz_reader.proofs.NextRow.{nothing_before}
use Rattle.kz_reader.proofs.reading.Reading.new.Goals as goal

pub returns-clause-reading : goal.returns-clause-reading
returns-clause-reading c = λ rows. record {
  seen = c.new-2.ensures.seen rows;
  few = subst (λ n. n ≤ length c.new.result.items) (sym c.new-2.ensures.none) (zero_least (length c.new.result.items));
  known = c.new-3.ensures rows;
  records = ap (λ (items : List MetaRecord). after_records items (records_after rows (take c.new-2.result.done rows) (drop c.new-2.result.done rows))) c.new.ensures.items
      ∙ nothing_before (records_after rows (take c.new-2.result.done rows) (drop c.new-2.result.done rows))
      ∙ ap (λ n. records_after rows (take n rows) (drop n rows)) c.new-2.ensures.start;
}
