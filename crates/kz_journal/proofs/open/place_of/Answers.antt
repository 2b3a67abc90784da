use Rattle.std.proofs.Common.{true, false, refl, sym, ap, ◌∙◌}
use Rattle.std.specs.Prelude.{bytes_eq}
use Rattle.kz_journal.proofs.Headers.{read_summed, read_plain, new_header, old_header, no_header}
use Rattle.kz_journal.proofs.open.place_of.Goals as goal

pub returns-then-is_same-clause-read : goal.returns-then-is_same-clause-read
returns-then-is_same-clause-read c = λ file long is.
    read_summed c.args.letter (record { gate = 16; summed = true; length = c.args.long; sum = 0 }) file c.args.header is refl long
    (ap (bytes_eq c.args.header) (sym c.summed_header.ensures) ∙ sym c.is_same.ensures ∙ c.if-is_same.true) refl

pub returns-then-is_same-2-clause-read : goal.returns-then-is_same-2-clause-read
returns-then-is_same-2-clause-read c = λ file long is.
    read_plain c.args.letter (record { gate = 16; summed = false; length = c.args.long; sum = c.crc32c.result }) file c.args.header is refl long
    (ap (bytes_eq c.args.header) (sym c.summed_header.ensures) ∙ sym c.is_same.ensures ∙ c.if-is_same.false)
    (ap (bytes_eq c.args.header) (sym c.plain_header.ensures) ∙ sym c.is_same-2.ensures ∙ c.if-is_same-2.true) refl c.crc32c.ensures

pub returns-clause-none : goal.returns-clause-none
returns-clause-none c = λ none file is.
    no_header c.args.letter file c.args.header is
    (ap (bytes_eq c.args.header) (sym c.summed_header.ensures) ∙ sym c.is_same.ensures ∙ c.if-is_same.false)
    (ap (bytes_eq c.args.header) (sym c.plain_header.ensures) ∙ sym c.is_same-2.ensures ∙ c.if-is_same-2.false)

pub returns-then-is_same-clause-header : goal.returns-then-is_same-clause-header
returns-then-is_same-clause-header c = λ file is. new_header c.args.letter file c.args.header is (ap (bytes_eq c.args.header) (sym c.summed_header.ensures) ∙ sym c.is_same.ensures ∙ c.if-is_same.true)

pub returns-then-is_same-2-clause-header : goal.returns-then-is_same-2-clause-header
returns-then-is_same-2-clause-header c = λ file is.
    old_header c.args.letter file c.args.header is
    (ap (bytes_eq c.args.header) (sym c.summed_header.ensures) ∙ sym c.is_same.ensures ∙ c.if-is_same.false)
    (ap (bytes_eq c.args.header) (sym c.plain_header.ensures) ∙ sym c.is_same-2.ensures ∙ c.if-is_same-2.true)
