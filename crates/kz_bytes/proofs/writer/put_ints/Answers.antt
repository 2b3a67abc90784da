use Rattle.std.proofs.Common.{◌+◌, ◌++◌, List, ℕ, length, ap, sym, ◌∙◌, append_assoc}
use Rattle.kz_spec_data.specs.Fields.{int_bytes, groups_of}
use Rattle.kz_bytes.proofs.Facts.{ints_written}
use Rattle.kz_bytes.proofs.writer.put_ints.Goals as goal

pub returns-in-Ok : goal.returns-in-Ok
returns-in-Ok c =
    let numbers = c.in-Some.numbers.now in
    let old = c.args.out.now.items in
    let head = groups_of 9 (length numbers + 1) in
    rw c.in-Some.is (c.in-Ok.ensures.ok ∙ ap (λ (l : List ℕ). l ++ int_bytes numbers) c.in_ok-put_number-in-Some.ensures ∙ append_assoc old head (int_bytes numbers)
    ∙ ap (λ (l : List ℕ). old ++ l) (sym (ints_written numbers)))
