use Rattle.std.proofs.Common.{◌≡◌, ◌≤ℤ◌, Some, None, option_map, sym, ap, ◌∙◌, rules}
use Rattle.kz_row_numbers.specs.declared.joined_numbers.Numbers.{Numbers}
use Rattle.kz_row_numbers.specs.Joins.{joined}
use Rattle.kz_spec_data.specs.Tree.{row_at}
use Rattle.kz_row_parts.specs.Numbered.{numbers_of_row}
use Rattle.kz_row_parts.proofs.Numbering.{numbers_put_new, numbers_put_found}
use Rattle.kz_row_parts.proofs.numbers.numbers_with.Goals as goal

pub returns-in_default : goal.returns-in_default
returns-in_default c = λ block rises is found.
    let none : row_at c.args.row.now.path block ≡ None = sym found ∙ ap (option_map (λ r. r.now)) c.in_default.is in
    c.join-together.ensures ∙ ap (joined c.args.numbers) c.numbers_of_row.ensures ∙ ap (λ n. joined n (numbers_of_row c.args.row.now)) is ∙ sym (numbers_put_new c.args.row.now block none)

pub returns-then-is_not_before : goal.returns-then-is_not_before
returns-then-is_not_before c = λ block rises is found.
    let there : row_at c.args.row.now.path block ≡ Some c.in-Some.other.now = sym found ∙ ap (option_map (λ r. r.now)) c.in-Some.is in
    let both : (c.in-Some.other.now.mzxid ≤ℤ c.args.row.now.mzxid) × (c.in-Some.other.now.pzxid ≤ℤ c.args.row.now.pzxid) = search rules in
    let together : c.join-together.result ≡ joined c.args.numbers (numbers_of_row c.args.row.now) = c.join-together.ensures ∙ ap (joined c.args.numbers) c.numbers_of_row.ensures in
    ap (λ (j : Numbers). record { rows = c.args.numbers.rows; latest = j.latest }) together ∙ numbers_put_found c.args.row.now c.in-Some.other.now block c.args.numbers rises is there both.0 both.1
