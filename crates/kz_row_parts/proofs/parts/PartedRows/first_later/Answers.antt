use Rattle.std.proofs.Common.{◌≡◌, Some, None, [], get_or, position, sym, ap, ◌∙◌, to_z-of_z}
use Rattle.std.proofs.lemmas.List.{get_or_read}
use Rattle.kz_row_numbers.specs.Joins.{is_later}
use Rattle.kz_row_parts.proofs.LaterLemmas.{first_in, none_later, one_later}
use Rattle.kz_row_parts.proofs.parts.PartedRows.first_later.Goals as goal

pub returns-in_default : goal.returns-in_default
returns-in_default c =
    let none : position (is_later c.args.zxid) c.self.inside.segments ≡ None = sym (rw (to_z-of_z c.ranges.zxid) at c.first_later.ensures) ∙ c.in_default.is in
    sym (none_later c.args.zxid c.self.inside.parts.items c.self.inside.segments c.self.invariant.numbers none) ∙ ap (first_in c.args.zxid) c.self.view_is

pub returns : goal.returns
returns c =
    let ps = c.self.inside.parts.items in
    let some : position (is_later c.args.zxid) c.self.inside.segments ≡ Some c.in-Some.place = sym (rw (to_z-of_z c.ranges.zxid) at c.first_later.ensures) ∙ c.in-Some.is in
    let one = one_later c.args.zxid ps c.self.inside.segments c.in-Some.place c.self.invariant.numbers some in
    let there : c.rows.result.now ≡ get_or ps c.in-Some.place [] = c.rows.ensures ∙ get_or_read ps c.in-Some.place c.index.result.now one.1 c.index.ensures [] in
    (rw (to_z-of_z c.ranges.zxid) at c.first_later-2.ensures) ∙ ap (first_in c.args.zxid) there ∙ sym one.0 ∙ ap (first_in c.args.zxid) c.self.view_is
