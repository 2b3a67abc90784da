use Rattle.std.proofs.Common.{◌≡◌, true, false, Some, sym, ap, ◌∙◌, to_z-of_z}
use Rattle.std.specs.List.{list_any, position_or_len}
use Rattle.kz_row_numbers.specs.Joins.{is_later}
use Rattle.kz_row_numbers.specs.Levels.{lowest}
use Rattle.kz_row_numbers.proofs.Joining.{later_all}
use Rattle.kz_row_numbers.proofs.LevelLemmas.{first_position, no_position}
use Rattle.kz_row_numbers.proofs.segments.Segments.first_later.Goals as goal

pub place_of_later-requires-clause-some : goal.place_of_later-requires-clause-some
place_of_later-requires-clause-some c =
    rw (to_z-of_z c.ranges.zxid)
    (ap (λ ls. list_any (is_later c.args.zxid) (lowest ls)) c.deref.ensures.value ∙ ap (list_any (is_later c.args.zxid)) c.self.view_is ∙ sym (later_all c.args.zxid c.args.self.now)
    ∙ ap (is_later c.args.zxid) (sym c.whole.ensures) ∙ sym (rw (to_z-of_z c.ranges.zxid) at c.is_later.ensures) ∙ c.if-is_later.true)

pub returns-then-is_later : goal.returns-then-is_later
returns-then-is_later c =
    let at : c.place_of_later.result ≡ position_or_len (is_later c.args.zxid) c.args.self.now =
    (rw (to_z-of_z c.ranges.zxid) at c.place_of_later.ensures) ∙ ap (λ ls. position_or_len (is_later c.args.zxid) (lowest ls)) c.deref.ensures.value ∙ ap (position_or_len (is_later c.args.zxid)) c.self.view_is in
    let some : list_any (is_later c.args.zxid) c.args.self.now ≡ true =
    sym (later_all c.args.zxid c.args.self.now) ∙ ap (is_later c.args.zxid) (sym c.whole.ensures) ∙ sym (rw (to_z-of_z c.ranges.zxid) at c.is_later.ensures) ∙ c.if-is_later.true in
    ap Some at ∙ first_position (is_later c.args.zxid) c.args.self.now some

pub returns-else-is_later : goal.returns-else-is_later
returns-else-is_later c =
    let none : list_any (is_later c.args.zxid) c.args.self.now ≡ false =
    sym (later_all c.args.zxid c.args.self.now) ∙ ap (is_later c.args.zxid) (sym c.whole.ensures) ∙ sym (rw (to_z-of_z c.ranges.zxid) at c.is_later.ensures) ∙ c.if-is_later.false in
    no_position (is_later c.args.zxid) c.args.self.now none
