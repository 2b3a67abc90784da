use Rattle.std.proofs.Common.{◌-◌, ◌≡◌, Some, List, length, sym, ap, ◌∙◌}
use Rattle.std.specs.List.{slice_get}
use Rattle.kz_row_numbers.specs.declared.joined_numbers.Numbers.{Numbers}
use Rattle.kz_row_numbers.specs.Joins.{all_joined}
use Rattle.kz_row_numbers.proofs.LevelLemmas.{top_is}
use Rattle.kz_row_numbers.proofs.segments.Segments.whole.Goals as goal

pub top-requires : goal.top-requires
top-requires c =
    let at : slice_get c.self.inside.levels.items (length c.self.inside.levels.items - 1) ≡ Some c.in-Some.level.now =
    ap (λ (ls : List (List Numbers)). slice_get ls (length ls - 1)) (sym c.deref.ensures.value) ∙ sym c.in-Some.ensures.value in
    (top_is c.self.inside.levels.items c.in-Some.level.now c.self.invariant at).single

pub returns-in-Some : goal.returns-in-Some
returns-in-Some c =
    let at : slice_get c.self.inside.levels.items (length c.self.inside.levels.items - 1) ≡ Some c.in-Some.level.now =
    ap (λ (ls : List (List Numbers)). slice_get ls (length ls - 1)) (sym c.deref.ensures.value) ∙ sym c.in-Some.ensures.value in
    c.top.ensures ∙ (top_is c.self.inside.levels.items c.in-Some.level.now c.self.invariant at).whole ∙ ap all_joined c.self.view_is
