use Rattle.std.proofs.Common.{◌≡◌, [], length, sym, ap, ◌∙◌, rules}
use Rattle.std.proofs.lemmas.List.{nil_from_length}
use Rattle.kz_sorted.specs.BlockLists.{items_of}
use Rattle.kz_sorted.proofs.ItemsOf.{items_of_nil}
use Rattle.kz_sorted.proofs.blocks.Blocks.is_empty.Goals as goal

pub returns : goal.returns
returns g c =
    let ps = c.self.inside.parts in (
      λ yes. sym c.self.view_is ∙ ap items_of (nil_from_length ps (let none = c.is_empty.ensures in search rules)),
      λ e. let none : ps ≡ [] = items_of_nil ps c.self.invariant.each (c.self.view_is ∙ e) in let empty = ap length none in search rules,
    )
