use Rattle.std.proofs.Common.{◌≡◌, ◌+◌, ◌++◌, List, set, insert, get_or, sym, ap, ◌∙◌, subst}
use Rattle.kz_types.specs.Order.{bytes_cmp}
use Rattle.kz_types.proofs.Order.{bytes_order}
use Rattle.kz_sorted.specs.BlockLists.{items_of, AreParts}
use Rattle.kz_sorted.proofs.Changes.{part_in_two, part_in_two_kept}
use Rattle.kz_sorted.proofs.change_parts.cut_part.Given as given
use Rattle.kz_sorted.proofs.change_parts.cut_part.Goals as goal

made : (g : given.Over) (c : goal.Joined-index_mut-second g) → set c.insert.new.self.items (c.args.place + 1) c.in-Some.second ≡ set (insert c.args.parts.now.items c.args.place c.in-Some.first) (c.args.place + 1) c.in-Some.second
made g c = ap (λ (ps : List (List g.row.T.Denot)). set ps (c.args.place + 1) c.in-Some.second) c.in_ok-insert.ensures.items

joined : (g : given.Over) (c : goal.Joined-index_mut-second g) → c.in-Some.first ++ c.in-Some.second ≡ get_or c.args.parts.now.items c.args.place c.index.result.now
joined g c = (rw c.in-Some.is at c.in_ok-first.ensures.joined) ∙ c.index.ensures

pub returns-in_ok-insert-clause-items : goal.returns-in_ok-insert-clause-items
returns-in_ok-insert-clause-items g c =
    ap (λ (ps : List (List g.row.T.Denot)). items_of ps) (made g c)
    ∙ part_in_two bytes_order g.T.Keyed.key c.args.parts.now.items c.args.place c.index.result.now c.in-Some.first c.in-Some.second c.requires.within (joined g c)

pub returns-in_ok-insert-clause-kept : goal.returns-in_ok-insert-clause-kept
returns-in_ok-insert-clause-kept g c =
    subst (λ (ps : List (List g.row.T.Denot)). AreParts bytes_cmp g.T.Keyed.key ps) (sym (made g c))
    (part_in_two_kept bytes_order g.T.Keyed.key c.args.parts.now.items c.args.place c.index.result.now c.in-Some.first c.in-Some.second c.requires.parts c.requires.within (joined g c) (rw c.in-Some.is at c.in_ok-first.ensures.first) (rw c.in-Some.is at c.in_ok-first.ensures.second))
