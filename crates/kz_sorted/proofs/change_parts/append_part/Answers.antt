use Rattle.std.proofs.Common.{◌≡◌, [], ◌∷◌, ap, ◌∙◌, sym, subst, List}
use Rattle.kz_types.specs.Order.{bytes_cmp}
use Rattle.kz_types.specs.Ordered.{put}
use Rattle.kz_types.proofs.Order.{bytes_order}
use Rattle.kz_sorted.specs.BlockLists.{items_of, AreParts}
use Rattle.kz_sorted.proofs.Parts.{append_part, append_part_kept}
use Rattle.kz_sorted.proofs.change_parts.append_part.Given as given
use Rattle.kz_sorted.proofs.change_parts.append_part.Goals as goal

only : (g : given.Over) (c : goal.In_ok-push g) → c.put.new.self ≡ c.args.item ∷ []
only g c = c.in_ok-put.ensures.ok ∙ ap (λ (xs : List g.row.T.Denot). put bytes_cmp g.T.Keyed.key c.args.item xs) c.new-part.ensures

pub returns-clause-ok : goal.returns-clause-ok
returns-clause-ok g c =
    ap (λ (ps : List (List g.row.T.Denot)). items_of ps) c.in_ok-push.ensures.items
    ∙ append_part bytes_order g.T.Keyed.key c.args.item c.args.parts.now.items c.put.new.self c.requires.after (only g c)

pub returns-clause-kept : goal.returns-clause-kept
returns-clause-kept g c =
    subst (λ (ps : List (List g.row.T.Denot)). AreParts bytes_cmp g.T.Keyed.key ps) (sym c.in_ok-push.ensures.items)
    (append_part_kept bytes_order g.T.Keyed.key c.args.item c.args.parts.now.items c.put.new.self c.requires.parts c.requires.after (only g c))
