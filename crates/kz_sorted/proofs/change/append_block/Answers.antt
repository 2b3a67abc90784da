use Rattle.std.proofs.Common.{◌≡◌, ◌∷◌, [], ap, ◌∙◌, sym, subst, List}
use Rattle.kz_types.specs.Order.{bytes_cmp}
use Rattle.kz_types.proofs.Order.{bytes_order}
use Rattle.kz_sorted.specs.BlockLists.{items_of, AreBlocks}
use Rattle.kz_sorted.proofs.Parts.{append_part, append_block_kept}
use Rattle.kz_sorted.proofs.change.append_block.Given as given
use Rattle.kz_sorted.proofs.change.append_block.Goals as goal

only : (g : given.Over) (c : goal.In_ok-push-2 g) → c.in_ok-new.field-0 ≡ c.args.item ∷ []
only g c = cc (c.in_ok-new.ensures, c.in_ok-push.ensures.items, c.new-items.ensures.items)

pub returns-clause-ok : goal.returns-clause-ok
returns-clause-ok g c =
    ap (λ (bs : List (List g.row.T.Denot)). items_of bs) c.in_ok-push-2.ensures.items
    ∙ append_part bytes_order g.T.Keyed.key c.args.item c.args.blocks.now.items c.in_ok-new.field-0 c.requires.after (only g c)

pub returns-clause-kept : goal.returns-clause-kept
returns-clause-kept g c =
    subst (λ (bs : List (List g.row.T.Denot)). AreBlocks bytes_cmp g.T.Keyed.key bs) (sym c.in_ok-push-2.ensures.items)
    (append_block_kept bytes_order g.T.Keyed.key c.args.item c.args.blocks.now.items c.in_ok-new.field-0 c.requires.blocks c.requires.after (only g c))
