use Rattle.std.proofs.Common.{◌≡◌, [], List, Less, sym, subst}
use Rattle.std.proofs.lemmas.List.{nil_from_length}
use Rattle.std.proofs.lemmas.List.Elements.{All-nil}
use Rattle.kz_types.specs.Order.{bytes_cmp}
use Rattle.kz_types.specs.Ordered.{AllBelow}
use Rattle.kz_sorted.specs.BlockLists.{items_of, IsBlock, AreBlocks}
use Rattle.kz_sorted.proofs.change.put_first.Goals as goal

pub append_block-requires : goal.append_block-requires
append_block-requires g c =
    let key = g.T.Keyed.key in
    let none : c.args.blocks.now.items ≡ [] = nil_from_length c.args.blocks.now.items c.requires in record {
      blocks = subst (λ (bs : List (List g.row.T.Denot)). AreBlocks bytes_cmp key bs) (sym none) (record { rises = tt; each = All-nil IsBlock });
      after = subst (λ (bs : List (List g.row.T.Denot)). AllBelow bytes_cmp key (items_of bs) (key c.args.item)) (sym none) (All-nil (λ x. bytes_cmp (key x) (key c.args.item) ≡ Less));
    }
