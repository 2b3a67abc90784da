use Rattle.std.proofs.Common.{◌≡◌, ◌+◌, List, set, insert, take, drop, sym, ap, ◌∙◌, subst, arith}
use Rattle.kz_types.specs.declared.tree.Row.{Row}
use Rattle.kz_types.proofs.Order.{bytes_order}
use Rattle.kz_sorted.specs.BlockLists.{items_of}
use Rattle.kz_sorted.specs.declared.limits.TheConstants.{HALF_BLOCK_ITEMS}
use Rattle.kz_sorted.proofs.ItemsOf.{are_parts}
use Rattle.kz_sorted.proofs.Changes.{read_rises, full_lengths, put_in_two, put_in_two_kept}
use Rattle.kz_spec_data.specs.Tree.{path_of_row}
use Rattle.kz_row_parts.specs.Numbered.{numbers_of, AreNumbered}
use Rattle.kz_row_parts.proofs.Numbering.{numbers_two}
use Rattle.kz_row_parts.proofs.changes.put_in_two.Goals as goal

pub items_with-requires : goal.items_with-requires
items_with-requires c = read_rises bytes_order path_of_row c.args.blocks.now.items c.args.place c.index.result.now (are_parts c.args.blocks.now.items c.requires.numbered.blocks) c.requires.within c.index.ensures

pub split_off-requires : goal.split_off-requires
split_off-requires c =
    omega (arith, c.in_ok-rows.rows.ok.0, full_lengths bytes_order path_of_row c.args.row c.args.blocks.now.items c.args.place c.index.result.now c.in_ok-rows.rows.items c.requires.within c.requires.full c.index.ensures c.in_ok-rows.ensures)

pub returns-clause-ok : goal.returns-clause-ok
returns-clause-ok c =
    let rows = c.in_ok-rows.rows.items in
    let made : set c.insert.new.self.items (c.args.place + 1) c.in_ok-second.second ≡ set (insert c.args.blocks.now.items c.args.place (take HALF_BLOCK_ITEMS rows)) (c.args.place + 1) (drop HALF_BLOCK_ITEMS rows) = cc (c.in_ok-insert.ensures.items, c.in_ok-second.ensures, c.in_ok-first.ensures, c.in_ok-rest.ensures.tail, c.in_ok-rest.ensures.items) in
    ap items_of made ∙ put_in_two bytes_order path_of_row c.args.row c.args.blocks.now.items c.args.place c.index.result.now rows c.requires.within c.requires.block c.index.ensures c.in_ok-rows.ensures

pub returns-clause-kept : goal.returns-clause-kept
returns-clause-kept c =
    let rows = c.in_ok-rows.rows.items in
    let made : set c.insert.new.self.items (c.args.place + 1) c.in_ok-second.second ≡ set (insert c.args.blocks.now.items c.args.place (take HALF_BLOCK_ITEMS rows)) (c.args.place + 1) (drop HALF_BLOCK_ITEMS rows) = cc (c.in_ok-insert.ensures.items, c.in_ok-second.ensures, c.in_ok-first.ensures, c.in_ok-rest.ensures.tail, c.in_ok-rest.ensures.items) in
    let first : c.numbers_of.result ≡ numbers_of (take HALF_BLOCK_ITEMS rows) = c.numbers_of.ensures ∙ ap numbers_of (c.deref.ensures.value ∙ c.in_ok-rest.ensures.items) in
    let second : c.numbers_of-2.result ≡ numbers_of (drop HALF_BLOCK_ITEMS rows) = c.numbers_of-2.ensures ∙ ap numbers_of (c.deref-2.ensures.value ∙ c.in_ok-rest.ensures.tail) in
    let numbers : c.in_ok-changed.changed ≡ set (insert c.args.segments.now c.args.place (numbers_of (take HALF_BLOCK_ITEMS rows))) (c.args.place + 1) (numbers_of (drop HALF_BLOCK_ITEMS rows)) = cc (c.in_ok-changed.ensures, first, second) in
    subst (λ (bs : List (List Row)). AreNumbered bs c.in_ok-changed.changed) (sym made)
    (record {
      blocks = put_in_two_kept bytes_order path_of_row c.args.row c.args.blocks.now.items c.args.place c.index.result.now rows c.requires.numbered.blocks c.requires.within c.requires.block c.requires.full c.index.ensures c.in_ok-rows.ensures;
      numbers = numbers_two c.args.blocks.now.items c.args.segments.now c.in_ok-changed.changed c.args.place (take HALF_BLOCK_ITEMS rows) (drop HALF_BLOCK_ITEMS rows) c.requires.numbered.numbers numbers;
    })
