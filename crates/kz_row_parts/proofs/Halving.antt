-- The first blocks and the others, each with their numbers.
use Rattle.std.proofs.Common.{ℕ, ◌<◌, List, length, take, drop, ap, ◌∙◌, arith}
use Rattle.std.proofs.lemmas.List.{take-map, drop-map, length-take, length-drop}
use Rattle.std.proofs.lemmas.List.Elements.{All-take, All-drop}
use Rattle.kz_types.specs.declared.tree.Row.{Row}
use Rattle.kz_types.proofs.Order.{bytes_order}
use Rattle.kz_sorted.specs.BlockLists.{items_of, IsPart}
use Rattle.kz_sorted.proofs.ItemsOf.{are_parts}
use Rattle.kz_sorted.proofs.Parts.{some_items, items_of_both, front_blocks, back_blocks}
use Rattle.kz_spec_data.specs.Tree.{path_of_row}
use Rattle.kz_row_numbers.specs.declared.joined_numbers.Numbers.{Numbers}
use Rattle.kz_row_parts.specs.Numbered.{numbers_of, AreNumbered, AreHalves}

pub first_numbered : (bs : List (List Row)) (ns : List Numbers) (n : ℕ) → AreNumbered bs ns → AreNumbered (take n bs) (take n ns)
first_numbered bs ns n h = record {
  blocks = front_blocks bytes_order path_of_row bs n h.blocks;
  numbers = ap (take n) h.numbers ∙ take-map numbers_of n bs;
}

pub others_numbered : (bs : List (List Row)) (ns : List Numbers) (n : ℕ) → AreNumbered bs ns → AreNumbered (drop n bs) (drop n ns)
others_numbered bs ns n h = record {
  blocks = back_blocks bytes_order path_of_row bs n h.blocks;
  numbers = ap (drop n) h.numbers ∙ drop-map numbers_of n bs;
}

pub halves_are : (bs : List (List Row)) (ns : List Numbers) (n : ℕ) → AreNumbered bs ns → 0 < n → n < length bs → AreHalves (items_of (take n bs)) (items_of (drop n bs)) (items_of bs)
halves_are bs ns n h some within =
    let parts = are_parts bs h.blocks in record {
      whole = items_of_both bs n;
      some = some_items (take n bs) (All-take IsPart n bs parts.each) (omega (arith, some, within, length-take n bs));
      others = some_items (drop n bs) (All-drop IsPart n bs parts.each) (omega (arith, within, length-drop n bs));
    }
