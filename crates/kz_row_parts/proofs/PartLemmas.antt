-- A part among the others, and its numbers.
use Rattle.std.proofs.Common.{◌≡◌, ◌≢◌, ℕ, ◌+◌, ◌-◌, ◌^◌, ◌<◌, min, true, List, [], length, get_or, set, map, Option, Some, None, is_some, option_map, sym, ap, ◌∙◌}
use Rattle.std.proofs.lemmas.List.{get_or-set_same}
use Rattle.kz_types.specs.declared.tree.Row.{Row}
use Rattle.kz_types.specs.Order.{bytes_cmp}
use Rattle.kz_types.proofs.Lookup.{some_is_none}
use Rattle.kz_sorted.specs.BlockLists.{AreParts}
use Rattle.kz_spec_data.specs.Tree.{path_of_row, row_at, without_row}
use Rattle.kz_row_numbers.specs.declared.joined_numbers.Numbers.{Numbers}
use Rattle.kz_row_numbers.specs.Joins.{no_numbers}
use Rattle.kz_row_parts.specs.Numbered.{numbers_of, AreNumberedParts}
use Rattle.kz_row_parts.proofs.Sizes.{length_without}
use Rattle.kz_row_parts.proofs.Numbering.{numbers_at, numbers_set, rows_of_block}

-- A part was changed to `p`. As `new` it was read again, and its numbers were put in place of its old ones.
pub part_numbered : (ps : List (List Row)) (ns made : List Numbers) (i : ℕ) (p new : List Row) → AreParts bytes_cmp path_of_row (set ps i p) → ns ≡ map numbers_of ps → i < length ps → new ≡ get_or (set ps i p) i new → made ≡ set ns i (numbers_of new)
    → AreNumberedParts (set ps i p) made
part_numbered ps ns made i p new parts h within is e = record {
  parts = parts;
  numbers = numbers_set ps ns made i p h (e ∙ ap (λ l. set ns i (numbers_of l)) (is ∙ get_or-set_same ps i p new within));
}

-- what was found is there
pub some_there : {A B : Type 0} (f : A → B) (o : Option A) (x : Option B) → is_some o ≡ true → option_map f o ≡ x → x ≢ None
some_there f None x h e = absurd (cc)
some_there f (Some a) x h e = λ none. some_is_none (e ∙ none)

-- how many znodes are left of a part without one that is there, by its numbers
pub left_by_numbers : (path : List ℕ) (ps : List (List Row)) (ns : List Numbers) (i : ℕ) (n : Numbers) → ns ≡ map numbers_of ps → i < length ps → n ≡ get_or ns i no_numbers → row_at path (get_or ps i []) ≢ None
    → n.rows ≡ min (1 + length (without_row path (get_or ps i []))) (2 ^ 64 - 1)
left_by_numbers path ps ns i n h within is known =
    ap (λ (m : Numbers). m.rows) (is ∙ numbers_at ps ns i h within) ∙ rows_of_block (get_or ps i []) ∙ ap (λ k. min k (2 ^ 64 - 1)) (sym (length_without path (get_or ps i []) known))
