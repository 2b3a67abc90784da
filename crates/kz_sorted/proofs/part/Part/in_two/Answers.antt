use Rattle.std.proofs.Common.{◌≡◌, ℕ, ◌/◌, ◌<◌, ◌++◌, List, length, take, drop, sym, ap, ◌∙◌, subst, arith}
use Rattle.std.proofs.lemmas.List.{take_rest, length-take, length-drop}
use Rattle.std.proofs.lemmas.List.Elements.{All-take, All-drop}
use Rattle.kz_types.specs.Order.{bytes_cmp}
use Rattle.kz_types.proofs.Order.{bytes_order}
use Rattle.kz_sorted.specs.BlockLists.{items_of, IsPart, AreBlocks}
use Rattle.kz_sorted.proofs.ItemsOf.{are_parts}
use Rattle.kz_sorted.proofs.Parts.{some_items, items_of_both, front_blocks, back_blocks}
use Rattle.kz_sorted.proofs.part.Part.in_two.Given as given
use Rattle.kz_sorted.proofs.part.Part.in_two.Goals as goal

abbrev half : (g : given.Over) → goal.In_ok-second g → ℕ
half g c = length c.as_slice-blocks.result.now / 2

are_blocks : (g : given.Over) (c : goal.In_ok-second g) → AreBlocks bytes_cmp g.T.Keyed.key c.as_slice-blocks.result.now
are_blocks g c = subst (λ (xs : List (List g.row.T.Denot)). AreBlocks bytes_cmp g.T.Keyed.key xs) (sym c.as_slice-blocks.ensures) c.self.invariant

first_is : (g : given.Over) (c : goal.In_ok-second g) → c.in_ok-first.first ≡ take (half g c) c.as_slice-blocks.result.now
first_is g c = c.in_ok-first.ensures

second_is : (g : given.Over) (c : goal.In_ok-second g) → c.in_ok-second.second ≡ drop (half g c) c.as_slice-blocks.result.now
second_is g c = c.in_ok-second.ensures ∙ take_rest c.as_slice-blocks.result.now (half g c)

pub invariant_of-result : goal.invariant_of-result
invariant_of-result g c =
    subst (λ (xs : List (List g.row.T.Denot)). AreBlocks bytes_cmp g.T.Keyed.key xs) (sym (first_is g c))
    (front_blocks bytes_order g.T.Keyed.key c.as_slice-blocks.result.now (half g c) (are_blocks g c))

pub invariant_of-result-2 : goal.invariant_of-result-2
invariant_of-result-2 g c =
    subst (λ (xs : List (List g.row.T.Denot)). AreBlocks bytes_cmp g.T.Keyed.key xs) (sym (second_is g c))
    (back_blocks bytes_order g.T.Keyed.key c.as_slice-blocks.result.now (half g c) (are_blocks g c))

pub returns-clause-joined : goal.returns-clause-joined
returns-clause-joined g c =
    ap (λ (xs : List (List g.row.T.Denot)). items_of xs ++ items_of c.in_ok-second.second) (first_is g c)
    ∙ ap (λ (xs : List (List g.row.T.Denot)). items_of (take (half g c) c.as_slice-blocks.result.now) ++ items_of xs) (second_is g c)
    ∙ items_of_both c.as_slice-blocks.result.now (half g c) ∙ ap (λ (xs : List (List g.row.T.Denot)). items_of xs) c.as_slice-blocks.ensures ∙ c.self.view_is

pub returns-clause-first : goal.returns-clause-first
returns-clause-first g c =
    let bs = c.as_slice-blocks.result.now in
    subst (λ (xs : List (List g.row.T.Denot)). 0 < length (items_of xs)) (sym (first_is g c))
    (some_items (take (half g c) bs) (All-take IsPart (half g c) bs (are_parts bs (are_blocks g c)).each) (omega (arith, length-take (half g c) bs, c.if-blocks-lt2.false)))

pub returns-clause-second : goal.returns-clause-second
returns-clause-second g c =
    let bs = c.as_slice-blocks.result.now in
    subst (λ (xs : List (List g.row.T.Denot)). 0 < length (items_of xs)) (sym (second_is g c))
    (some_items (drop (half g c) bs) (All-drop IsPart (half g c) bs (are_parts bs (are_blocks g c)).each) (omega (arith, length-drop (half g c) bs, c.if-blocks-lt2.false)))
