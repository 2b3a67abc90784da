use Rattle.std.proofs.Common.{◌≡◌, ◌-◌, ◌/◌, ◌<◌, length, take, drop, sym, ap, ◌∙◌, arith, rules}
use Rattle.std.proofs.lemmas.List.{take_rest}
use Rattle.kz_sorted.specs.BlockLists.{items_of}
use Rattle.kz_row_parts.proofs.Halving.{first_numbered, others_numbered, halves_are}
use Rattle.kz_row_parts.proofs.numbered.NumberedRows.in_two.Goals as goal

pub of_blocks-requires : goal.of_blocks-requires
of_blocks-requires c =
    let bs = c.self.inside.blocks.items in
    let n = c.len-middle.result / 2 in
    let blocks : take (length c.deref.result.now - n) (drop n c.deref.result.now) ≡ drop n bs = take_rest c.deref.result.now n ∙ ap (drop n) c.deref.ensures.value in
    let others : c.in_ok-others.others.items ≡ drop n c.self.inside.segments = c.in_ok-others.ensures.tail ∙ ap (drop n) c.in_ok-numbers.ensures in
    rw (blocks, others) (others_numbered bs c.self.inside.segments n c.self.invariant)

pub of_blocks-requires-2 : goal.of_blocks-requires-2
of_blocks-requires-2 c =
    let bs = c.self.inside.blocks.items in
    let n = c.len-middle.result / 2 in
    let blocks : take n c.deref-2.result.now ≡ take n bs = ap (take n) c.deref-2.ensures.value in
    let first : c.split_off.new.self.items ≡ take n c.self.inside.segments = c.in_ok-others.ensures.items ∙ ap (take n) c.in_ok-numbers.ensures in
    rw (blocks, first) (first_numbered bs c.self.inside.segments n c.self.invariant)

pub returns : goal.returns
returns c =
    let bs = c.self.inside.blocks.items in
    let n = c.len-middle.result / 2 in
    let some : 0 < n = search rules in
    let within : n < length bs = omega (arith, some, c.len-middle.ensures) in
    let second = c.in_ok-second.ensures ∙ ap items_of (take_rest c.deref.result.now n ∙ ap (drop n) c.deref.ensures.value) in
    let first = c.in_ok-first.ensures ∙ ap (λ xs. items_of (take n xs)) c.deref-2.ensures.value in
    rw (first, second, sym c.self.view_is) (halves_are bs c.self.inside.segments n c.self.invariant some within)
