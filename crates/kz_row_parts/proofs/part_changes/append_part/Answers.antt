use Rattle.std.proofs.Common.{◌≡◌, List, [], ◌∷◌, ◌++◌, ap, ◌∙◌, sym, subst}
use Rattle.kz_types.specs.declared.tree.Row.{Row}
use Rattle.kz_sorted.specs.BlockLists.{items_of}
use Rattle.kz_spec_data.specs.Tree.{put_row}
use Rattle.kz_row_numbers.specs.declared.joined_numbers.Numbers.{Numbers}
use Rattle.kz_row_parts.specs.Numbered.{numbers_of, AreNumberedParts}
use Rattle.kz_row_parts.proofs.Ends.{all_below, put_in_own, own_part_numbered}
use Rattle.kz_row_parts.proofs.part_changes.append_part.Goals as goal

pub returns-clause-ok : goal.returns-clause-ok
returns-clause-ok c =
    let ps = c.args.parts.now.items in
    let own : c.put.new.self ≡ c.args.row ∷ [] = c.in_ok-put.ensures.ok ∙ ap (put_row c.args.row) c.new-rows.ensures in
    let made : c.push.new.self.items ≡ ps ++ (c.args.row ∷ []) ∷ [] = c.in_ok-push.ensures.items ∙ ap (λ (p : List Row). ps ++ p ∷ []) (c.in_ok-part.ensures ∙ own) in
    ap items_of made ∙ put_in_own c.args.row ps (all_below c.args.row.path (items_of ps) c.requires.last)

pub returns-clause-kept : goal.returns-clause-kept
returns-clause-kept c =
    let ps = c.args.parts.now.items in
    let own : c.put.new.self ≡ c.args.row ∷ [] = c.in_ok-put.ensures.ok ∙ ap (put_row c.args.row) c.new-rows.ensures in
    let made : c.push.new.self.items ≡ ps ++ (c.args.row ∷ []) ∷ [] = c.in_ok-push.ensures.items ∙ ap (λ (p : List Row). ps ++ p ∷ []) (c.in_ok-part.ensures ∙ own) in
    let numbers : c.in_ok-changed.changed ≡ c.args.segments.now ++ numbers_of (c.args.row ∷ []) ∷ [] =
    c.in_ok-changed.ensures ∙ ap (λ (n : Numbers). c.args.segments.now ++ n ∷ []) (c.numbers.ensures ∙ ap numbers_of own) in
    subst (λ (xs : List (List Row)). AreNumberedParts xs c.in_ok-changed.changed) (sym made)
    (own_part_numbered c.args.row ps c.args.segments.now c.in_ok-changed.changed c.requires.numbered (all_below c.args.row.path (items_of ps) c.requires.last) numbers)
