use Rattle.std.proofs.Common.{◌≡◌, List, [], ◌∷◌, ◌++◌, ap, ◌∙◌, sym, subst}
use Rattle.kz_types.specs.declared.tree.Row.{Row}
use Rattle.kz_sorted.specs.BlockLists.{items_of}
use Rattle.kz_row_numbers.specs.declared.joined_numbers.Numbers.{Numbers}
use Rattle.kz_row_parts.specs.Numbered.{numbers_of, AreNumbered}
use Rattle.kz_row_parts.proofs.Ends.{put_in_own, own_numbered}
use Rattle.kz_row_parts.proofs.changes.append_block.Goals as goal

pub returns-clause-ok : goal.returns-clause-ok
returns-clause-ok c =
    let own : c.push.new.self.items ≡ c.args.row ∷ [] = c.in_ok-push.ensures.items ∙ ap (λ (l : List Row). l ++ c.args.row ∷ []) c.new-rows.ensures.items in
    let made : c.push-2.new.self.items ≡ c.args.blocks.now.items ++ (c.args.row ∷ []) ∷ [] = c.in_ok-push-2.ensures.items ∙ ap (λ (b : List Row). c.args.blocks.now.items ++ b ∷ []) (c.in_ok-block.ensures ∙ own) in
    ap items_of made ∙ put_in_own c.args.row c.args.blocks.now.items c.requires.last

pub returns-clause-kept : goal.returns-clause-kept
returns-clause-kept c =
    let own : c.push.new.self.items ≡ c.args.row ∷ [] = c.in_ok-push.ensures.items ∙ ap (λ (l : List Row). l ++ c.args.row ∷ []) c.new-rows.ensures.items in
    let made : c.push-2.new.self.items ≡ c.args.blocks.now.items ++ (c.args.row ∷ []) ∷ [] = c.in_ok-push-2.ensures.items ∙ ap (λ (b : List Row). c.args.blocks.now.items ++ b ∷ []) (c.in_ok-block.ensures ∙ own) in
    let one : c.numbers_of.result ≡ numbers_of (c.args.row ∷ []) = c.numbers_of.ensures ∙ ap numbers_of (c.deref.ensures.value ∙ own) in
    let numbers : c.in_ok-changed.changed ≡ c.args.segments.now ++ numbers_of (c.args.row ∷ []) ∷ [] = c.in_ok-changed.ensures ∙ ap (λ (n : Numbers). c.args.segments.now ++ n ∷ []) one in
    subst (λ (bs : List (List Row)). AreNumbered bs c.in_ok-changed.changed) (sym made) (own_numbered c.args.row c.args.blocks.now.items c.args.segments.now c.in_ok-changed.changed c.requires.numbered c.requires.last numbers)
