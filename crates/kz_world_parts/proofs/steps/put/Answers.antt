use Rattle.std.proofs.Common.{◌≡◌, ◌-◌, ℕ, List, [], ◌∷◌, ◌++◌, length, set, refl, ap, ◌∙◌, arith, length-append}
use Rattle.kz_types.specs.declared.machine.Reply.{Reply}
use Rattle.kz_world_parts.proofs.steps.put.Goals as goal

set_here : (made : List Reply) (kept next r : Reply) → set (made ++ kept ∷ next ∷ []) (length made) r ≡ made ++ r ∷ next ∷ []
set_here [] kept next r = refl
set_here (x ∷ xs) kept next r = ap (λ ys. x ∷ ys) (set_here xs kept next r)

set_kept : (items made : List Reply) (kept next r : Reply) (len : ℕ) → items ≡ made ++ kept ∷ next ∷ [] → len ≡ length items → set items (len - 2) r ≡ made ++ r ∷ next ∷ []
set_kept items made kept next r len is count =
    let both = ap length is in
    let sum = length-append made (kept ∷ next ∷ []) in
    let place : len - 2 ≡ length made = omega (arith, count, both, sum) in
    ap (λ n. set items n r) place ∙ ap (λ xs. set xs (length made) r) is ∙ set_here made kept next r

pub returns : goal.returns
returns c = λ made kept next is. set_kept c.args.replies.now.items made kept next c.args.reply c.len-at.result is (c.len-at.ensures ∙ c.args.replies.now.ok.0)
