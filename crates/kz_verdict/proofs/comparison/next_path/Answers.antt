use Rattle.std.proofs.Common.{◌≡◌, ◌∷◌, List, Less, Equal, Greater, sym, ap, ◌∙◌}
use Rattle.kz_types.specs.declared.tree.Rendered.{Rendered}
use Rattle.kz_types.specs.Order.{bytes_cmp}
use Rattle.kz_verdict.specs.declared.comparison.Places.{Places}
use Rattle.kz_verdict.specs.Agreement.{paths_from}
use Rattle.kz_verdict.proofs.NextPaths.{right_next, less_next, both_next, greater_next}
use Rattle.kz_verdict.proofs.comparison.next_path.Goals as goal

next_by : (xs ys : List Rendered) (x z : Rendered) (p q at : Places) → p ≡ q → x ≡ z → x.path ∷ paths_from xs ys q ≡ paths_from xs ys at → z.path ∷ paths_from xs ys p ≡ paths_from xs ys at
next_by xs ys x z p q at places_are is next = ap (λ (r : Rendered). r.path ∷ paths_from xs ys p) (sym is) ∙ ap (λ r. x.path ∷ paths_from xs ys r) places_are ∙ next

pub returns-then-area-i : goal.returns-then-area-i
returns-then-area-i c =
    let xs = c.args.area.now in
    let ys = c.args.rendering.now in
    let at = c.args.at in
    let y = c.index-rendering-j.result in
    next_by xs ys y _ c.new.result _ at c.new.ensures c.index-rendering-j.is
    (right_next xs ys at.area at.rendering y c.if-area-i.true c.if-rendering-j.false c.index-rendering-j.is c.requires)

pub returns-in-Less : goal.returns-in-Less
returns-in-Less c =
    let xs = c.args.area.now in
    let ys = c.args.rendering.now in
    let at = c.args.at in
    let x = c.index-area-i-2.result in
    let y = c.index-rendering-j-2.result in
    let order : bytes_cmp x.path y.path ≡ Less = cc in
    next_by xs ys x _ c.new-in-Less.result _ at c.new-in-Less.ensures c.index-area-i-2.is
    (less_next xs ys at.area at.rendering x y c.if-area-i.false c.index-area-i-2.is c.if-rendering-j-2.false c.index-rendering-j-2.is c.requires order)

pub returns-in-Equal : goal.returns-in-Equal
returns-in-Equal c =
    let xs = c.args.area.now in
    let ys = c.args.rendering.now in
    let at = c.args.at in
    let x = c.index-area-i-2.result in
    let y = c.index-rendering-j-2.result in
    let order : bytes_cmp x.path y.path ≡ Equal = cc in
    next_by xs ys x _ c.new-in-Equal.result _ at c.new-in-Equal.ensures c.index-area-i-2.is
    (both_next xs ys at.area at.rendering x y c.if-area-i.false c.index-area-i-2.is c.if-rendering-j-2.false c.index-rendering-j-2.is c.requires order)

pub returns-in-Greater : goal.returns-in-Greater
returns-in-Greater c =
    let xs = c.args.area.now in
    let ys = c.args.rendering.now in
    let at = c.args.at in
    let x = c.index-area-i-2.result in
    let y = c.index-rendering-j-2.result in
    let order : bytes_cmp x.path y.path ≡ Greater = cc in
    next_by xs ys y _ c.new-in-Greater.result _ at c.new-in-Greater.ensures c.index-rendering-j-2.is
    (greater_next xs ys at.area at.rendering x y c.if-area-i.false c.index-area-i-2.is c.if-rendering-j-2.false c.index-rendering-j-2.is c.requires order)
