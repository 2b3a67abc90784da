use Rattle.std.proofs.Common.{◌≡◌, ◌<◌, ◌==◌, ◌∷◌, false, length, sym, ap, ◌∙◌, arith, slice_index}
use Rattle.std.specs.List.{AllWithin, slice_split}
use Rattle.std.proofs.lemmas.Bool.{eq-eqb}
use Rattle.std.proofs.lemmas.Str.{IsCharBoundary-after_ascii}
use Rattle.kz_types.proofs.PathRules.{split_next, split_last}
use Rattle.kz_path.proofs.cut.first_part.Goals as goal

pub range_from-requires : goal.range_from-requires
range_from-requires c =
    let at = c.slash_place-at.result in
    let text = c.args.text.now in
    let same : c.as_bytes.result.now ≡ text = c.as_bytes.ensures.value in
    let within : at < length text = let le = c.slash_place-at.ensures.within in let l = ap length same in let other = c.if-at-text.false in omega (arith, le, l, other) in
    let slash : slice_index text at ≡ 47 = rw same at c.slash_place-at.ensures.slash within in
    λ some. IsCharBoundary-after_ascii text at c.utf8.text within (omega (arith, slash))

pub returns-then-at-text : goal.returns-then-at-text
returns-then-at-text c =
    let text = c.args.text.now in
    let same : c.as_bytes.result.now ≡ text = c.as_bytes.ensures.value in
    let none : AllWithin (λ b. (b == 47) ≡ false) text 0 c.slash_place-at.result = rw same at c.slash_place-at.ensures.none in
    let last = c.if-at-text.true in
    split_last text 0 (omega arith) (λ k low high. none k 0 low (omega (arith, high, last)))

pub returns : goal.returns
returns c =
    let at = c.slash_place-at.result in
    let text = c.args.text.now in
    let same : c.as_bytes.result.now ≡ text = c.as_bytes.ensures.value in
    let none : AllWithin (λ b. (b == 47) ≡ false) text 0 at = rw same at c.slash_place-at.ensures.none in
    let within : at < length text = let le = c.slash_place-at.ensures.within in let l = ap length same in let other = c.if-at-text.false in omega (arith, le, l, other) in
    let slash : slice_index text at ≡ 47 = rw same at c.slash_place-at.ensures.slash within in
    split_next text 0 at (omega arith) within (λ k low high. none k 0 low high) (eq-eqb (slice_index text at) 47 slash)
    ∙ (λ i. sym c.range.ensures.value i ∷ slice_split (λ b. b == 47) (sym c.range_from.ensures.value i))
